use Rattle.std.proofs.Common.{◌∙◌, ◌++◌, [], ap, sym, codes, List, ℕ}
use Rattle.std.proofs.lemmas.List.{append-nil}
use Rattle.wl_parts.specs.Text.{found_words, number_words, part_text, sweep_words}
use Rattle.wl_parts.proofs.Growing.{grown, grown_by}
use Rattle.wl_parts.proofs.write.part_text.Goals as goal

pub returns : goal.returns
unfolding part_text
returns c =
    let p = c.args.part.now in
    let t0 = c.new-text.result.items in
    let t1 = c.push.new.text.items in
    let t2 = c.push_number.new.text.items in
    let t3 = c.push-2.new.text.items in
    let t4 = c.push_number-2.new.text.items in
    let t5 = c.push_sweep.new.text.items in
    let t6 = c.push_found.new.text.items in
    let a = grown_by t0 t1 t2 (λ rest. codes "{\"part\":" ++ rest) (number_words p.number 44) (grown t0 t1 (codes "{\"part\":") c.in_ok-push.ensures) c.in_ok-push_number.ensures in
    let b = grown_by t0 t2 t3 (λ rest. codes "{\"part\":" ++ number_words p.number 44 rest) (λ rest. codes "\"of\":" ++ rest) a (grown t2 t3 (codes "\"of\":") c.in_ok-push-2.ensures) in
    let d = grown_by t0 t3 t4 (λ rest. codes "{\"part\":" ++ number_words p.number 44 (codes "\"of\":" ++ rest)) (number_words p.count 44) b c.in_ok-push_number-2.ensures in
    let e = grown_by t0 t4 t5 (λ rest. codes "{\"part\":" ++ number_words p.number 44 (codes "\"of\":" ++ number_words p.count 44 rest)) (sweep_words p) d c.in_ok-push_sweep.ensures in
    let f = grown_by t0 t5 t6 (λ rest. codes "{\"part\":" ++ number_words p.number 44 (codes "\"of\":" ++ number_words p.count 44 (sweep_words p rest))) (found_words p.found) e c.in_ok-push_found.ensures in
    sym (append-nil t6) ∙ f [] ∙ ap (λ (t : List ℕ). t ++ (codes "{\"part\":" ++ number_words p.number 44 (codes "\"of\":" ++ number_words p.count 44 (sweep_words p (found_words p.found []))))) c.new-text.ensures.items
