use Rattle.std.proofs.Common.{◌++◌, codes, subst, List, ℕ}
use Rattle.wl_parts.specs.Text.{AddsWords, bytes_words, list_words, word_words}
use Rattle.wl_parts.proofs.Growing.{grown, grown_by}
use Rattle.wl_parts.proofs.write.push_sweep.Goals as goal

pub returns : goal.returns
returns c =
    let p = c.args.part.now in
    let t0 = c.args.text.now.items in
    let t1 = c.push.new.text.items in
    let t2 = c.push_bytes.new.text.items in
    let t3 = c.push-2.new.text.items in
    let t4 = c.push_words.new.text.items in
    let t5 = c.push-3.new.text.items in
    let t6 = c.push_bytes-2.new.text.items in
    let t7 = c.push-4.new.text.items in
    let t8 = c.push_bytes-3.new.text.items in
    let of = codes "\"sweep\":" in
    let words = codes ",\"words\":[" in
    let members = codes "null],\"members\":" in
    let tail = codes ",\"tail\":" in
    let a = grown_by t0 t1 t2 (λ rest. of ++ rest) (bytes_words p.of) (grown t0 t1 of c.in_ok-push.ensures)
    (subst (λ (l : List ℕ). AddsWords t1 t2 (bytes_words l)) c.as_slice.ensures c.in_ok-push_bytes.ensures) in
    let b = grown_by t0 t2 t3 (λ rest. of ++ bytes_words p.of rest) (λ rest. words ++ rest) a (grown t2 t3 words c.in_ok-push-2.ensures) in
    let d = grown_by t0 t3 t4 (λ rest. of ++ bytes_words p.of (words ++ rest)) (list_words word_words p.words) b
    (subst (λ (l : List (List ℕ)). AddsWords t3 t4 (list_words word_words l)) c.as_slice-2.ensures c.in_ok-push_words.ensures) in
    let e = grown_by t0 t4 t5 (λ rest. of ++ bytes_words p.of (words ++ list_words word_words p.words rest)) (λ rest. members ++ rest) d (grown t4 t5 members c.in_ok-push-3.ensures) in
    let g = grown_by t0 t5 t6 (λ rest. of ++ bytes_words p.of (words ++ list_words word_words p.words (members ++ rest))) (bytes_words p.members) e
    (subst (λ (l : List ℕ). AddsWords t5 t6 (bytes_words l)) c.as_slice-3.ensures c.in_ok-push_bytes-2.ensures) in
    let h = grown_by t0 t6 t7 (λ rest. of ++ bytes_words p.of (words ++ list_words word_words p.words (members ++ bytes_words p.members rest))) (λ rest. tail ++ rest) g (grown t6 t7 tail c.in_ok-push-4.ensures) in
    grown_by t0 t7 t8 (λ rest. of ++ bytes_words p.of (words ++ list_words word_words p.words (members ++ bytes_words p.members (tail ++ rest)))) (bytes_words p.tail)
    h (subst (λ (l : List ℕ). AddsWords t7 t8 (bytes_words l)) c.as_slice-4.ensures c.in_ok-push_bytes-3.ensures)
