use Rattle.std.proofs.Common.{◌≡◌, ◌∙◌, ◌++◌, ap, codes, string_bytes, List, ℕ}
use Rattle.std.proofs.lemmas.Result.{IfOk-equal}
use Rattle.wl_init.specs.Texts.{length_words, remarked_line, ecu_place, ecu_units, fixed_words}
use Rattle.wl_init.proofs.Chains.{after_all, chained}
use Rattle.wl_init.proofs.text.push_place.Goals as goal

pub returns : goal.returns
returns c =
    let old = string_bytes c.args.text.now in
    let w0 : List ℕ = fixed_words (codes "x = \"") in
    let w1 : List ℕ = length_words (ecu_units c.args.draft c.args.i) in
    let w2 : List ℕ = remarked_line c.args.i (codes "\"") (codes "its place on the cable") in
    let h0 = c.in_ok-push_said.ensures in
    let h1 = chained old (string_bytes c.push_said.new.text) (string_bytes c.push_length.new.text) (w0) w1 h0 (c.in_ok-push_length.ensures ∙ ap (λ n. string_bytes c.push_said.new.text ++ length_words n) c.ecu_units.ensures) in
    IfOk-equal c.push_line.result (string_bytes c.push_line.new.text) (string_bytes c.push_length.new.text ++ w2) (old ++ (ecu_place c.args.draft c.args.i))
    c.push_line.ensures (after_all old (string_bytes c.push_length.new.text) (w0 ++ w1) w2 h1)
