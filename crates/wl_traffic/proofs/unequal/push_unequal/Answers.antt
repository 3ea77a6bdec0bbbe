use Rattle.std.proofs.Common.{◌∙◌, ◌++◌, ap, sym, append_assoc, string_bytes, ℕ, List, take}
use Rattle.wl_traffic.specs.declared.unequal.Unequal.{Unequal}
use Rattle.wl_traffic.specs.Unequal.{unequal_line, unequal_lines}
use Rattle.wl_traffic.proofs.Growing.{flat_more}
use Rattle.wl_traffic.proofs.unequal.push_unequal.Goals as goal

pub loop-unequal-preserved : goal.loop-unequal-preserved
loop-unequal-preserved c =
    let all : List Unequal = c.args.all.now in
    let k : ℕ = c.loop-unequal.unequal-index in
    let d : Unequal = c.unequal-item.result in
    let line = unequal_line c.args.names.now in
    let old : List ℕ = string_bytes c.args.text.now in
    c.in_ok-push_line.ensures
    ∙ ap (λ (xs : List ℕ). xs ++ line d) c.loop-unequal.invariant
    ∙ append_assoc old (unequal_lines c.args.names.now (take k all)) (line d)
    ∙ ap (λ (u : Unequal). old ++ (unequal_lines c.args.names.now (take k all) ++ line u)) c.unequal-item.is
    ∙ ap (λ (xs : List ℕ). old ++ xs) (sym (flat_more line all k d c.loop-unequal-test.true))
