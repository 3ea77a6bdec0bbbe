use Rattle.std.proofs.Common.{◌∙◌, ap, sym, arith, rules, ℕ, ℤ, List, [], ◌∷◌, ◌++◌, w64, to_z, of_z, map, pos, SFits}
use Rattle.std.specs.Prelude.{◌+ℤ◌, ◌*◌}
use Rattle.std.specs.List.{range_with_len}
use Rattle.std.proofs.lemmas.Int.{to_z-of_z}
use Rattle.std.proofs.lemmas.List.FromFn.{map-range_with_len_more}
use Rattle.wl_sweep.proofs.vary.values_from.Goals as goal

pub loop-k-preserved : goal.loop-k-preserved
loop-k-preserved c =
    let low : ℤ = to_z w64 (of_z w64 c.args.low) in
    let f : ℕ → ℤ = λ k. low +ℤ pos (k * c.args.step) in
    let k = c.loop-k.k in
    let fits : SFits w64 c.raised.result = first_of (search rules, grind arith) in
    c.in_ok-push.ensures.ok
    ∙ ap (λ (vs : List ℤ). vs ++ to_z w64 (of_z w64 c.raised.result) ∷ []) c.loop-k.invariant
    ∙ ap (λ (v : ℤ). map f (range_with_len 0 k) ++ v ∷ []) (to_z-of_z w64 c.raised.result fits ∙ c.raised.ensures)
    ∙ sym (map-range_with_len_more f 0 k k (omega arith))
