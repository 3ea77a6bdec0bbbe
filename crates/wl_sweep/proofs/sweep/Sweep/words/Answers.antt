use Rattle.std.proofs.Common.{◌≡◌, ◌∙◌, ◌++◌, ◌∷◌, [], ap, sym, map}
use Rattle.std.specs.List.{range_with_len}
use Rattle.std.proofs.lemmas.List.{map-append}
use Rattle.wl_sweep.specs.Words.{row_words}
use Rattle.wl_sweep.proofs.Placed.{rows_up}
use Rattle.wl_sweep.proofs.sweep.Sweep.words.Goals as goal

pub loop-row-preserved : goal.loop-row-preserved
loop-row-preserved c =
    let s = c.args.self.now in
    let row = c.loop-row.row in
    let line : c.in_ok-listed.field-0 ≡ row_words row s.ranges =
    c.in_ok-listed.ensures ∙ c.as_str.ensures.value ∙ c.in_ok-push_values.ensures
    ∙ (λ i. c.new-text.ensures.bytes i ++ row_words row (c.as_slice-in-loop-row.ensures i)) in
    c.in_ok-push.ensures.ok ∙ (λ i. c.loop-row.invariant i ++ line i ∷ [])
    ∙ sym (ap (map (λ r. row_words r s.ranges)) (rows_up row) ∙ map-append (λ r. row_words r s.ranges) (range_with_len 0 row) (row ∷ []))
