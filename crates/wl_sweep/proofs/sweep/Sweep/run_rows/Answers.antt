use Rattle.std.proofs.Common.{◌≡◌, ◌∙◌, ◌+◌, ◌<◌, ◌++◌, ◌∷◌, [], ap, sym, arith, string_bytes}
use Rattle.std.specs.List.{range_with_len}
use Rattle.std.proofs.lemmas.Bool.{leb-true}
use Rattle.std.proofs.lemmas.List.{append_assoc}
use Rattle.wl_sweep.specs.Family.{widely_capped}
use Rattle.wl_sweep.specs.Rows.{row_count}
use Rattle.wl_sweep.specs.Sweeps.{rows_lines}
use Rattle.wl_sweep.proofs.Placed.{lines_rows, members_rows, tally_rows}
use Rattle.wl_sweep.proofs.sweep.Sweep.run_rows.Goals as goal

pub loop-row-preserved : goal.loop-row-preserved
loop-row-preserved g c =
    let s = c.args.self.now in
    let row = c.loop-row.row in
    let old = string_bytes c.args.text.now in
    let before = c.loop-row.invariant in
    let here = c.in_ok-more.ensures in
    let rows : c.row_count-row-end.result ≡ row_count s.ranges = c.row_count-row-end.ensures ∙ ap row_count c.as_slice.ensures in
    let few = leb-true (row_count s.ranges) 10000 c.requires in
    let within : row < 10000 = omega arith in
    record {
      tally = tally_rows s row c.loop-row.sum.tally c.in_ok-more.more.tally c.then-sum.result (omega arith) within c.then-sum.ensures before.tally here.tally;
      members = c.saturating_add.ensures ∙ (λ i. widely_capped (before.members i + here.members i)) ∙ sym (members_rows s row);
      text =
          here.text ∙ ap (λ t. t ++ rows_lines s (row ∷ [])) before.text
          ∙ append_assoc old (rows_lines s (range_with_len 0 row)) (rows_lines s (row ∷ []))
          ∙ ap (λ t. old ++ t) (sym (lines_rows s row));
    }
