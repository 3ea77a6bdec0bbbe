use Rattle.std.proofs.Common.{◌≡◌, ◌≤◌, ◌<◌, ◌∙◌, ◌+◌, ◌*◌, ◌^◌, ap, sym, arith, length, length-append}
use Rattle.std.specs.List.{range_with_len}
use Rattle.std.proofs.lemmas.Bool.{leb-true}
use Rattle.wl_sweep.specs.Family.{member_count, run_count, widely_capped}
use Rattle.wl_sweep.specs.Rows.{row_count}
use Rattle.wl_sweep.specs.Sweeps.{row_findings, rows_findings, text_in}
use Rattle.wl_sweep.proofs.Placed.{findings_rows, members_rows}
use Rattle.wl_sweep.proofs.Shares.{row_runs}
use Rattle.wl_sweep.proofs.sweep.Sweep.size.Goals as goal

pub loop-row-preserved : goal.loop-row-preserved
loop-row-preserved c =
    let s = c.args.self.now in
    let row = c.loop-row.row in
    let before = c.loop-row.invariant in
    let f = c.in_ok-family.ensures in
    let rows : c.row_count-row-end.result ≡ row_count s.ranges = c.row_count-row-end.ensures ∙ ap row_count c.as_slice.ensures in
    let most = leb-true (row_count s.ranges) 10000 c.requires in
    let few = before.few in
    let within : row < 10000 = omega arith in
    let own : c.runs.result ≡ length (row_findings s row) =
    c.runs.ensures ∙ (λ i. run_count (f.options i) (f.text i)) ∙ sym (row_runs s row) in
    let kept = c.saturating_add.ensures in
    let sum : c.saturating_add.result ≡ c.loop-row.size.runs + c.runs.result = omega arith in
    record {
      runs =
          sum ∙ (λ i. before.runs i + own i)
          ∙ sym (ap length (findings_rows s row) ∙ length-append (rows_findings s (range_with_len 0 row)) (row_findings s row));
      few = omega arith;
      members =
          c.saturating_add-in-loop-row.ensures
          ∙ (λ i. widely_capped (before.members i + (c.count.ensures ∙ (λ j. member_count (f.options j) (f.text j))) i)) ∙ sym (members_rows s row);
    }
