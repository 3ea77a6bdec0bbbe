use Rattle.std.proofs.Common.{◌∙◌, ◌++◌, ◌&&◌, ap, sym, string_bytes}
use Rattle.std.specs.List.{flat_map, list_all, range_with_len}
use Rattle.std.proofs.lemmas.List.{append_assoc}
use Rattle.wl_sweep.specs.Findings.{is_clean}
use Rattle.wl_sweep.specs.Sweeps.{row_findings}
use Rattle.wl_map.specs.Maps.{cell_in}
use Rattle.wl_map.specs.Rows.{with_ranges}
use Rattle.wl_map.proofs.Alone.{cells_up, clean_up}
use Rattle.wl_map.proofs.map.push_cells.Goals as goal

pub loop-row-preserved : goal.loop-row-preserved
loop-row-preserved g c =
    let ranges = c.args.ranges.now in
    let s = with_ranges c.args.sweep ranges in
    let row = c.loop-row.row in
    let old = string_bytes c.args.text.now in
    let before = c.loop-row.invariant in
    let here = c.in_ok-here.ensures in
    let so_far = flat_map (cell_in s) (range_with_len 0 row) in
    record {
      same = ap (λ a. with_ranges a ranges) here.alone ∙ before.same;
      text =
          here.text
          ∙ (λ i. before.text i ++ cell_in (before.same i) row)
          ∙ append_assoc old so_far (cell_in s row)
          ∙ ap (λ t. old ++ t) (sym (cells_up s row));
      clean =
          c.both-clean.ensures
          ∙ (λ i. before.clean i && (here.clean ∙ (λ j. list_all is_clean (row_findings (before.same j) row))) i)
          ∙ sym (clean_up s row);
    }
