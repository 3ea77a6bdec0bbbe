use Rattle.std.proofs.Common.{◌≡◌, ◌∙◌, ◌++◌, ap, string_bytes}
use Rattle.std.specs.List.{list_all}
use Rattle.std.proofs.lemmas.Result.{IfOk-equal}
use Rattle.wl_sweep.specs.Findings.{is_clean}
use Rattle.wl_sweep.specs.Sweeps.{all_findings, is_small, row_findings}
use Rattle.wl_map.specs.Cells.{cell_of_row}
use Rattle.wl_map.specs.Maps.{cell_in}
use Rattle.wl_map.specs.Rows.{with_ranges}
use Rattle.wl_map.proofs.Alone.{clean_alone, small_alone}
use Rattle.wl_map.proofs.Growing.{ok_so}
use Rattle.wl_map.proofs.map.push_row.Goals as goal

pub push_cell-requires-after_bounds : goal.push_cell-requires-after_bounds
push_cell-requires-after_bounds g c κs within =
    ap (λ gs. is_small (with_ranges c.args.alone.now gs)) c.in_ok-alone.ensures
    ∙ small_alone (with_ranges c.args.alone.now c.args.ranges.now) c.args.row

pub returns-clause-text : goal.returns-clause-text
returns-clause-text g c =
    let alone = c.args.alone.now in
    let old = string_bytes c.args.text.now in
    IfOk-equal c.push_cell.result (string_bytes c.push_cell.new.text) (old ++ cell_of_row (with_ranges alone c.in_ok-alone.field-0))
    (old ++ cell_in (with_ranges alone c.args.ranges.now) c.args.row) c.push_cell.ensures.text
    (ap (λ gs. old ++ cell_of_row (with_ranges alone gs)) c.in_ok-alone.ensures)

pub returns-clause-clean : goal.returns-clause-clean
returns-clause-clean g c =
    let made = c.in_ok-alone.field-0 in
    let s = with_ranges c.args.alone.now c.args.ranges.now in
    ok_so {P = λ clean. clean ≡ list_all is_clean (all_findings (with_ranges s made))}
    {Q = λ clean. clean ≡ list_all is_clean (row_findings s c.args.row)} c.push_cell.result
    (λ clean is. clean_alone s c.args.row made clean c.a_row_alone_finds_the_same.ensures c.in_ok-alone.ensures is) c.push_cell.ensures.clean
