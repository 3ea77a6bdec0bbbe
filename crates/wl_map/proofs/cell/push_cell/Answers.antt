use Rattle.std.proofs.Common.{◌∙◌, string_bytes}
use Rattle.wl_map.proofs.Celled.{celled}
use Rattle.wl_map.proofs.cell.push_cell.Goals as goal

pub returns-clause-text : goal.returns-clause-text
returns-clause-text g c =
    celled c.args.row.now c.in_ok-told.tally c.of.result (string_bytes c.args.text.now) c.as_str.result.now (string_bytes c.push_coloured.new.text)
    (string_bytes c.push_first_error.new.text) c.in_ok-told.ensures.tally c.of.ensures (c.as_str.ensures.value ∙ c.in_ok-told.ensures.text)
    c.in_ok-push_coloured.ensures c.in_ok-push_first_error.ensures
