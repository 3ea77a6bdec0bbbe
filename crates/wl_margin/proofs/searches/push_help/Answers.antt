use Rattle.std.proofs.Common.{ap₂, string_bytes}
use Rattle.wl_margin.specs.Margins.{help_line}
use Rattle.wl_margin.proofs.Said.{said}
use Rattle.wl_margin.proofs.searches.push_help.Goals as goal

pub returns : goal.returns
returns c =
    said c.push_help_line.result (string_bytes c.args.text.now) (string_bytes c.push_help_line.new.text)
    (ap₂ help_line c.change_words.ensures c.change_words-2.ensures) c.push_help_line.ensures
