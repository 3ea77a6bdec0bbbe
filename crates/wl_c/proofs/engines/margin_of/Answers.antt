use Rattle.std.proofs.Common.{subst}
use Rattle.wl_engines.specs.declared.kept.Kept.{Kept}
use Rattle.wl_c.proofs.Direct.{bus_made}
use Rattle.wl_c.specs.Made.{IsMade}
use Rattle.wl_engines.specs.Margin.{IsMarginOutput}
use Rattle.wl_engines.specs.declared.reader.TextReader.{TextReader}
use Rattle.wl_c.proofs.engines.margin_of.Goals as goal

pub returns : goal.returns
returns c =
    let made = subst (λ a. IsMade a c.margin_run-found.new.writer.bytes.items c.made_by.result) c.without_answer-answer.ensures c.made_by.ensures in
    bus_made (λ (s : TextReader). s.rest.now) (λ (k : Kept). k.bytes.items) (record { rest = c.args.text }) c.margin_run-found.new.reader c.new-kept.result c.margin_run-found.new.writer
    c.new-kept.ensures (IsMarginOutput c.args.tick c.args.all_send) c.margin_run-found.result c.made_by.result c.margin_run-found.ensures made
