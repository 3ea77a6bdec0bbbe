use Rattle.wl_engines.specs.Margin.{IsMarginOutput}
use Rattle.wl_engines.proofs.OutputLemmas.{runs_bus}
use Rattle.wl_engines.proofs.margin.margin_run.Goals as goal

pub returns-in-Ok : goal.returns-in-Ok
returns-in-Ok g c =
    runs_bus g.R.Source.gives g.W.Sink.takes c.args.reader.now c.read_bus.new.reader c.args.writer.now c.write_margin.new.writer
    (IsMarginOutput c.args.tick c.args.all_send) c.in-Ok.bus (c.in-Ok.ensures.answer (λ e. cc)) c.write_margin.result c.write_margin.ensures
