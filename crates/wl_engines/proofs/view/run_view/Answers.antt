use Rattle.wl_engines.specs.View.{IsOutputOf}
use Rattle.wl_engines.proofs.OutputLemmas.{runs_plan}
use Rattle.wl_engines.proofs.view.run_view.Goals as goal

pub returns-in-Ok : goal.returns-in-Ok
returns-in-Ok g c =
    runs_plan g.R.Source.gives g.W.Sink.takes c.args.reader.now c.read_checked.new.reader c.args.writer.now c.write_view.new.writer
    (IsOutputOf c.args.view) c.in-Ok.plan c.in-Ok.names (c.in-Ok.ensures.answer (λ e. cc)) c.write_view.result c.write_view.ensures
