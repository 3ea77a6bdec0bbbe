use Rattle.wl_engines.specs.Plans.{IsReportOutput}
use Rattle.wl_engines.proofs.OutputLemmas.{runs_plan_with}
use Rattle.wl_engines.proofs.plan.plan_run_as.Goals as goal

pub returns-in-Ok : goal.returns-in-Ok
returns-in-Ok g c =
    runs_plan_with g.R.Source.gives g.W.Sink.takes c.args.reader.now c.read_checked.new.reader c.args.writer.now c.write_run.new.writer
    (IsReportOutput c.args.brief) c.in-Ok.plan c.in-Ok._names (c.in-Ok.ensures.answer (λ e. cc)) c.write_run.result (c.write_run.ensures c.in-Ok._names)
