use Rattle.wl_engines.specs.Plans.{IsReportOutput}
use Rattle.wl_engines.proofs.OutputLemmas.{outputs_with}
use Rattle.wl_engines.proofs.plan.write_run.Goals as goal

pub returns : goal.returns
returns g c names =
    let report = c.in_ok-report.report in
    outputs_with g.W.Sink.takes c.args.writer.now c.write_answer.new.writer (IsReportOutput c.args.brief c.args.plan.now names) report.text.items
    c.deref.result.now report.clean c.deref.ensures.value (c.in_ok-report.ensures.text, c.in_ok-report.ensures.clean) c.write_answer.result c.write_answer.ensures
