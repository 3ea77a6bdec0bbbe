use Rattle.wl_engines.proofs.Working.{is_report, runs_work}
use Rattle.wl_engines.proofs.workers.workers_run_as.Goals as goal

pub returns-in-Ok : goal.returns-in-Ok
returns-in-Ok g c =
    runs_work g.R.Source.gives g.W.Sink.takes c.args.crew.brief c.args.crew.workers c.args.reader.now c.read_checked.new.reader c.args.writer.now c.write_report.new.writer
    c.in-Ok.plan c.in-Ok._names (c.in-Ok.ensures.answer (λ e. cc)) c.report_by.result (is_report c.args.crew.brief c.in-Ok.plan c.in-Ok._names c.report_by.result c.report_by.ensures.text c.report_by.ensures.clean) c.report_by.ensures.count
    c.report_by.ensures.fault c.write_report.result c.write_report.ensures
