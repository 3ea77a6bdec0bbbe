-- A run by so many workers does what its task says.
use Rattle.std.proofs.Common.{sym, subst, map, string_bytes}
use Rattle.wl_words.specs.declared.task.Task.{Task}
use Rattle.wl_sim.specs.Tasks.{Does}
use Rattle.wl_sim.proofs.run.Goals as goal

pub returns-in-Run : goal.returns-in-Run
returns-in-Run g c =
    subst
    (λ (task : Task). Does g.R.Source.gives g.W.Sink.takes c.args.reader.now c.run_by.new.reader c.args.writer.now c.run_by.new.writer task (map string_bytes c.args.work.ranges.now) c.args.work.asked.now c.of_verdict.result)
    (sym c.in-Run.is) (c.run_by.result, c.run_by.ensures, c.of_verdict.ensures)

pub returns-in-Margin : goal.returns-in-Margin
returns-in-Margin g c =
    subst
    (λ (task : Task). Does g.R.Source.gives g.W.Sink.takes c.args.reader.now c.margin_run.new.reader c.args.writer.now c.margin_run.new.writer task (map string_bytes c.args.work.ranges.now) c.args.work.asked.now c.of_verdict-in-Margin.result)
    (sym c.in-Margin.is) (c.margin_run.result, c.margin_run.ensures, c.of_verdict-in-Margin.ensures)
