use Rattle.std.proofs.Common.{subst, map, string_bytes, List}
use Rattle.std.specs.Process.{exit_status}
use Rattle.clap.specs.Words.{Text}
use Rattle.wl_words.specs.CommandLine.{NamesTask}
use Rattle.wl_sim.specs.Orders.{EndsPlainly, RunsWords}
use Rattle.wl_words.specs.declared.task.Task.{Task}
use Rattle.wl_sim.proofs.Words.{of_ok, runs_named}
use Rattle.wl_sim.proofs.run_words.Goals as goal

pub returns-in-Ok-clause-words : goal.returns-in-Ok-clause-words
returns-in-Ok-clause-words g c =
    let runs : List Text → Type 0 = λ words.
    RunsWords g.R.Source.gives g.W.Sink.takes g.F.Reader.Source.gives g.F.Writer.Sink.takes g.F.Folder.opens g.F.Folder.stands g.F.Folder.holds
    c.args.reader.now c.run_given.new.reader c.args.writer.now c.run_given.new.writer c.args.folder.now c.run_given.new.folder
    words (exit_status c.run_given.result) in
    let done = subst (λ items. runs (map string_bytes items)) c.as_slice.ensures.value c.run_given.ensures in
    of_ok c.args.words c.in-Ok.words (λ given. runs (map string_bytes given.items)) c.in-Ok.is done

pub returns-in-Ok-clause-named : goal.returns-in-Ok-clause-named
returns-in-Ok-clause-named g c =
    let runs : List Text → Type 0 = λ words.
    RunsWords g.R.Source.gives g.W.Sink.takes g.F.Reader.Source.gives g.F.Writer.Sink.takes g.F.Folder.opens g.F.Folder.stands g.F.Folder.holds
    c.args.reader.now c.run_given.new.reader c.args.writer.now c.run_given.new.writer c.args.folder.now c.run_given.new.folder
    words (exit_status c.run_given.result) in
    let done = subst (λ items. runs (map string_bytes items)) c.as_slice.ensures.value c.run_given.ensures in
    let ends : Task → Type 0 = λ task.
    EndsPlainly g.R.Source.gives g.W.Sink.takes g.F.Reader.Source.gives g.F.Writer.Sink.takes g.F.Folder.opens g.F.Folder.stands g.F.Folder.holds
    c.args.reader.now c.run_given.new.reader c.args.writer.now c.run_given.new.writer c.args.folder.now c.run_given.new.folder
    task (exit_status c.run_given.result) in
    of_ok c.args.words c.in-Ok.words (λ given. (task : Task) → NamesTask task (map string_bytes given.items) → ends task) c.in-Ok.is (λ task named.
    runs_named g.R.Source.gives g.W.Sink.takes g.F.Reader.Source.gives g.F.Writer.Sink.takes g.F.Folder.opens g.F.Folder.stands g.F.Folder.holds
    c.args.reader.now c.run_given.new.reader c.args.writer.now c.run_given.new.writer c.args.folder.now c.run_given.new.folder
    (map string_bytes c.in-Ok.words.items) (exit_status c.run_given.result) c.a_word_is_read_as_its_task.ensures done task named)
