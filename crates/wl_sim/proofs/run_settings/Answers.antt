-- The settings were found over the text, or by the words in its place.
use Rattle.std.proofs.Common.{ℕ, subst}
use Rattle.wl_settings.specs.Runs.{RunsSettings}
use Rattle.wl_settings.specs.WordRuns.{RunsWords}
use Rattle.wl_sim.proofs.SettingsFound.{finds_by_text, finds_by_words}
use Rattle.wl_sim.proofs.run_settings.Goals as goal

pub returns-in-empty : goal.returns-in-empty
returns-in-empty g c =
    finds_by_text g.R.Source.gives g.W.Sink.takes c.args.reader.now c.settings_run.new.reader c.args.writer.now c.settings_run.new.writer c.args.tick c.args.shown
    c.args.asked.now c.in-empty.len_below c.settings_run.result
    (subst
    (λ (n : ℕ). RunsSettings g.R.Source.gives g.W.Sink.takes n c.args.shown c.args.reader.now c.settings_run.new.reader c.args.writer.now c.settings_run.new.writer c.settings_run.result)
    c.picoseconds-picoseconds.ensures.value c.settings_run.ensures)

pub returns-in_default : goal.returns-in_default
returns-in_default g c =
    finds_by_words g.R.Source.gives g.W.Sink.takes c.args.reader.now c.args.writer.now c.settings_of_words.new.writer c.args.tick c.args.shown c.args.asked.now
    c.in_default.len_at_least c.settings_of_words.result
    (subst (λ (n : ℕ). RunsWords g.W.Sink.takes n c.args.shown c.args.asked.now c.args.writer.now c.settings_of_words.new.writer c.settings_of_words.result)
    c.picoseconds-picoseconds.ensures.value c.settings_of_words.ensures)
