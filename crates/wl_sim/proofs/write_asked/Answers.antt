-- The plan got the settings of the text, or of the words in its place.
use Rattle.std.proofs.Common.{◌≡◌, ℕ, subst}
use Rattle.wl_apply_engine.specs.Applying.{RunsApplied}
use Rattle.wl_settings.specs.Questions.{wanted_by_words}
use Rattle.wl_settings.specs.Texts.{ReadsWanted}
use Rattle.wl_sim.proofs.AppliedFound.{applies_by_text, applies_by_words}
use Rattle.wl_sim.proofs.write_asked.Goals as goal

pub returns-in-empty : goal.returns-in-empty
returns-in-empty g c =
    applies_by_text g.R.Source.gives g.P.Source.gives g.W.Sink.takes c.args.reader.now c.applied_run.new.reader c.args.plan.now c.applied_run.new.plan
    c.args.writer.now c.applied_run.new.writer c.args.applying.tick c.args.applying.asked.now c.in-empty.len_below c.applied_run.result
    (subst
    (λ (n : ℕ). RunsApplied g.P.Source.gives g.W.Sink.takes n c.args.plan.now c.applied_run.new.plan c.args.writer.now c.applied_run.new.writer (λ wanted. ReadsWanted g.R.Source.gives n c.args.reader.now wanted c.applied_run.new.reader) c.applied_run.result)
    c.picoseconds-picoseconds.ensures.value c.applied_run.ensures)

pub returns-in_default : goal.returns-in_default
returns-in_default g c =
    applies_by_words g.R.Source.gives g.P.Source.gives g.W.Sink.takes c.args.reader.now c.args.plan.now c.applied_of_words.new.plan c.args.writer.now
    c.applied_of_words.new.writer c.args.applying.tick c.args.applying.asked.now c.in_default.len_at_least c.applied_of_words.result
    (subst
    (λ (n : ℕ). RunsApplied g.P.Source.gives g.W.Sink.takes n c.args.plan.now c.applied_of_words.new.plan c.args.writer.now c.applied_of_words.new.writer (λ wanted. wanted_by_words n c.args.applying.asked.now ≡ wanted) c.applied_of_words.result)
    c.picoseconds-picoseconds.ensures.value c.applied_of_words.ensures)
