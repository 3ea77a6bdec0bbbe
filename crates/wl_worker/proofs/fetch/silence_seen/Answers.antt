use Rattle.std.proofs.Common.{arith}
use Rattle.wl_record_core.specs.declared.record.Slot.TheVariants.{SilenceAt}
use Rattle.wl_worker.specs.PlanName.{name_of_plan}
use Rattle.wl_worker.proofs.Told.{silence_told}
use Rattle.wl_worker.proofs.fetch.silence_seen.Goals as goal

pub returns-clause-truth : goal.returns-clause-truth
returns-clause-truth c = λ plan e.
    silence_told plan c.args.node c.args.count c.look-word.result
    (c.words_tell_records.ensures (name_of_plan plan) (SilenceAt c.args.node c.args.count) c.look-word.result (c.look-word.ensures.told (name_of_plan plan) e))
    (λ none. let some = c.if-word-eq0.false in absurd (omega arith))
