use Rattle.std.proofs.Common.{arith}
use Rattle.wl_record_core.specs.declared.record.Slot.TheVariants.{EdgeAt}
use Rattle.wl_worker.specs.PlanName.{name_of_plan}
use Rattle.wl_worker.proofs.Told.{edge_told}
use Rattle.wl_worker.proofs.fetch.edge_seen.Goals as goal

pub returns-clause-truth : goal.returns-clause-truth
returns-clause-truth c = λ plan e.
    edge_told plan c.args.node c.args.seq c.look-word.result
    (c.words_tell_records.ensures (name_of_plan plan) (EdgeAt c.args.node c.args.seq) c.look-word.result (c.look-word.ensures.told (name_of_plan plan) e))
    (λ none. let some = c.if-word-eq0.false in absurd (omega arith))
