-- What a member says after quanta in a row is of the slots in which the replica has room.
use Rattle.std.proofs.Common.{◌≡◌, ◌∙◌, ◌+◌, List, All, Contains, ap, subst, sym}
use Rattle.wl_level.specs.Levels.{level_of}
use Rattle.wl_record_core.specs.declared.record.Record.{Record}
use Rattle.wl_record_core.specs.declared.record.Slot.{Slot}
use Rattle.wl_record_core.specs.Slots.{slot_of}
use Rattle.wl_replica.specs.State.{State, Fits}
use Rattle.wl_node.specs.Reached.{quanta_of}
use Rattle.wl_plan.specs.Line.{found}
use Rattle.wl_plan.specs.PlanLine.{line_of}
use Rattle.wl_plan.specs.Simulation.{level}
use Rattle.wl_group.specs.Running.{slots_ahead}
use Rattle.wl_group.specs.GroupValue.{member_after}
use Rattle.wl_group.specs.Through.{spoken}
use Rattle.wl_group.proofs.ThroughProofs.{said_ahead}
use Rattle.wl_group.proofs.ahead.run_over.Goals as goal

pub take_all-requires-clause-fits : goal.take_all-requires-clause-fits
take_all-requires-clause-fits c =
    let gone = c.in-Ok.ensures.gone in
    let said = c.deref.ensures.0 ∙ gone.says in
    subst (λ (s : State). All (Fits s.nodes) c.deref.result.now) (sym c.in_ok-prepared.ensures.known)
    (subst (λ (rs : List Record). All (Fits c.args.replica.now.nodes) rs) (sym said) (c.requires.says gone.n gone.early gone.stays))

pub take_all-requires-clause-room : goal.take_all-requires-clause-room
take_all-requires-clause-room c =
    let gone = c.in-Ok.ensures.gone in
    let l = line_of c.args.plan.now in
    let k = quanta_of c.args.cell.now.node + gone.n in
    let m = member_after l c.args.i k in
    let said = c.deref.ensures.0 ∙ gone.says in
    let slots : c.in_ok-prepared.prepared.slots ≡ slots_ahead c.args.i m.changed =
    c.in_ok-prepared.ensures.slots ∙ (c.next_slots.ensures ∙ ap (slots_ahead c.args.i) (c.requires.cell.changed ∙ sym gone.stays.changed)) in
    subst (λ (rs : List Record). All (λ r. Contains c.in_ok-prepared.prepared.slots (slot_of r)) rs) (sym said)
    (subst (λ (ss : List Slot). All (λ r. Contains ss (slot_of r)) (spoken l c.args.i k)) (sym slots) (said_ahead l c.args.i m (level_of (found l (level l) c.args.i (l.instant c.args.i k)))))
