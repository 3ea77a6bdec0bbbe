use Rattle.wl_plan.specs.PlanLine.{line_of}
use Rattle.wl_listeners.proofs.Listeners.{without_late_nodes}
use Rattle.wl_listeners.proofs.laws.late_nodes_change_nothing_before.Goals as goal

pub returns : goal.returns
returns c = record {
  seen = λ plan other at until checked is i t inside early.
      (let causal = (c.checked_is_sound.ensures plan checked).causal in
      c.a_part_goes_as_in_the_whole.ensures.seen (line_of other) (line_of plan) at until causal (without_late_nodes c.simulation_laws.ensures plan other at until causal is) i t inside early);
  changes = λ plan other at until checked is i t inside early.
      (let causal = (c.checked_is_sound.ensures plan checked).causal in
      c.a_part_goes_as_in_the_whole.ensures.changes (line_of other) (line_of plan) at until causal (without_late_nodes c.simulation_laws.ensures plan other at until causal is) i t inside early);
}
