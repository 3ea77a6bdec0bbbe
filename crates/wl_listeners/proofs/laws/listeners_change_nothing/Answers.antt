use Rattle.std.proofs.Common.{◌∙◌, ap, arith}
use Rattle.wl_clock.specs.Timing.{tick_of}
use Rattle.wl_plan.specs.PlanLine.{line_of}
use Rattle.wl_plan.specs.Simulation.{changes_below}
use Rattle.wl_listeners.proofs.Listeners.{without_listeners}
use Rattle.wl_listeners.proofs.Parts.{same_quanta}
use Rattle.wl_listeners.proofs.laws.listeners_change_nothing.Goals as goal

pub returns : goal.returns
returns c = record {
  seen = λ plan other at checked is i t inside.
      c.a_part_goes_as_in_the_whole.ensures.seen (line_of other) (line_of plan) at t (c.checked_is_sound.ensures plan checked).causal
      (without_listeners plan other at checked is t) i t inside (omega arith);
  quanta = λ plan other at checked alone is i k inside before.
      (let causal = (c.checked_is_sound.ensures plan checked).causal in
      same_quanta c.simulation_laws.ensures (line_of other) (line_of plan) i (at i) k (c.checked_is_sound.ensures other alone).causal causal inside (is.nodes.inside i inside)
      (λ n. ap (λ s. tick_of s.clock n) (is.nodes.setups i inside)) is.nodes.end
      (λ t. c.a_part_goes_as_in_the_whole.ensures.seen (line_of other) (line_of plan) at t causal (without_listeners plan other at checked is t) i t inside (omega arith)) before);
  changes = λ plan other at checked is i inside.
      ap (changes_below (line_of other) i) is.nodes.end
      ∙ c.a_part_goes_as_in_the_whole.ensures.changes (line_of other) (line_of plan) at plan.end (c.checked_is_sound.ensures plan checked).causal
      (without_listeners plan other at checked is plan.end) i plan.end inside (omega arith);
}
