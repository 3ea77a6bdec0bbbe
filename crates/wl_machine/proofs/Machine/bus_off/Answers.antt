use Rattle.std.proofs.Common.{[], ◌∷◌}
use Rattle.wl_machine.specs.Stretch.Input.{SwitchedOff}
use Rattle.wl_machine.proofs.Machine.bus_off.Goals as goal

pub invariant_of-self : goal.invariant_of-self
invariant_of-self c = record { reached = ∣ (SwitchedOff ∷ [], c.switch_off.ensures) ∣₁ }
