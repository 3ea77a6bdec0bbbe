use Rattle.std.proofs.Common.{◌≡◌, ℕ, ◌<◌, length, get_or}
use Rattle.wl_topology.specs.Delays.{delay_of}
use Rattle.wl_topology.specs.Limits.{most_places}
use Rattle.wl_serial.proofs.line_at.delays_to.Given as goal

abbrev pub invariant-loop-i : goal.invariant-loop-i
invariant-loop-i l = (length l.delays ≡ most_places) × ((k d : ℕ) → k < l.i → get_or l.delays k d ≡ delay_of l.plan.topology k l.j)
