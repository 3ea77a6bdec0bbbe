use Rattle.std.proofs.Common.{◌≡◌, ℕ, ◌<◌, length, get_or}
use Rattle.wl_serial.specs.declared.running_node.Before.{Before}
use Rattle.wl_serial.specs.declared.running_node.Running.{Running}
use Rattle.wl_serial.specs.Guess.{IsBefore}
use Rattle.wl_serial.proofs.guess.keep.Given as goal

-- the nodes so far are marked
abbrev pub invariant-loop-i : goal.invariant-loop-i
invariant-loop-i l = (length l.marks.items ≡ l.i) × ((k : ℕ) (d : Running) (b : Before) → k < l.i → IsBefore (get_or l.running k d) (get_or l.marks.items k b))
