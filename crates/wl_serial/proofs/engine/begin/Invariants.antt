use Rattle.std.proofs.Common.{◌≡◌, ℕ, ◌<◌, length, slice_index_or}
use Rattle.wl_serial.specs.declared.running_node.Running.{Running}
use Rattle.wl_serial.specs.Running.{AllKeep, IsRunning}
use Rattle.wl_serial.proofs.engine.begin.Given as goal

abbrev pub invariant-loop-i : goal.invariant-loop-i
invariant-loop-i l = (length l.running.items ≡ l.i) × ((j : ℕ) (d : Running) → j < length l.running.items → IsRunning l.plan j (slice_index_or l.running.items j d)) × AllKeep l.keeps l.running.items
