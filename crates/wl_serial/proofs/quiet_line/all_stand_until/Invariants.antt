use Rattle.std.proofs.Common.{ℕ, ◌<◌, ◌≤◌, get_or}
use Rattle.wl_serial.specs.declared.running_node.Running.{Running}
use Rattle.wl_serial.specs.QuietLine.{NodeStands}
use Rattle.wl_serial.proofs.quiet_line.all_stand_until.Given as goal

-- the nodes so far
abbrev pub invariant-loop-i : goal.invariant-loop-i
invariant-loop-i l = (0 < l.until → (k : ℕ) (d : Running) → k < l.i → NodeStands l.plan l.until k (get_or l.running k d)) × (l.until ≤ l.most)
