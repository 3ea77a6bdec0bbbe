use Rattle.std.proofs.Common.{ℕ, ◌<◌, get_or}
use Rattle.wl_serial.specs.declared.running_node.Running.{Running}
use Rattle.wl_serial.specs.QuietLine.{IsSilent}
use Rattle.wl_serial.proofs.quiet_line.all_silent_until.Given as goal

-- at the places so far
abbrev pub invariant-loop-j : goal.invariant-loop-j
invariant-loop-j l = (k : ℕ) (d : Running) → k < l.j → IsSilent l.plan l.running k (get_or l.running k d).next l.until
