use Rattle.std.proofs.Common.{ℕ, ◌<◌, List, get_or}
use Rattle.wl_serial.specs.declared.line_at.LineAt.{LineAt}
use Rattle.wl_serial.specs.declared.running_node.Running.{Running}
use Rattle.wl_serial.specs.LineAt.{AreLines, IsHeard}
use Rattle.wl_serial.proofs.guess.forget.Given as goal

-- the places so far have heard nothing
abbrev pub invariant-loop-j : goal.invariant-loop-j
invariant-loop-j l = AreLines l.plan l.lines × ((rs : List Running) (k : ℕ) (d : LineAt) → k < l.j → IsHeard l.plan rs k (get_or l.lines k d))
