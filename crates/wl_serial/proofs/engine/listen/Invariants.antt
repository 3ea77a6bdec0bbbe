use Rattle.std.proofs.Common.{◌≡◌, ℕ, ◌<◌, List, length, slice_index_or}
use Rattle.wl_serial.specs.declared.line_at.LineAt.{LineAt}
use Rattle.wl_serial.specs.declared.running_node.Running.{Running}
use Rattle.wl_serial.specs.LineAt.{IsLineAt, IsHeard}
use Rattle.wl_serial.proofs.engine.listen.Given as goal

abbrev pub invariant-loop-j : goal.invariant-loop-j
invariant-loop-j l = (length l.lines.items ≡ l.j) × ((i : ℕ) (d : LineAt) → i < length l.lines.items → IsLineAt l.plan i (slice_index_or l.lines.items i d))
    × ((rs : List Running) (i : ℕ) (d : LineAt) → i < length l.lines.items → IsHeard l.plan rs i (slice_index_or l.lines.items i d))
