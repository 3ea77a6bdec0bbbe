use Rattle.std.proofs.Common.{◌≡◌, ◌+◌, drop}
use Rattle.wl_parts.specs.Joined.{beside_from}
use Rattle.wl_parts.proofs.join.check_beside.Given as goal

abbrev pub invariant-loop-i : goal.invariant-loop-i
invariant-loop-i l = beside_from (l.i + 1) l.first (drop l.i l.parts) ≡ beside_from 1 l.first l.parts
