use Rattle.std.proofs.Common.{◌≡◌}
use Rattle.wl_parts.specs.Joined.{found_together}
use Rattle.wl_parts.proofs.join.found_together.Given as goal

abbrev pub invariant-loop-before : goal.invariant-loop-before
invariant-loop-before l = l.found ≡ found_together l.before l.parts
