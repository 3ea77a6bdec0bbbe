use Rattle.std.proofs.Common.{◌≡◌}
use Rattle.wl_level.specs.Places.{first_place}
use Rattle.wl_engines.specs.Named.{has_name}
use Rattle.wl_engines.proofs.named.named_node.Given as goal

-- the first of the nodes so far
abbrev pub invariant-loop-i : goal.invariant-loop-i
invariant-loop-i l = l.first ≡ first_place (has_name l.names l.name) l.i
