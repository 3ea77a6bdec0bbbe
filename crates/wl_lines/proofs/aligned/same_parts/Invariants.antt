use Rattle.std.proofs.Common.{◌≡◌, map, drop}
use Rattle.wl_lines.specs.Shapes.{part_of}
use Rattle.wl_lines.specs.Aligned.{same_parts}
use Rattle.wl_lines.proofs.aligned.same_parts.Given as goal

-- the parts so far are alike, so all are if the others are
abbrev pub invariant-loop-k : goal.invariant-loop-k
invariant-loop-k l = same_parts (map part_of (drop l.k l.a)) (map part_of (drop l.k l.b)) ≡ same_parts (map part_of l.a) (map part_of l.b)
