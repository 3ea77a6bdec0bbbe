use Rattle.std.proofs.Common.{◌≡◌, string_bytes}
use Rattle.std.specs.List.{flat_map, range_with_len}
use Rattle.wl_views.specs.Parts.{part_line}
use Rattle.wl_views.proofs.parts.parts_by.Given as goal

-- the lines of the parts so far
abbrev pub invariant-loop-k : goal.invariant-loop-k
invariant-loop-k l = string_bytes l.text ≡ flat_map (part_line l.end l.sent l.errors) (range_with_len 0 l.k)
