use Rattle.std.proofs.Common.{◌≡◌, ◌++◌, string_bytes, take}
use Rattle.wl_map.specs.Maps.{range_lines}
use Rattle.wl_map.proofs.axes.push_ranges.Given as goal

-- those so far come after the text
abbrev pub invariant-loop-range : goal.invariant-loop-range
invariant-loop-range l = string_bytes l.text ≡ string_bytes l.initial.text ++ range_lines l.label (take l.range-index l.ranges)
