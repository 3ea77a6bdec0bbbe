use Rattle.std.proofs.Common.{◌≡◌, ◌++◌, string_bytes, take}
use Rattle.std.specs.List.{flat_map}
use Rattle.wl_map.specs.Maps.{axis_value}
use Rattle.wl_map.proofs.axes.push_values.Given as goal

-- those so far come after the text
abbrev pub invariant-loop-value : goal.invariant-loop-value
invariant-loop-value l = string_bytes l.text ≡ string_bytes l.initial.text ++ flat_map axis_value (take l.value-index l.values)
