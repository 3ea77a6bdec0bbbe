use Rattle.std.proofs.Common.{◌≡◌, ◌++◌, map, drop}
use Rattle.toml.specs.View.{view}
use Rattle.wl_plain.specs.Nodes.{plain_frame_of}
use Rattle.wl_plain.proofs.frame.plain_values.Given as goal

-- what was made, and then what is made of the values that are left
abbrev pub invariant-loop-value : goal.invariant-loop-value
invariant-loop-value l =
    map view l.all.items ++ map (plain_frame_of l.units l.beat) (map view (drop l.value-index l.values))
    ≡ map (plain_frame_of l.units l.beat) (map view l.values)
