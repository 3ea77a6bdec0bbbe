use Rattle.std.proofs.Common.{◌≡◌, ◌++◌, map, drop}
use Rattle.toml.specs.View.{view}
use Rattle.wl_plain.proofs.noise.copied.Given as goal

-- what was copied, and then the values that are left
abbrev pub invariant-loop-value : goal.invariant-loop-value
invariant-loop-value l = map view l.all.items ++ map view (drop l.value-index l.values) ≡ map view l.values
