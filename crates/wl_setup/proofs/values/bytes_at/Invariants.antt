use Rattle.std.proofs.Common.{◌≡◌, ◌++◌, map, drop}
use Rattle.std.specs.List.{filter_map}
use Rattle.toml.specs.View.{view}
use Rattle.wl_setup.specs.Kinds.{byte_in}
use Rattle.wl_setup.proofs.values.bytes_at.Given as goal

-- what was read, and then the bytes that are left
abbrev pub invariant-loop-value : goal.invariant-loop-value
invariant-loop-value l = l.bytes ++ filter_map byte_in (map view (drop l.value-index l.value-items)) ≡ filter_map byte_in (map view l.value-items)
