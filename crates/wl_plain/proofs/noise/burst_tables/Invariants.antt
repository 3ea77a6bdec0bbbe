use Rattle.std.proofs.Common.{◌≡◌, ◌++◌, map, drop}
use Rattle.toml.specs.View.{view}
use Rattle.wl_plain.specs.Noise.{burst_data}
use Rattle.wl_plain.proofs.noise.burst_tables.Given as goal

-- what was made, and then what is made of the bursts that are left
abbrev pub invariant-loop-burst : goal.invariant-loop-burst
invariant-loop-burst l =
    map view l.all.items ++ map (burst_data l.key (map view l.spots)) (drop l.burst-index l.bursts)
    ≡ map (burst_data l.key (map view l.spots)) l.bursts
