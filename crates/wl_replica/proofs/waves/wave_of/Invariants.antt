use Rattle.std.proofs.Common.{◌-◌}
use Rattle.wl_replica.specs.Dense.{edges_of_row}
use Rattle.wl_replica.specs.Known.{ticks_from}
use Rattle.wl_replica.proofs.WaveLemmas.{IsMade}
use Rattle.wl_replica.proofs.waves.wave_of.Given as goal

-- what is made so far, and the ticks that are left
abbrev pub invariant-loop-place : goal.invariant-loop-place
invariant-loop-place l =
    let e = edges_of_row l.edges in
    let n = l.known.run.length in
    IsMade (ticks_from e l.fn.first (n - l.fn.first)) l.known.horizon l.set l.since (ticks_from e l.place (n - l.place))
