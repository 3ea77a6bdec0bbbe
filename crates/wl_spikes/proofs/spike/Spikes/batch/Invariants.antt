use Rattle.std.proofs.Common.{◌≡◌, ◌-◌}
use Rattle.wl_sweep.specs.Tallies.{part_start}
use Rattle.wl_spikes.specs.Tallies.{aftermaths_from, spike_tally}
use Rattle.wl_spikes.proofs.spike.Spikes.batch.Given as goal

abbrev pub invariant-loop-w : goal.invariant-loop-w
invariant-loop-w g l = l.tally ≡ spike_tally (aftermaths_from l.self l.from (part_start l.from l.to l.size l.w - l.from))
