use Rattle.std.proofs.Common.{◌≡◌, ◌-◌}
use Rattle.wl_spikes.specs.Tallies.{aftermaths_from, spike_tally}
use Rattle.wl_spikes.proofs.spike.Spikes.part.Given as goal

abbrev pub invariant-loop-n : goal.invariant-loop-n
invariant-loop-n l = l.tally ≡ spike_tally (aftermaths_from l.self l.from (l.n - l.from))
