use Rattle.std.proofs.Common.{◌≡◌, ◌-◌, ◌≤◌}
use Rattle.wl_spikes.specs.Tallies.{aftermaths_from, spike_tally}
use Rattle.wl_spikes.proofs.spike.Spikes.tally.Given as goal

abbrev pub invariant-loop-done : goal.invariant-loop-done
invariant-loop-done g l = record {
  below : l.done ≤ l.count;
  tally : l.tally ≡ spike_tally (aftermaths_from l.self 0 (l.done - 0));
}

abbrev pub decreases-loop-done : goal.decreases-loop-done
decreases-loop-done g l = l.count - l.done
