use Rattle.std.proofs.Common.{◌≡◌, ◌-◌, ◌≤◌}
use Rattle.wl_sweep.specs.Tallies.{findings_from, tally_of}
use Rattle.wl_sweep.proofs.family.TextFamily.tally.Given as goal

abbrev pub invariant-loop-done : goal.invariant-loop-done
invariant-loop-done g l = record {
  low : l.from ≤ l.done;
  below : l.done ≤ l.to;
  tally : l.tally ≡ tally_of (findings_from l.self.options l.self.text l.from (l.done - l.from));
}

abbrev pub decreases-loop-done : goal.decreases-loop-done
decreases-loop-done g l = l.to - l.done
