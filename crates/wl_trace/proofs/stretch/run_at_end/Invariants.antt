use Rattle.std.proofs.Common.{◌≡◌, ◌≤◌, ◌+◌, ◌-◌, length}
use Rattle.wl_level.specs.Places.{run_before, run_at_end}
use Rattle.wl_trace.proofs.stretch.run_at_end.Given as goal

-- so many samples at the end are of the level, and then come those before them
abbrev pub invariant-loop-run : goal.invariant-loop-run
invariant-loop-run l = record {
  few : l.run ≤ length l.samples;
  counted : run_at_end l.level l.samples ≡ l.run + run_before l.level l.samples (length l.samples - l.run);
}

abbrev pub decreases-loop-run : goal.decreases-loop-run
decreases-loop-run l = length l.samples - l.run
