use Rattle.std.proofs.Common.{◌-◌, ◌≤◌, ◌<◌, ℕ}
use Rattle.wl_replica.specs.Dense.{edges_of_row}
use Rattle.wl_replica.specs.Known.{tick_in}
use Rattle.wl_replica.proofs.waves.changes_up_to.Given as goal

-- the changes below low are up to the tick, those from high on are after it
abbrev pub invariant-loop-low : goal.invariant-loop-low
invariant-loop-low l = record {
  order : l.low ≤ l.high;
  few : l.high ≤ l.fn.known.run.length;
  before : (n : ℕ) → n < l.low → tick_in (edges_of_row l.fn.edges n) ≤ l.fn.tick;
  after : (n : ℕ) → l.high ≤ n → n < l.fn.known.run.length → l.fn.tick < tick_in (edges_of_row l.fn.edges n);
}

abbrev pub decreases-loop-low : goal.decreases-loop-low
decreases-loop-low l = l.high - l.low
