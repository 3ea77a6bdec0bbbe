use Rattle.std.proofs.Common.{◌≡◌, ◌+◌, ◌≤◌}
use Rattle.wl_noise.specs.Noise.{bursts, gap_start, state_before}
use Rattle.wl_noise.proofs.noise.bursts.Given as goal

-- the bursts so far, the state before the next one, and where the gap before it begins
abbrev pub invariant-loop-k : goal.invariant-loop-k
invariant-loop-k l = record {
  made : l.all.items ≡ bursts l.noise l.end l.k;
  words : l.words ≡ state_before l.noise l.k;
  ended : l.ended ≡ gap_start l.noise l.k;
  early : l.ended ≤ l.end + l.noise.length;
}
