use Rattle.std.proofs.Common.{◌≡◌, ℕ, ◌+◌, ◌-◌, ◌<◌, ◌≤◌, false}
use Rattle.wl_onward.specs.Silences.{IsPause, is_driven}
use Rattle.wl_calm.proofs.pauses.first_pause.Given as goal

-- no pause begins before, and since then nobody has driven dominant, but not for long enough
abbrev pub invariant-loop-at : goal.invariant-loop-at
invariant-loop-at l = record {
  later : l.settled ≤ l.from;
  order : l.from ≤ l.at;
  short : l.at ≤ l.from + l.long;
  within : l.at ≤ l.plan.end;
  quiet : (t : ℕ) → l.from ≤ t → t < l.at → is_driven l.plan t ≡ false;
  none : (t : ℕ) → l.settled ≤ t → t < l.from → IsPause l.plan l.long t → ⊥;
}

abbrev pub decreases-loop-at : goal.decreases-loop-at
decreases-loop-at l = l.plan.end - l.at
