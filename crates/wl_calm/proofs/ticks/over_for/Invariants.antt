use Rattle.std.proofs.Common.{◌≡◌, fold, max, take}
use Rattle.wl_onward.specs.Silences.{over_at}
use Rattle.wl_calm.proofs.ticks.over_for.Given as goal

-- when the disturbances so far are over
abbrev pub invariant-loop-d : goal.invariant-loop-d
invariant-loop-d l = l.over ≡ fold (λ t d. max t (over_at l.plan l.i d)) 0 (take l.d-index l.plan.disturbances)
