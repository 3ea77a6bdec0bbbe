use Rattle.std.proofs.Common.{◌≡◌, fold, take}
use Rattle.wl_delivery.specs.Joining.{joining_with, no_joining}
use Rattle.wl_delivery.proofs.joining.joined_quantum.Given as goal

-- after the samples so far
abbrev pub invariant-loop-sample : goal.invariant-loop-sample
invariant-loop-sample l = l.joining ≡ fold joining_with no_joining (take l.sample-index l.samples)
