use Rattle.std.proofs.Common.{◌≡◌, take}
use Rattle.wl_plan.proofs.plan.copied.Given as goal

abbrev pub invariant-loop-setup : goal.invariant-loop-setup
invariant-loop-setup l = l.copy ≡ take l.setup-index l.setups
