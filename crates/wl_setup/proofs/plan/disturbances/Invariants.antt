use Rattle.std.proofs.Common.{◌≡◌, ◌++◌, map, drop}
use Rattle.wl_setup.specs.Names.{names_of}
use Rattle.wl_setup.specs.Plans.{disturbance_in}
use Rattle.wl_setup.proofs.plan.disturbances.Given as goal

-- those that are left follow on these
abbrev pub invariant-loop-text : goal.invariant-loop-text
invariant-loop-text l = l.all ++ map (disturbance_in (names_of l.plan)) (drop l.text-index l.plan.disturbance) ≡ map (disturbance_in (names_of l.plan)) l.plan.disturbance
