use Rattle.std.proofs.Common.{◌≡◌, ◌++◌, suc, take, drop, map}
use Rattle.wl_plan.specs.Limits.{most_queued}
use Rattle.wl_setup.specs.Plans.{all_instances, as_queued}
use Rattle.wl_setup.proofs.traffic.in_order.Given as goal

-- of those so far and those that are left as many are taken as of all
abbrev pub invariant-loop-n : goal.invariant-loop-n
invariant-loop-n l =
    take (suc most_queued) (l.all.items ++ all_instances l.clock l.end (drop l.n l.texts) (drop l.n l.queue))
    ≡ take (suc most_queued) (all_instances l.clock l.end l.texts l.queue)

-- those that are left follow on these
abbrev pub invariant-loop-ready : goal.invariant-loop-ready
invariant-loop-ready l = l.waiting ++ map as_queued (drop l.ready-index l.ready-items) ≡ map as_queued l.ready-items
