use Rattle.std.proofs.Common.{◌≡◌, ◌-◌, ◌++◌}
use Rattle.wl_setup.specs.Plans.{repeated}
use Rattle.wl_setup.proofs.traffic.push_instances.Given as goal

-- those so far, and then those that are left, are all
abbrev pub invariant-loop : goal.invariant-loop
invariant-loop l =
    l.all.items ++ repeated l.clock l.end l.every (l.most - l.counter) l.ready l.fn.queued.frame
    ≡ l.initial.all.items ++ repeated l.clock l.end l.every l.most l.fn.queued.ready l.fn.queued.frame
