use Rattle.std.proofs.Common.{◌≡◌, ◌+◌, ◌-◌, ◌*◌, ◌<◌, ◌==◌, not, min}
use Rattle.wl_bound.specs.Limits.{said_limit}
use Rattle.wl_bound.specs.OneBuses.{the_bus}
use Rattle.wl_bound.specs.Rooms.{gathering, longest_left}
use Rattle.wl_bound.specs.Terms.{drift, greatest, jump, look}
use Rattle.wl_bound.proofs.bus.OneBus.beyond_jump.Given as goal

-- the most of the nodes so far, up to what is counted
abbrev pub invariant-loop-k : goal.invariant-loop-k
invariant-loop-k l =
    (min l.most longest_left
    ≡ min
    (greatest l.k (λ k. not (k == l.i))
    (λ k. 10 * drift (the_bus l.self) l.i k + look (the_bus l.self) k + gathering (the_bus l.self) l.i k - jump (the_bus l.self) l.i)) longest_left)
    × (l.most < said_limit)
