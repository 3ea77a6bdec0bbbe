use Rattle.std.proofs.Common.{◌≡◌, ◌+◌, ◌<◌}
use Rattle.wl_bound.specs.Families.{Bus}
use Rattle.wl_bound.specs.Terms.{behind, greatest, is_answering, trip}
use Rattle.wl_bound.specs.OneBuses.{the_bus}
use Rattle.wl_bound.specs.Limits.{late_limit}
use Rattle.wl_bound.proofs.evaluated.EvaluatedBus.latest_answer.Given as goal

-- the latest over the nodes so far
abbrev pub invariant-loop-a : goal.invariant-loop-a
invariant-loop-a l =
    let b : Bus = the_bus l.self.bus in
    (l.latest ≡ greatest l.a (is_answering b l.i l.j) (λ a. trip b l.i l.j a + behind b l.j a)) × (l.latest < late_limit)
