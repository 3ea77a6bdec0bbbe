-- One place to which it takes too long is enough.
use Rattle.std.proofs.Common.{length, nat_lt, sym, arith}
use Rattle.std.proofs.lemmas.Bool.{lt-ltb}
use Rattle.wl_topology.specs.Delays.{disturbance_delay}
use Rattle.wl_topology.specs.Limits.{longest_delay}
use Rattle.wl_topology.proofs.Callers.{any_from}
use Rattle.wl_plan.proofs.plan.Plan.is_far_from.Goals as goal

pub returns-then-place_delay : goal.returns-then-place_delay
returns-then-place_delay c =
    sym (any_from (length c.args.self.now.nodes) c.loop-j.j (λ j. nat_lt longest_delay (disturbance_delay c.args.self.now.topology c.args.x j)) (omega arith) (lt-ltb _ _ (omega arith)))
