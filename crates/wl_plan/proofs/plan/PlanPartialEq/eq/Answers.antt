use Rattle.std.proofs.Common.{rules, nat_eq}
use Rattle.wl_plan.proofs.EqualProofs.{tells_equal}
use Rattle.wl_plan.proofs.plan.PlanPartialEq.eq.Goals as goal

pub returns-then-eq-3-clause-same : goal.returns-then-eq-3-clause-same
returns-then-eq-3-clause-same c = tells_equal c.args.self.now c.args.other.now (nat_eq c.args.self.now.end c.args.other.now.end) (search rules)

pub returns-else-eq-3-clause-same : goal.returns-else-eq-3-clause-same
returns-else-eq-3-clause-same c = tells_equal c.args.self.now c.args.other.now c.if-eq-2.value (search rules)
