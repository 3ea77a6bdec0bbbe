-- A node has few quanta, so few words.
use Rattle.std.proofs.Common.{ℕ, ◌<◌, ◌≤◌, subst, arith}
use Rattle.wl_clock.specs.Timing.{tick_of}
use Rattle.wl_plan.specs.declared.limits.TheConstants.{MOST_QUANTA}
use Rattle.wl_plan.specs.declared.plan.Plan.{Plan}
use Rattle.wl_worker.proofs.Fits.{few_quanta, quotient_small}
use Rattle.wl_worker.proofs.plan_name.words_of.Goals.{After-least_way}
use Rattle.wl_worker.proofs.plan_name.words_of.Goals as goal

few : (c : After-least_way) → c.first_not_before-quanta.result ≤ MOST_QUANTA
few c =
    few_quanta c.args.plan.now c.laws.ensures.sound c.args.i c.first_not_before-quanta.result c.node-node.result.now c.node-node.ensures c.requires.node
    (subst (λ (p : Plan). (k : ℕ) → k < c.first_not_before-quanta.result → tick_of c.node-node.result.now.clock k < p.end) c.deref.ensures.0 c.first_not_before-quanta.ensures.least)

pub overflow_cast-edges : goal.overflow_cast-edges
overflow_cast-edges c =
    let f = few c in
    let q = quotient_small c.first_not_before-quanta.result c.least_way.result in
    omega arith

pub overflow_add-edges-2 : goal.overflow_add-edges-2
overflow_add-edges-2 c =
    let f = few c in
    let q = quotient_small c.first_not_before-quanta.result c.least_way.result in
    omega arith

pub overflow_add-result : goal.overflow_add-result
overflow_add-result c =
    let f = few c in
    let q = quotient_small c.first_not_before-quanta.result c.least_way.result in
    omega arith
