-- What is said of each node is after what is said of the nodes before it.
use Rattle.std.proofs.Common.{◌<◌, ◌≤◌, length, sym, subst, ◌∙◌, arith}
use Rattle.std.proofs.lemmas.Iterator.Adapters.{YieldsList-from_vec}
use Rattle.std.proofs.lemmas.Iterator.Consumers.{YieldsList-turn}
use Rattle.wl_plan.specs.PlanLine.{table_of}
use Rattle.wl_serial.specs.Outcome.{node_outcome_of, node_totals}
use Rattle.wl_serial.proofs.Runners.{told_by, stands_at}
use Rattle.wl_serial.proofs.recorded.counted_at_end.Goals as goal

pub loop-r-preserved : goal.loop-r-preserved
loop-r-preserved c =
    let all = c.requires.running.all in
    let h = c.into_iter-r-iterator.ensures.into_iter_gives in
    let t = YieldsList-turn (YieldsList-from_vec {s = c.into_iter-r-iterator.result} c.args.running.items h.0 (h.1 ∙ c.args.running.ok.0)) c.loop-r.yielded c.loop-r.r-iterator c.loop-r.yielded_by c.next.result c.next.new.self c.in-Some.r c.in-Some.is c.next.ensures.steps in
    let is_node : length c.loop-r.yielded < length c.args.plan.now.nodes = omega arith in
    let is = stands_at c.args.plan.now c.args.running.items (length c.loop-r.yielded) c.in-Some.r t.0 t.1 c.requires.running in
    let past = subst (λ r. c.args.plan.now.end ≤ r.next) (sym t.1) (c.requires.ended (length c.loop-r.yielded) c.in-Some.r t.0) in
    record {
      drives = told_by (table_of c.args.plan.now) c.loop-r.yielded c.in-Some.r c.loop-r.drives c.push.new.self c.counted-changes.result.0 c.in_ok-push.ensures.ok c.loop-r.invariant.drives
          (c.counted-changes.ensures.drives c.args.plan.now (length c.loop-r.yielded) c.laws.ensures.checked is_node is past);
      totals = told_by (λ i. node_totals (node_outcome_of c.args.plan.now i)) c.loop-r.yielded c.in-Some.r c.loop-r.totals c.push-in-loop-r.new.self c.counted-changes.result.1 c.in_ok-push-2.ensures.ok c.loop-r.invariant.totals
          (c.counted-changes.ensures.totals c.args.plan.now (length c.loop-r.yielded) c.laws.ensures.checked is_node is past);
    }
