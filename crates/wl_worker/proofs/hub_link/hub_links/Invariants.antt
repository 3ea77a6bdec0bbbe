use Rattle.std.proofs.Common.{◌≡◌, ℕ, ◌<◌, ◌≤◌, get_or, length, vec_len, vec_capacity}
use Rattle.wl_hub.specs.Passes.{IsPassOf, pass_name}
use Rattle.wl_plan.specs.declared.plan.Plan.{Plan}
use Rattle.wl_worker.specs.PlanName.{AreNumbered, IsOfPlan}
use Rattle.wl_worker.proofs.hub_link.hub_links.Given as goal

abbrev pub invariant-loop-worker : goal.invariant-loop-worker
invariant-loop-worker g l =
    IsPassOf l.hub l.pass × (pass_name l.pass ≡ pass_name l.fn.pass) × (vec_len l.links ≡ l.worker) × (l.workers ≤ vec_capacity l.links)
    × ((plan : Plan) (k : ℕ) (d : _) → IsOfPlan l.hub l.fn.pass plan → k < length l.links.items
    → IsOfPlan (get_or l.links.items k d).hub.now (get_or l.links.items k d).pass plan)
    × AreNumbered (λ link. link.worker) l.links.items
