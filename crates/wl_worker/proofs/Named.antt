-- A pass that is of a group's plan is so after a look, and after the group took what is true.
use Rattle.std.proofs.Common.{◌≡◌, ◌∙◌}
use Rattle.wl_group.specs.GroupValue.{GroupValue}
use Rattle.wl_hub.specs.declared.hub.Hub.{Hub}
use Rattle.wl_hub.specs.declared.hub.Pass.{Pass}
use Rattle.wl_hub.specs.Passes.{pass_name}
use Rattle.wl_worker.specs.declared.plan_name.PlanName.{PlanName}
use Rattle.wl_worker.specs.Handed.{Took}
use Rattle.wl_worker.specs.PlanName.{IsOfPlan}
use Rattle.wl_worker.proofs.Steps.{took_of}

pub still_of : (hub : Hub PlanName) (before after : Pass PlanName) (old new : GroupValue) → Took old new → pass_name after ≡ pass_name before
    → IsOfPlan hub before old.plan → IsOfPlan hub after new.plan
still_of hub before after old new t e h =
    took_of (IsOfPlan hub after) old new t (record { name = e ∙ h.name; checked = h.checked; words = h.words })
