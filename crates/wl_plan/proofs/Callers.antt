-- What the proofs of upper crates may use, and no other lemma of this crate.
use Rattle.std.proofs.Common.{◌≡◌, ℕ, ◌<◌, List, length, get_or, ◌∙◌, ap}
use Rattle.std.proofs.lemmas.List.{get_or_default}
use Rattle.wl_node.specs.declared.setup.NodeSetup.{NodeSetup}
use Rattle.wl_plan.specs.declared.plan.Plan.{Plan}
use Rattle.wl_plan.specs.PlanLine.{setup_at, no_setup}
pub use Rattle.wl_plan.proofs.ChangeProofs.{same_same}
pub use Rattle.wl_plan.proofs.NearProofs.{near_by}
pub use Rattle.wl_plan.proofs.CheckProofs.{many_below}

-- what the list of nodes holds at place i
pub element_is : (plan : Plan) (i : ℕ) (x : NodeSetup) (xs : List NodeSetup) → xs ≡ plan.nodes → x ≡ get_or xs i x → i < length plan.nodes → x ≡ setup_at plan i
element_is plan i x xs e is b = is ∙ (ap (λ ys. get_or ys i x) e ∙ get_or_default plan.nodes i x no_setup b)
