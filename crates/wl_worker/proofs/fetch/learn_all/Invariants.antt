use Rattle.std.proofs.Common.{◌≡◌, ℕ, ◌<◌, ◌≤◌, length}
use Rattle.std.specs.Prelude.{slice_index}
use Rattle.wl_topology.specs.Limits.{most_places}
use Rattle.wl_hub.specs.Passes.{IsPassOf, pass_name}
use Rattle.wl_worker.specs.Handed.{Took, TellsNews}
use Rattle.wl_worker.specs.PlanName.{IsOfPlan}
use Rattle.wl_worker.proofs.Seen.{IsHanded}
use Rattle.wl_worker.proofs.fetch.learn_all.Given as goal

abbrev pub invariant-loop-node : goal.invariant-loop-node
invariant-loop-node l =
    IsPassOf l.hub l.pass × (pass_name l.pass ≡ pass_name l.fn.pass) × IsOfPlan l.hub l.pass l.group.plan
    × (l.group.plan ≡ l.fn.group.plan) × Took l.fn.group l.group × TellsNews l.fn.group l.group l.came
    × ((j : ℕ) → j < l.node → IsHanded l.hub l.pass l.fn.handed l.handed l.fn.group l.group j)
    × ((j : ℕ) → l.node ≤ j → slice_index l.handed j ≡ slice_index l.fn.handed j) × (length l.handed ≡ most_places)
