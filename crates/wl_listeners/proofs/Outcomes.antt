-- What a run shows of a node rests on its setup, on what it has seen and on the ticks at which its drive changed.
use Rattle.std.proofs.Common.{◌≡◌, ◌∙◌, ap, ℕ, ◌<◌, length}
use Rattle.wl_node.specs.History.{history_of}
use Rattle.wl_plan.specs.declared.plan.Plan.{Plan}
use Rattle.wl_plan.specs.PlanLine.{line_of, setup_at, table_of}
use Rattle.wl_plan.specs.Simulation.{history}
use Rattle.wl_serial.specs.Outcome.{node_outcome_of, outcome_of_history}
use Rattle.wl_listeners.specs.Listeners.{HasNodesOf}

module _ (plan other : Plan) (at : ℕ → ℕ) (is : HasNodesOf other plan at)
    (seen : (i t : ℕ) → i < length other.nodes → (history (line_of other) t).seen i ≡ (history (line_of plan) t).seen (at i))
    (changes : (i : ℕ) → i < length other.nodes → table_of other i ≡ table_of plan (at i)) where
  pub same_outcome : (i : ℕ) → i < length other.nodes → node_outcome_of other i ≡ node_outcome_of plan (at i)
  same_outcome i inside =
      let setup = setup_at plan (at i) in
      ap (λ s. outcome_of_history s (table_of other i) (history_of s ((history (line_of other) other.end).seen i))) (is.setups i inside)
      ∙ ap (λ c. outcome_of_history setup c (history_of setup ((history (line_of other) other.end).seen i))) (changes i inside)
      ∙ ap (λ xs. outcome_of_history setup (table_of plan (at i)) (history_of setup xs))
      (seen i other.end inside ∙ ap (λ t. (history (line_of plan) t).seen (at i)) is.end)
