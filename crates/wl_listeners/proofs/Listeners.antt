-- A plan without some nodes that change nothing is a part of the line of the plan with them.
use Rattle.std.proofs.Common.{◌≡◌, ◌≢◌, ◌∙◌, ◌⊎◌, inl, inr, sym, ap, ℕ, suc, ◌-◌, ◌<◌, ◌≤◌, true, false, ◌&&◌, ◌==◌, not, cond, [], length, arith}
use Rattle.std.specs.Cmp.{both_ways}
use Rattle.std.proofs.lemmas.Bool.{and_from, cases_lt, cond-true, eq-eqb, eqb-true, ne_eqb, not_from_false}
use Rattle.wl_level.specs.Levels.{is_dominant}
use Rattle.wl_clock.specs.Timing.{tick_of}
use Rattle.wl_topology.specs.Delays.{delay_between, delay_of, place_at, propagation_of}
use Rattle.wl_topology.specs.Limits.{never}
use Rattle.wl_node.specs.History.{history_of}
use Rattle.wl_plan.specs.declared.plan.Plan.{Plan}
use Rattle.wl_plan.specs.Checked.{IsChecked}
use Rattle.wl_plan.specs.Limits.{latest_end}
use Rattle.wl_plan.specs.Line.{Line}
use Rattle.wl_plan.specs.PlanLine.{line_of}
use Rattle.wl_plan.specs.Simulation.{level, ran, seen}
use Rattle.wl_plan.specs.SimulationLaws.{SimulationLaws}
use Rattle.wl_plan.specs.Sound.{IsCausal}
use Rattle.wl_listeners.specs.Listeners.{HasNodesOf, IsOneOf, IsWithoutLateNodes, IsWithoutListeners}
use Rattle.wl_listeners.specs.Parts.{IsPart}

pub ends_before : (plan : Plan) → IsChecked plan → plan.end ≤ never
ends_before plan checked = let ends : plan.end ≤ latest_end = checked.ends in omega arith

-- a node drives nothing as long as it is sure to stay as it was before its first quantum
silent_first : SimulationLaws → (l : Line) → IsCausal l → (i t : ℕ) → i < l.nodes → t < l.instant i (l.quiet i []) → level l i t ≡ false
silent_first laws l causal i t inside early =
    let few : ran l i (suc t) ≤ l.quiet i [] = elim (cases_lt (l.quiet i []) (ran l i (suc t))) [
      | inl many ↦ (let f = laws.ran_before l i (suc t) (l.quiet i []) causal inside many in absurd (omega arith))
      | inr few ↦ few
    ] in
    let long = laws.length_seen l i (ran l i (suc t)) in
    laws.level_is l i t causal inside ∙ causal.quiet_stays i [] (seen l i (ran l i (suc t))) inside (omega arith) ∙ causal.begins i inside

module _ (plan other : Plan) (at : ℕ → ℕ) (is : HasNodesOf other plan at) where
  same_node : (i j : ℕ) → i < length other.nodes → j < length other.nodes → (i == j) ≡ (at i == at j)
  same_node i j ni nj =
      both_ways (i == j) (at i == at j) (λ e. eq-eqb (at i) (at j) (ap at (eqb-true i j e))) (λ e. eq-eqb i j (is.once i j ni nj (eqb-true (at i) (at j) e)))

  same_way : (i j : ℕ) → i < length other.nodes → j < length other.nodes → propagation_of other.topology i j ≡ propagation_of plan.topology (at i) (at j)
  same_way i j ni nj =
      ap (λ c. delay_between c (place_at other.topology i) (place_at other.topology j)) is.cable
      ∙ ap (λ p. delay_between plan.topology.per p (place_at other.topology j)) (is.places i ni)
      ∙ ap (delay_between plan.topology.per (place_at plan.topology (at i))) (is.places j nj)

  same_delay : (i j : ℕ) → i < length other.nodes → j < length other.nodes → delay_of other.topology i j ≡ delay_of plan.topology (at i) (at j)
  same_delay i j ni nj =
      ap (λ p. cond (p.listens && not (i == j)) never (propagation_of other.topology i j)) (is.places i ni)
      ∙ ap (λ b. cond ((place_at plan.topology (at i)).listens && not b) never (propagation_of other.topology i j)) (same_node i j ni nj)
      ∙ ap (cond ((place_at plan.topology (at i)).listens && not (at i == at j)) never) (same_way i j ni nj)

  -- what another node drives comes to none of these before some tick
  abbrev ComesLater : (until k : ℕ) → Type 0
  ComesLater until k = (j t : ℕ) → j < length other.nodes → t < until → t < plan.end → delay_of plan.topology k (at j) ≤ t
      → level (line_of plan) k (t - delay_of plan.topology k (at j)) ≡ false

  part_with : (until : ℕ) → ((k : ℕ) → k < length plan.nodes → IsOneOf other at k ⊎ ComesLater until k) → IsPart (line_of other) (line_of plan) at until
  part_with until others = record {
    inside = is.inside;
    instants = λ i k ni. ap (λ s. tick_of s.clock k) (is.setups i ni);
    drives = λ i levels ni. ap (λ s. is_dominant (history_of s levels).drive) (is.setups i ni);
    delays = same_delay;
    disturbed = is.disturbances;
    stop = is.end;
    others = others;
  }

-- what a node drives that only listens comes to no other one
pub never_comes : (plan : Plan) (k j : ℕ) → k ≢ j → (place_at plan.topology k).listens ≡ true → delay_of plan.topology k j ≡ never
never_comes plan k j apart listens =
    cond-true ((place_at plan.topology k).listens && not (k == j)) never (propagation_of plan.topology k j)
    (and_from (place_at plan.topology k).listens (not (k == j)) listens (not_from_false (k == j) (ne_eqb k j apart)))

pub without_listeners : (plan other : Plan) (at : ℕ → ℕ) → IsChecked plan → IsWithoutListeners other plan at → (until : ℕ) → IsPart (line_of other) (line_of plan) at until
without_listeners plan other at checked is until = part_with plan other at is.nodes until (λ k nk. elim (is.lacks k nk) [
  | inl there ↦ inl there
  | inr lacking ↦
      inr (λ j t nj early inside come. (let e : delay_of plan.topology k (at j) ≡ never = never_comes plan k (at j) (λ e. lacking.0 j nj (sym e)) lacking.1 in
      let end = ends_before plan checked in absurd (omega arith)))
])

pub without_late_nodes : SimulationLaws → (plan other : Plan) (at : ℕ → ℕ) (until : ℕ) → IsCausal (line_of plan) → IsWithoutLateNodes other plan at until
    → IsPart (line_of other) (line_of plan) at until
without_late_nodes laws plan other at until causal is = part_with plan other at is.nodes until (λ k nk. elim (is.lacks k nk) [
  | inl there ↦ inl there
  | inr late ↦
      inr (λ j t nj early inside come.
      (let way = causal.delays k (at j) nk (is.nodes.inside j nj) in silent_first laws (line_of plan) causal k (t - delay_of plan.topology k (at j)) nk (omega arith)))
])
