-- What the test for covered plans says of one.
use Rattle.std.proofs.Common.{◌≡◌, ◌≢◌, ◌∙◌, inl, inr, refl, sym, ap, ℕ, ◌<◌, ◌≤◌, List, [], ◌∷◌, length, Bool, true, false, not, ◌&&◌, ◌||◌, arith}
use Rattle.std.specs.Prelude.{◌==◌, nat_lt}
use Rattle.std.proofs.lemmas.Bool.{both_ways, cases_lt, lt-ltb, ne_eqb, not-false}
use Rattle.wl_topology.specs.Driven.{any_below}
use Rattle.wl_segments.specs.declared.SyncRules.TheVariants.{Book}
use Rattle.wl_node.specs.declared.setup.Queued.{Queued}
use Rattle.wl_plan.specs.declared.plan.Plan.{Plan}
use Rattle.wl_plan.specs.Checked.{IsChecked}
use Rattle.wl_plan.specs.PlanLine.{setup_at}
use Rattle.wl_phase.specs.Clocks.{HasRate, Steady}
use Rattle.wl_bound.specs.Covered.{is_covered, is_uncovered}
use Rattle.wl_bound.specs.Verdicts.{idle_at, is_ready_from}
use Rattle.wl_buses.specs.BothProofs.Plans.{IsSteadyPlan}
use Rattle.wl_buses.specs.OneSender.Clean.{HasOneSender}
use Rattle.wl_buses.proofs.BothProofs.Small.{none_below, covered_each, covered_stays, passed}
use Rattle.wl_buses.specs.BothProofs.Queues.{first_decision, wakes_at}
use Rattle.wl_buses.proofs.BothProofs.Heads.{IsHanded, head_late}
use Rattle.wl_buses.proofs.FirstFrame.Deciding.{decided_after}

neither : (v w : Bool) → (v || w) ≡ false → (v ≡ false) × (w ≡ false)
neither false w e = (refl, e)
neither true w e = absurd (both_ways true e refl)

pub is_empty : {A : Type 0} (xs : List A) → length xs ≤ 0 → xs ≡ []
is_empty [] h = refl
is_empty (x ∷ xs) h = absurd (omega arith)

not_less : (m n : ℕ) → nat_lt m n ≡ false → n ≤ m
not_less m n e = elim (cases_lt m n) [
  | inl less ↦ absurd (both_ways (nat_lt m n) e (lt-ltb m n less))
  | inr more ↦ more
]

module _ (plan : Plan) (covered : is_covered plan ≡ true) where
  parts : ((nat_lt (length plan.nodes) 2 || nat_lt 0 (length plan.disturbances)) ≡ false) × (any_below (length plan.nodes) (is_uncovered plan) ≡ false)
  parts = passed (nat_lt (length plan.nodes) 2 || nat_lt 0 (length plan.disturbances)) (any_below (length plan.nodes) (is_uncovered plan)) covered

  few : (nat_lt (length plan.nodes) 2 ≡ false) × (nat_lt 0 (length plan.disturbances) ≡ false)
  few = neither (nat_lt (length plan.nodes) 2) (nat_lt 0 (length plan.disturbances)) parts.0

  idle_then : (i j : ℕ) → i < length plan.nodes → j < length plan.nodes → j ≢ i → is_ready_from (setup_at plan i) (setup_at plan i).queue (idle_at (setup_at plan j)) ≡ true
  idle_then i j ni nj apart =
      let busy = none_below (length plan.nodes) (λ j. not (j == i) && not (is_ready_from (setup_at plan i) (setup_at plan i).queue (idle_at (setup_at plan j)))) (covered_each plan covered i ni).2 j nj in
      let other : not (j == i) ≡ true = ap not (ne_eqb j i apart) in
      not-false (is_ready_from (setup_at plan i) (setup_at plan i).queue (idle_at (setup_at plan j)))
      (ap (λ v. v && not (is_ready_from (setup_at plan i) (setup_at plan i).queue (idle_at (setup_at plan j)))) (sym other) ∙ busy)

  pub steady_plan : (clocks : ℕ → Steady) → IsChecked plan → ((i : ℕ) → i < length plan.nodes → HasRate (setup_at plan i).clock (clocks i))
      → ((i : ℕ) → i < length plan.nodes → (setup_at plan i).segments.sync ≡ Book) → IsSteadyPlan plan clocks
  steady_plan clocks checked rates book = record {
    checked = checked;
    two = not_less (length plan.nodes) 2 few.0;
    rates = rates;
    book = book;
    undisturbed = is_empty plan.disturbances (not_less 0 (length plan.disturbances) few.1);
    stays = covered_stays plan covered;
  }

  -- on which frame it decides after its power-up
  decides_on : (sender : ℕ) (first : Queued) (later : List Queued) → (setup_at plan sender).queue ≡ first ∷ later → IsHanded (setup_at plan sender) (setup_at plan sender).queue (first_decision (setup_at plan sender))
  decides_on sender first later queue =
      let long = ap length queue in
      head_late (setup_at plan sender) (setup_at plan sender).queue (first_decision (setup_at plan sender)) (omega arith)
      (decided_after (setup_at plan sender).segments (wakes_at (setup_at plan sender) (setup_at plan sender).queue) (omega arith))

  pub one_sender : (sender : ℕ) (first : Queued) (later : List Queued) → sender < length plan.nodes → (setup_at plan sender).queue ≡ first ∷ later
      → ((j : ℕ) → j < length plan.nodes → j ≢ sender → (setup_at plan j).queue ≡ []) → HasOneSender plan sender
  one_sender sender first later inside queue alone = record {
    inside = inside;
    first = first;
    later = later;
    queue = queue;
    frame = (decides_on sender first later queue).frame;
    decides = (decides_on sender first later queue).is;
    alone = alone;
    answers = λ i less. (covered_each plan covered i less).0;
    idle = λ j less apart. idle_then sender j inside less apart;
  }
