-- The line of a plan is that of a bus.
use Rattle.std.proofs.Common.{◌≡◌, inl, inr, refl, sym, ap, ℕ, ◌+◌, ◌<◌, ◌≤◌, List, length, true, false, not, ◌&&◌, arith}
use Rattle.std.specs.Prelude.{◌==◌}
use Rattle.std.specs.List.{list_any}
use Rattle.std.proofs.lemmas.Bool.{cases_Bool, cases_eq, and_from, and_parts, ne_eqb}
use Rattle.wl_level.specs.declared.Level.{Level}
use Rattle.wl_topology.specs.Delays.{Cable, IsTopology, delay_of, place_at, propagation_of}
use Rattle.wl_topology.specs.Limits.{never}
use Rattle.wl_frame.specs.Grammar.{Content}
use Rattle.wl_phase.specs.Clocks.{Steady}
use Rattle.wl_phase.proofs.Callers.{rate_tick}
use Rattle.wl_plan.specs.declared.plan.Plan.{Plan}
use Rattle.wl_plan.specs.Checked.{CheckedIsSound}
use Rattle.wl_plan.specs.PlanLine.{is_at, setup_at}
use Rattle.wl_buses.specs.OneSender.OneSender.{IsBus, IsListener}
use Rattle.wl_buses.specs.BothProofs.Plans.{IsSteadyPlan}
use Rattle.wl_buses.specs.OneSender.Plans.{sender_bus_of}
use Rattle.wl_buses.proofs.BothProofs.Small.{lengths_at, loop_over, steady_at}
use Rattle.wl_level.specs.Levels.{is_dominant}
use Rattle.wl_node.proofs.Callers.{stays_on}

-- on a cable a way over a third node is longer
way_over : (cable : Cable) → IsTopology cable → (i j k : ℕ) → j < length cable.places → propagation_of cable i k < propagation_of cable i j + propagation_of cable j k
way_over cable is i j k inside =
    let some = is.positive j j inside inside in
    let loop = loop_over cable i j k in
    omega arith

-- also if some nodes only listen: what they drive comes to no other node
delay_own : (cable : Cable) (i j : ℕ) → ((place_at cable i).listens && not (i == j)) ≡ false → delay_of cable i j ≡ propagation_of cable i j
delay_own cable i j e = rw e refl

delay_never : (cable : Cable) (i j : ℕ) → ((place_at cable i).listens && not (i == j)) ≡ true → delay_of cable i j ≡ never
delay_never cable i j e = rw e refl

module _ (cable : Cable) (is : IsTopology cable) where
  some_delay : (i j : ℕ) → i < length cable.places → j < length cable.places → 1 ≤ delay_of cable i j
  some_delay i j ni nj = elim (cases_Bool ((place_at cable i).listens && not (i == j))) [
    | inl e ↦ (let d = delay_never cable i j e in omega arith)
    | inr e ↦ (let d = delay_own cable i j e in let some = is.positive i j ni nj in omega arith)
  ]

  pub detour : (i j k : ℕ) → i < length cable.places → j < length cable.places → k < length cable.places → delay_of cable i k < delay_of cable i j + delay_of cable j k
  detour i j k ni nj nk =
      let over = way_over cable is i j k nj in
      let near = is.short i k ni nk in
      elim (cases_Bool ((place_at cable i).listens && not (i == k))) [
        | inl e ↦
            (let d = delay_never cable i k e in
            elim (cases_eq i j) [
              | inl here ↦ (let same : delay_of cable i k ≡ delay_of cable j k = ap (λ n. delay_of cable n k) here in let some = some_delay i j ni nj in omega arith)
              | inr apart ↦
                  (let f = delay_never cable i j (and_from ((place_at cable i).listens) (not (i == j)) (and_parts ((place_at cable i).listens) (not (i == k)) e).0 (ap not (ne_eqb i j apart))) in
                  let some = some_delay j k nj nk in
                  omega arith)
            ])
        | inr e ↦
            (let d = delay_own cable i k e in
            elim (cases_Bool ((place_at cable i).listens && not (i == j))) [
              | inl f ↦ (let g = delay_never cable i j f in omega arith)
              | inr f ↦
                  (let g = delay_own cable i j f in
                  elim (cases_Bool ((place_at cable j).listens && not (j == k))) [
                    | inl h ↦ (let m = delay_never cable j k h in omega arith)
                    | inr h ↦ (let m = delay_own cable j k h in omega arith)
                  ])
            ])
      ]

module _ (sound : CheckedIsSound) (plan : Plan) (clocks : ℕ → Steady) (is : IsSteadyPlan plan clocks)
    (sender : ℕ) (inside : sender < length plan.nodes) (frame : Content) (stuffed : List Level) (decides : ℕ) where
  other : (j : ℕ) × IsListener (sender_bus_of plan clocks sender frame stuffed decides) j
  other =
      let two = is.two in
      elim (cases_eq sender 0) [
        | inl first ↦ (1, ((let h = two in omega arith), λ e. omega (arith, e, first)))
        | inr later ↦ (0, (omega arith, λ e. later (sym e)))
      ]

  pub plan_is_bus : IsBus (sender_bus_of plan clocks sender frame stuffed decides)
  plan_is_bus = record {
    causal = (sound plan is.checked).causal;
    sender = inside;
    other = other;
    drives = λ i levels less. ap (λ h. is_dominant h.drive) (stays_on (setup_at plan i) levels (is.stays i less));
    ticks = λ i k less. rate_tick (is.rates i less) k;
    steady = λ i less. steady_at plan is.checked i less (clocks i) (is.rates i less);
    book = λ i less. record { lengths = lengths_at plan is.checked i less; book = is.book i less };
    undisturbed = λ i t less. ap (list_any (is_at plan i t)) is.undisturbed;
    detours = λ i j k ni nj nk. (let placed = is.checked.placed in detour plan.topology is.checked.cable i j k (omega arith) (omega arith) (omega arith));
  }
