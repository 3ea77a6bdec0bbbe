-- The nodes of a plan, as stations on a line.
use Rattle.std.proofs.Common.{◌≡◌, ◌∙◌, sym, ap, subst, ℕ, ◌<◌, length, not, cond, arith}
use Rattle.std.specs.Prelude.{◌==◌}
use Rattle.std.proofs.lemmas.Bool.{and_left}
use Rattle.wl_topology.specs.Delays.{place_at, propagation_of}
use Rattle.wl_topology.specs.Limits.{never}
use Rattle.wl_phase.specs.Ways.{ByTheBook}
use Rattle.wl_plan.specs.declared.plan.Plan.{Plan}
use Rattle.wl_plan.specs.PlanLine.{setup_at}
use Rattle.wl_buses.specs.OneFrame.Stations.{Stations, AreOnALine}
use Rattle.wl_buses.specs.OneFrame.Plans.{IsPlanOf}
use Rattle.wl_buses.proofs.BothProofs.Small.{lengths_at, loop_over, steady_at}

module _ (plan : Plan) (s : Stations) (is : IsPlanOf plan s) where
  place : (i : ℕ) → i < s.count → i < length plan.topology.places
  place i less = let e = is.count in let f = is.checked.placed in omega arith

  delay_is : (i k : ℕ) → i < s.count → k < s.count → s.delay i k ≡ propagation_of plan.topology i k
  delay_is i k ni nk =
      is.delays i k ni nk
      ∙ ap (λ b. cond b never (propagation_of plan.topology i k)) (and_left ((place_at plan.topology i).listens) (not (i == k)) (is.speaks i ni))

  by_the_book : (i : ℕ) → i < s.count → ByTheBook (setup_at plan i).segments
  by_the_book i less = record { lengths = lengths_at plan is.checked i (let e = is.count in omega arith); book = is.book i less }

  pub on_a_line : AreOnALine s
  on_a_line = record {
    steady = λ i less. steady_at plan is.checked i (let e = is.count in omega arith) (s.clocks i) (is.rates i less);
    book = λ i less. subst ByTheBook (sym (is.lengths i less)) (by_the_book i less);
    later = λ i k ni nk. (let e = delay_is i k ni nk in let some = is.checked.cable.positive i k (place i ni) (place k nk) in omega arith);
    detours = λ i j k ni nj nk.
        (let a = delay_is i k ni nk in
        let b = delay_is j j nj nj in
        let c = delay_is i j ni nj in
        let d = delay_is j k nj nk in
        let over = loop_over plan.topology i j k in
        omega arith);
  }
