-- The lines of plans that are one plan up to a tick.
use Rattle.std.proofs.Common.{◌≡◌, ◌∙◌, refl, sym, ap, subst, ℕ, zero, suc, ◌+◌, ◌*◌, ◌<◌, ◌&&◌, ◌||◌, Bool, List, [], ◌∷◌, length, arith, length-append}
use Rattle.std.specs.Prelude.{nat_le, nat_lt}
use Rattle.std.specs.List.{list_any}
use Rattle.wl_level.specs.declared.Level.{Level}
use Rattle.wl_level.specs.Levels.{is_dominant, level_of}
use Rattle.wl_confine.specs.Counts.{mode_of}
use Rattle.wl_clock.specs.Timing.{tick_of}
use Rattle.wl_topology.specs.Delays.{Cable, delay_of}
use Rattle.wl_topology.specs.Driven.{driven}
use Rattle.wl_segments.specs.Lengths.{bit_quanta}
use Rattle.wl_machine.specs.Judged.{stretch_of}
use Rattle.wl_heal.specs.Silence.{is_off}
use Rattle.wl_node.specs.declared.setup.NodeSetup.{NodeSetup}
use Rattle.wl_node.specs.History.{History, counters_of, history_of, staying_history}
use Rattle.wl_plan.specs.declared.plan.Disturbance.{Disturbance}
use Rattle.wl_plan.specs.declared.plan.Plan.{Plan}
use Rattle.wl_plan.specs.Line.{Line, found}
use Rattle.wl_plan.specs.PlanLine.{delay_to, disturbed, line_of, setup_at}
use Rattle.wl_plan.specs.Simulation.{level, seen}
use Rattle.wl_plan.specs.SimulationLaws.{SimulationLaws}
use Rattle.wl_plan.specs.Sound.{IsCausal}
use Rattle.wl_buses.specs.BothProofs.Expected.{IsExpected, levels_found}
use Rattle.wl_buses.specs.BothProofs.Levels.{levels_before}
use Rattle.wl_buses.specs.CleanLines.Lines.{line_history}
use Rattle.wl_buses.proofs.Callers.{level_first, level_then, levels_same, seen_by_quanta}
use Rattle.wl_silence.specs.Silences.{IsSilentFor}
use Rattle.wl_onward.specs.Plans.{IsPlanUpTo}
use Rattle.wl_onward.proofs.Nodes.{history_is, staying_is}

-- what disturbs, by cable and disturbances
abbrev disturbs : Cable → List Disturbance → ℕ → ℕ → Bool
disturbs cable ds j t = list_any (λ d. nat_le (d.from + delay_to cable d j) t && nat_lt t (d.to + delay_to cable d j)) ds

pub disturbed_is : (plan other : Plan) → other.topology ≡ plan.topology → other.disturbances ≡ plan.disturbances → (j t : ℕ) → disturbed other j t ≡ disturbed plan j t
disturbed_is plan other cable ds j t = ap (λ c. disturbs c other.disturbances j t) cable ∙ ap (λ x. disturbs plan.topology x j t) ds

before_length : (f : ℕ → Level) (k : ℕ) → length (levels_before f k) ≡ k
before_length f zero = refl
before_length f (suc k) = (let e = length-append (levels_before f k) (f k ∷ []) in let before = before_length f k in omega (arith, e, before))

module _ (laws : SimulationLaws) (plan other : Plan) (until : ℕ) (is : IsPlanUpTo plan other until) (causal : IsCausal (line_of plan)) (goes : IsCausal (line_of other)) where
  abbrev P : Line
  P = line_of plan

  abbrev O : Line
  O = line_of other

  inside : (i : ℕ) → i < O.nodes → i < P.nodes
  inside i less = let e = is.count in omega arith

  ticks : (i k : ℕ) → i < P.nodes → O.instant i k ≡ P.instant i k
  ticks i k less = ap (λ (s : NodeSetup). tick_of s.clock k) (is.nodes i less).node

  found_is : (drove : ℕ → ℕ → Bool) (i t : ℕ) → found O drove i t ≡ found P drove i t
  found_is drove i t =
      ap (λ n. driven n (delay_of other.topology) drove i t || disturbed other i t) is.count ∙ ap (λ c. driven P.nodes (delay_of c) drove i t || disturbed other i t) is.cable
      ∙ ap (λ b. driven P.nodes P.delay drove i t || b) (disturbed_is plan other is.cable is.disturbances i t)

  levels_is : (drove : ℕ → ℕ → Bool) (i k : ℕ) → i < P.nodes → levels_found O drove i k ≡ levels_found P drove i k
  levels_is drove i k less = ap level_of (found_is drove i (O.instant i k) ∙ ap (found P drove i) (ticks i k less))

  staying : (i : ℕ) (levels : List Level) → i < P.nodes → ((j : ℕ) → j < length levels → P.instant i j < until) → staying_history (setup_at other i) levels ≡ staying_history (setup_at plan i) levels
  staying i levels less early =
      ap (λ s. staying_history s levels) (is.nodes i less).node
      ∙ sym (staying_is (setup_at plan i) (setup_at other i).queue until (λ k m low. laws.clock_later P i k m causal less low) (is.nodes i less).frames levels early)

  drives_is : (i : ℕ) (levels : List Level) → i < P.nodes → ((j : ℕ) → j < length levels → P.instant i j < until) → P.drives i levels ≡ O.drives i levels
  drives_is i levels less early =
      ap (λ (h : History). is_dominant h.drive) (history_is (setup_at plan i) (setup_at other i).queue until (λ k m low. laws.clock_later P i k m causal less low) (is.nodes i less).frames levels early)
      ∙ ap (λ s. is_dominant (history_of s levels).drive) (sym (is.nodes i less).node)

  pub expected : IsExpected O (λ i. until) (level P)
  expected = record {
    near = λ i j a b. omega arith;
    inside = λ i a. is.later;
    before = λ i t a less early. level_first laws P causal i t (inside i a) (let e = ticks i 0 (inside i a) in omega arith);
    drives = λ i k t a less low high.
        (let b = inside i a in
        let e = ticks i k b in
        let f = ticks i (suc k) b in
        let ends = is.ends in
        level_then laws P causal i k t b (omega arith) (omega arith) (omega arith)
        ∙ drives_is i (levels_before (levels_found P (level P) i) (suc k)) b
        (λ j few.
        (let long = before_length (levels_found P (level P) i) (suc k) in
        let up = laws.clock_later P i j k causal b (omega arith) in
        omega arith))
        ∙ ap (O.drives i) (levels_same (levels_found P (level P) i) (levels_found O (level P) i) (suc k) (λ j few. sym (levels_is (level P) i j b))));
  }

  module _ (driven_is : (i t : ℕ) → i < O.nodes → t < until → level O i t ≡ level P i t)
      (seen_is : (i k : ℕ) → i < O.nodes → ((j : ℕ) → j < k → O.instant i j < until) → seen O i k ≡ levels_before (levels_found O (level P) i) k) where
    pub level_is : (i t : ℕ) → i < P.nodes → t < until → level O i t ≡ level P i t
    level_is i t less early = driven_is i t (let e = is.count in omega arith) early

    seen_same : (i k : ℕ) → i < P.nodes → ((j : ℕ) → j < k → P.instant i j < until) → seen O i k ≡ seen P i k
    seen_same i k less early =
        seen_is i k (let e = is.count in omega arith) (λ j few. (let e = ticks i j less in let f = early j few in omega arith))
        ∙ levels_same (levels_found O (level P) i) (levels_found P (level P) i) k (λ j few. levels_is (level P) i j less) ∙ sym (seen_by_quanta P i k)

    pub nodes_are : (i k : ℕ) → i < P.nodes → ((j : ℕ) → j < k → P.instant i j < until) → line_history O (setup_at other) i k ≡ line_history P (setup_at plan) i k
    nodes_are i k less early =
        ap (staying_history (setup_at other i)) (seen_same i k less early)
        ∙ staying i (seen P i k) less (λ j few. early j (let e = laws.length_seen P i k in omega arith))

    pub silence_is : (from : ℕ) (first : ℕ → ℕ) → IsSilentFor P (setup_at plan) from until first → IsSilentFor O (setup_at other) from until first
    silence_is from first silent = record {
      inside = is.later;
      quiet = λ i t a low less. level_is i t (inside i a) less ∙ silent.quiet i t (inside i a) low less;
      over = λ i k a b.
          (let e = ticks i (first i) (inside i a) in
          let d = ap (λ c. delay_of c k i) is.cable in
          let f = silent.over i k (inside i a) (inside k b) in
          omega arith);
      lasts = λ i a.
          (let s : (setup_at other i).segments ≡ (setup_at plan i).segments = ap (λ (n : NodeSetup). n.segments) (is.nodes i (inside i a)).node in
          let e = ticks i (first i + 36 * bit_quanta (setup_at plan i).segments) (inside i a) in
          subst (λ l. O.instant i (first i + 36 * bit_quanta l) < until) (sym s) (let f = silent.lasts i (inside i a) in omega arith));
      on = λ i k a low less.
          (let e = ticks i k (inside i a) in
          ap (λ (h : History). is_off (stretch_of h.inputs)) (nodes_are i (suc k) (inside i a) (λ j few. before i k j (inside i a) few (omega arith))) ∙ silent.on i k (inside i a) low (omega arith));
      active = λ i k a low less.
          (let e = ticks i k (inside i a) in
          ap (λ (h : History). mode_of (counters_of h)) (nodes_are i (suc k) (inside i a) (λ j few. before i k j (inside i a) few (omega arith))) ∙ silent.active i k (inside i a) low (omega arith));
    }
      where
        before : (i k j : ℕ) → i < P.nodes → j < suc k → P.instant i k < until → P.instant i j < until
        before i k j less few early = (let up = laws.clock_later P i j k causal less (omega arith) in omega arith)
