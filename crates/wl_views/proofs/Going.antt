-- A node that runs again beside the line: which quanta begin up to a tick, and what they saw.
use Rattle.std.proofs.Common.{◌≡◌, ◌∙◌, sym, ap, arith, inl, inr, cond, ℕ, zero, suc, ◌+◌, ◌-◌, ◌<◌, ◌≤◌, Bool, List, [], ◌∷◌, ◌++◌, length, replicate, append-nil, append_assoc, get_or}
use Rattle.std.proofs.lemmas.Bool.{cases_lt, lt-ltb, le-ltb}
use Rattle.std.proofs.lemmas.List.{get_or_default, replicate_more}
use Rattle.wl_level.specs.declared.Level.{Level}
use Rattle.wl_level.specs.Levels.{level_of}
use Rattle.wl_clock.specs.Timing.{tick_of}
use Rattle.wl_record_core.specs.Limits.{tick_end-is}
use Rattle.wl_node.specs.declared.setup.NodeSetup.{NodeSetup}
use Rattle.wl_node.specs.Limits.{most_run_quanta}
use Rattle.wl_plan.specs.declared.plan.Plan.{Plan}
use Rattle.wl_plan.specs.Limits.{latest_end}
use Rattle.wl_plan.specs.Line.{found}
use Rattle.wl_plan.specs.PlanLine.{line_of, no_setup, setup_at}
use Rattle.wl_plan.specs.Simulation.{AreInside, level, ran, seen}
use Rattle.wl_plan.specs.SimulationLaws.{SimulationLaws}
use Rattle.wl_plan.specs.Sound.{IsSound}
use Rattle.wl_trace.specs.Snapshot.{snapshot_of}
use Rattle.wl_pulse.specs.declared.pulse.Pulse.{Pulse}
use Rattle.wl_views.specs.PlaceLine.{Lasts}
use Rattle.wl_views.specs.Probe.{next_of, no_tick}
use Rattle.wl_views.specs.Signals.{snapshot_then}
use Rattle.wl_views.proofs.Seeing.{few_more, later, seen_more}

snoc : {A : Type 0} (xs : List A) (x : A) (n : ℕ) → xs ++ replicate (n + 1) x ≡ (xs ++ replicate n x) ++ x ∷ []
snoc xs x n = ap (λ more. xs ++ more) (sym (replicate_more n x)) ∙ sym (append_assoc xs (replicate n x) (x ∷ []))

-- the setup that is read
pub setup_is : (plan : Plan) (nodes : List NodeSetup) (i : ℕ) (d : NodeSetup) → nodes ≡ plan.nodes → i < length plan.nodes → get_or nodes i d ≡ setup_at plan i
setup_is plan nodes i d are b = ap (λ (xs : List NodeSetup). get_or xs i d) are ∙ get_or_default plan.nodes i d no_setup b

module _ (laws : SimulationLaws) (plan : Plan) (sound : IsSound (line_of plan)) (i : ℕ) (b : i < length plan.nodes) where
  abbrev at : ℕ → ℕ
  at q = tick_of (setup_at plan i).clock q

  abbrev next : ℕ → ℕ
  next k = next_of (setup_at plan i).clock plan.end k

  -- a tick before the next one is before the quantum, or that doesn't come before the end
  before_next : (k u : ℕ) → u < next k → at k < plan.end → u < at k
  before_next k u less inside =
      let e : next k ≡ at k = ap (λ (c : Bool). cond c (at k) no_tick) (lt-ltb (at k) plan.end inside) in omega arith

  -- the next one is a tick: its quantum begins then, before the end
  pub next_now : (k t : ℕ) → t ≤ latest_end → next k ≡ t → (at k ≡ t) × (t < plan.end)
  next_now k t early is = elim (cases_lt (at k) plan.end) [
    | inl inside ↦
        (let e : next k ≡ at k = ap (λ (c : Bool). cond c (at k) no_tick) (lt-ltb (at k) plan.end inside) in
        let f : at k ≡ t = sym e ∙ is in (f, omega arith))
    | inr outside ↦
        absurd (let e : next k ≡ no_tick = ap (λ (c : Bool). cond c (at k) no_tick) (le-ltb (at k) plan.end outside) in omega arith)
  ]

  -- after the quantum of a tick none other comes up to that tick
  pub next_after : (k t : ℕ) → t ≤ latest_end → at k ≡ t → t < next (k + 1)
  next_after k t early is = elim (cases_lt (at (k + 1)) plan.end) [
    | inl inside ↦
        (let e : next (k + 1) ≡ at (k + 1) = ap (λ (c : Bool). cond c (at (k + 1)) no_tick) (lt-ltb (at (k + 1)) plan.end inside) in
        let m = later laws plan sound i b k in omega arith)
    | inr outside ↦
        (let e : next (k + 1) ≡ no_tick = ap (λ (c : Bool). cond c (at (k + 1)) no_tick) (le-ltb (at (k + 1)) plan.end outside) in omega arith)
  ]

  pub clock_later : (q m : ℕ) → q ≤ m → at q ≤ at m
  clock_later q m less = laws.clock_later (line_of plan) i q m sound.causal b less

  -- and none up to a tick stays none after more quanta
  pub next_on : (k n t : ℕ) → t ≤ latest_end → t < next k → t < next (k + n)
  next_on k n t early less = elim (cases_lt (at (k + n)) plan.end) [
    | inl inside ↦
        (let e : next (k + n) ≡ at (k + n) = ap (λ (c : Bool). cond c (at (k + n)) no_tick) (lt-ltb (at (k + n)) plan.end inside) in
        let m = clock_later k (k + n) (omega arith) in
        let first = before_next k t less (omega arith) in omega arith)
    | inr outside ↦
        (let e : next (k + n) ≡ no_tick = ap (λ (c : Bool). cond c (at (k + n)) no_tick) (le-ltb (at (k + n)) plan.end outside) in omega arith)
  ]

  -- a quantum before the end begins before the next one
  pub begun_earlier : (q k : ℕ) → q < k → at q < plan.end → at q < next k
  begun_earlier q k less inside = elim (cases_lt (at k) plan.end) [
    | inl early ↦
        (let e : next k ≡ at k = ap (λ (c : Bool). cond c (at k) no_tick) (lt-ltb (at k) plan.end early) in
        let m = later laws plan sound i b q in
        let n = clock_later (q + 1) k (omega arith) in omega arith)
    | inr outside ↦
        (let e : next k ≡ no_tick = ap (λ (c : Bool). cond c (at k) no_tick) (le-ltb (at k) plan.end outside) in
        let ends = sound.end_fits in omega (arith, tick_end-is))
  ]

  -- few quanta begin before the end
  pub few_inside : (k : ℕ) → AreInside (line_of plan) i k → k ≤ most_run_quanta
  few_inside zero inside = omega arith
  few_inside (suc k) inside = let m = few_more laws plan sound i b k (inside k (omega arith)) in omega arith

  -- as many have run up to a tick as began up to it
  run_at_least : (k u : ℕ) → AreInside (line_of plan) i k → ((q : ℕ) → q < k → at q ≤ u) → k ≤ ran (line_of plan) i (suc u)
  run_at_least k u inside begun = elim (cases_lt (ran (line_of plan) i (suc u)) k) [
    | inl less ↦
        absurd (let r = ran (line_of plan) i (suc u) in
        let p = begun r less in
        let q = inside r less in
        elim (laws.ran_all (line_of plan) i (suc u) sound.causal b) [
          | inl past ↦ omega arith
          | inr past ↦ omega arith
        ])
    | inr more ↦ more
  ]

  run_at_most : (k u : ℕ) → u < next k → ran (line_of plan) i (suc u) ≤ k
  run_at_most k u less = elim (cases_lt k (ran (line_of plan) i (suc u))) [
    | inl more ↦
        absurd (let causal = sound.causal in
        let begun = laws.ran_before (line_of plan) i (suc u) k causal b more in
        let inside = laws.ran_inside (line_of plan) i (suc u) causal b k more in
        let m = before_next k u less inside in omega arith)
    | inr few ↦ few
  ]

  shown_ran : (u : ℕ) → snapshot_then plan i u ≡ snapshot_of (setup_at plan i) (seen (line_of plan) i (ran (line_of plan) i (suc u)))
  shown_ran u = ap (snapshot_of (setup_at plan i)) (laws.history_seen (line_of plan) i (suc u) sound.causal b)

  -- on a line that stays all quanta see the same
  module _ (t : ℕ) (held : Pulse) (line : Lasts (found (line_of plan) (level (line_of plan)) i) t held) (k : ℕ) where
    pub same_seen : (n : ℕ) → ((q : ℕ) → k ≤ q → q < k + n → (t ≤ at q) × (at q < held.until))
        → seen (line_of plan) i (k + n) ≡ seen (line_of plan) i k ++ replicate n (level_of held.dominant)
    same_seen zero during = ap (seen (line_of plan) i) {x = k + 0} {y = k} (omega arith) ∙ sym (append-nil (seen (line_of plan) i k))
    same_seen (suc n) during =
        let here = during (k + n) (omega arith) (omega arith) in
        let l : Level = level_of held.dominant in
        ap (seen (line_of plan) i) {x = k + suc n} {y = (k + n) + 1} (omega arith)
        ∙ seen_more laws plan sound i b (k + n)
        ∙ ap (λ (d : Bool). seen (line_of plan) i (k + n) ++ level_of d ∷ []) (line.same (at (k + n)) here.0 here.1)
        ∙ ap (λ (ls : List Level). ls ++ l ∷ []) (same_seen n (λ q from below. during q from (omega arith)))
        ∙ sym (snoc (seen (line_of plan) i k) l n)
        ∙ ap (λ (m : ℕ). seen (line_of plan) i k ++ replicate m l) {x = n + 1} {y = suc n} (omega arith)

    -- and where they leave what is shown, that stays up to the next one
    module _ (n : ℕ) (inside : AreInside (line_of plan) i k) (begun : (q : ℕ) → q < k → at q ≤ t) (after : t < next k)
        (during : (q : ℕ) → k ≤ q → q < k + n → (at q < held.until) × (at q < plan.end))
        (plain : (m : ℕ) → m ≤ n → snapshot_of (setup_at plan i) (seen (line_of plan) i k ++ replicate m (level_of held.dominant)) ≡ snapshot_of (setup_at plan i) (seen (line_of plan) i k)) where
      pub in_time : (q : ℕ) → k ≤ q → q < k + n → (t ≤ at q) × (at q < held.until)
      in_time q from below =
          let here = during q from below in
          let first = clock_later k q from in
          let k_inside : at k < plan.end = (let h = here.1 in omega arith) in
          let m = before_next k t after k_inside in
          (omega arith, here.0)

      pub all_inside : AreInside (line_of plan) i (k + n)
      all_inside q below = elim (cases_lt q k) [
        | inl low ↦ inside q low
        | inr high ↦ (during q high below).1
      ]

      pub shown_upto : (m : ℕ) → m ≤ n → snapshot_of (setup_at plan i) (seen (line_of plan) i (k + m)) ≡ snapshot_of (setup_at plan i) (seen (line_of plan) i k)
      shown_upto m less =
          ap (snapshot_of (setup_at plan i)) (same_seen m (λ q from below. in_time q from (omega arith))) ∙ plain m less

      pub shown_stays : (u : ℕ) → t ≤ u → u < next (k + n)
          → snapshot_then plan i u ≡ snapshot_of (setup_at plan i) (seen (line_of plan) i (k + n))
      shown_stays u from below =
          let r : ℕ = ran (line_of plan) i (suc u) in
          let least : k ≤ r = run_at_least k u inside (λ q less. let p = begun q less in omega arith) in
          let most : r ≤ k + n = run_at_most (k + n) u below in
          let split : k + (r - k) ≡ r = omega arith in
          shown_ran u
          ∙ ap (λ (m : ℕ). snapshot_of (setup_at plan i) (seen (line_of plan) i m)) (sym split)
          ∙ shown_upto (r - k) (omega arith)
          ∙ sym (shown_upto n (omega arith))
