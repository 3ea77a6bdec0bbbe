-- What is expected of the nodes of a line is what they drive.
use Rattle.std.proofs.Common.{◌≡◌, ◌∙◌, inl, inr, refl, sym, ap, subst, ℕ, zero, suc, ◌+◌, ◌-◌, ◌<◌, ◌≤◌, Bool, false, [], ◌∷◌, ◌++◌, arith}
use Rattle.std.proofs.lemmas.Bool.{cases_lt, cases_eq, cases_order}
use Rattle.wl_level.specs.declared.Level.{Level}
use Rattle.wl_level.specs.Levels.{level_of}
use Rattle.wl_plan.specs.Line.{Line}
use Rattle.wl_plan.specs.Simulation.{level, seen, ran}
use Rattle.wl_plan.specs.SimulationLaws.{SimulationLaws}
use Rattle.wl_plan.specs.Sound.{IsCausal}
use Rattle.wl_buses.specs.BothProofs.Levels.{levels_before}
use Rattle.wl_buses.specs.BothProofs.Expected.{IsExpected, levels_found}

pub levels_same : (a b : ℕ → Level) (k : ℕ) → ((j : ℕ) → j < k → a j ≡ b j) → levels_before a k ≡ levels_before b k
levels_same a b zero h = refl
levels_same a b (suc k) h = ap (λ v. v ++ a k ∷ []) (levels_same a b k (λ j less. h j (omega arith))) ∙ ap (λ x. levels_before b k ++ x ∷ []) (h k (omega arith))

-- the levels that a node sees are those of its quanta
pub seen_by_quanta : (l : Line) (i k : ℕ) → seen l i k ≡ levels_before (levels_found l (level l) i) k
unfolding seen
seen_by_quanta l i zero = refl
seen_by_quanta l i (suc k) = ap (λ v. v ++ levels_found l (level l) i k ∷ []) (seen_by_quanta l i k)

module _ (l : Line) (causal : IsCausal l) where
  -- the last quantum that begins by a tick
  quantum_at : (i : ℕ) → i < l.nodes → (n : ℕ) → (k : ℕ) × (l.instant i k ≤ l.instant i 0 + n) × (l.instant i 0 + n < l.instant i (suc k))
  quantum_at i inside zero = (0, omega arith, (let f = causal.clocks i 0 inside in omega arith))
  quantum_at i inside (suc n) =
      let r = quantum_at i inside n in
      let low = r.1 in
      let high = r.2 in
      elim (cases_lt (l.instant i 0 + suc n) (l.instant i (suc r.0))) [
        | inl less ↦ (r.0, omega arith, less)
        | inr more ↦ (suc r.0, more, (let f = causal.clocks i (suc r.0) inside in omega arith))
      ]

  pub record LastQuantum (i t : ℕ) : Type 0 where
    pub quantum : ℕ
    pub begun : l.instant i quantum ≤ t
    pub next : t < l.instant i (suc quantum)

  pub last_quantum : (i t : ℕ) → i < l.nodes → l.instant i 0 ≤ t → LastQuantum i t
  last_quantum i t inside low =
      let r = quantum_at i inside (t - l.instant i 0) in
      let a = r.1 in
      let b = r.2 in
      record { quantum = r.0; begun = omega arith; next = omega arith }

module _ (laws : SimulationLaws) (l : Line) (causal : IsCausal l) where
  -- so many quanta have run by then
  ran_by : (i t : ℕ) → i < l.nodes → t < l.stop → (q : LastQuantum l causal i t) → ran l i (suc t) ≡ suc q.quantum
  ran_by i t inside below q = elim (cases_order (ran l i (suc t)) (suc q.quantum)) [
    | inl e ↦ e
    | inr o ↦ elim o [
      | inl less ↦
          (let up = laws.clock_later l i (ran l i (suc t)) q.quantum causal inside (omega arith) in
          let begun = q.begun in
          elim (laws.ran_all l i (suc t) causal inside) [
            | inl a ↦ absurd (omega arith)
            | inr b ↦ absurd (omega arith)
          ])
      | inr more ↦ (let before = laws.ran_before l i (suc t) (suc q.quantum) causal inside more in let next = q.next in absurd (omega arith))
    ]
  ]

  ran_none : (i t : ℕ) → i < l.nodes → t < l.instant i 0 → ran l i (suc t) ≡ 0
  ran_none i t inside before = elim (cases_eq (ran l i (suc t)) 0) [
    | inl e ↦ e
    | inr apart ↦ (let f = laws.ran_before l i (suc t) 0 causal inside (omega arith) in absurd (omega arith))
  ]

  seen_none : (i n : ℕ) → n ≡ 0 → seen l i n ≡ []
  seen_none i n e = ap (seen l i) e ∙ seen_by_quanta l i 0

  -- what a node drives at a tick, by the levels that it has seen
  pub level_first : (i t : ℕ) → i < l.nodes → t < l.instant i 0 → level l i t ≡ false
  level_first i t inside early =
      laws.level_is l i t causal inside ∙ ap (l.drives i) (seen_none i (ran l i (suc t)) (ran_none i t inside early)) ∙ causal.begins i inside

  pub level_then : (i k t : ℕ) → i < l.nodes → t < l.stop → l.instant i k ≤ t → t < l.instant i (suc k)
      → level l i t ≡ l.drives i (levels_before (levels_found l (level l) i) (suc k))
  level_then i k t inside below low high =
      laws.level_is l i t causal inside ∙ ap (λ n. l.drives i (seen l i n)) (ran_by i t inside below (record { quantum = k; begun = low; next = high }))
      ∙ ap (l.drives i) (seen_by_quanta l i (suc k))

module _ (laws : SimulationLaws) (l : Line) (until : ℕ → ℕ) (drove : ℕ → ℕ → Bool) (causal : IsCausal l) (is : IsExpected l until drove) where
  module _ (n : ℕ) (below : (i t : ℕ) → t < n → i < l.nodes → t < until i → level l i t ≡ drove i t) where
    found_there : (i k : ℕ) → i < l.nodes → l.instant i k ≤ n → l.instant i k < until i → levels_found l (level l) i k ≡ levels_found l drove i k
    found_there i k inside early before =
        ap level_of (laws.found_same l (level l) drove i (l.instant i k) (λ j less come.
        (let delay = causal.delays j i less inside in
        let near = is.near j i less inside in
        below j (l.instant i k - l.delay j i) (omega arith) less (omega arith))))

    here : (i : ℕ) → i < l.nodes → n < until i → level l i n ≡ drove i n
    here i inside before =
        let stop = is.inside i inside in
        elim (cases_lt n (l.instant i 0)) [
          | inl early ↦ level_first laws l causal i n inside early ∙ sym (is.before i n inside before early)
          | inr late ↦
              (let q = last_quantum l causal i n inside late in
              level_then laws l causal i q.quantum n inside (omega arith) q.begun q.next
              ∙ ap (l.drives i) (levels_same (levels_found l (level l) i) (levels_found l drove i) (suc q.quantum) (λ j less.
              (let up = laws.clock_later l i j q.quantum causal inside (omega arith) in
              let begun = q.begun in
              found_there i j inside (omega arith) (omega arith))))
              ∙ sym (is.drives i q.quantum n inside before q.begun q.next))
        ]

  agrees : (n i t : ℕ) → t < n → i < l.nodes → t < until i → level l i t ≡ drove i t
  agrees zero i t less inside before = absurd (omega arith)
  agrees (suc n) i t less inside before = elim (cases_eq t n) [
    | inl e ↦ subst (λ u. level l i u ≡ drove i u) (sym e) (here n (agrees n) i inside (let f = e in omega arith))
    | inr apart ↦ agrees n i t (omega arith) inside before
  ]

  pub driven_is : (i t : ℕ) → i < l.nodes → t < until i → level l i t ≡ drove i t
  driven_is i t inside before = agrees (suc t) i t (omega arith) inside before

  pub seen_is : (i k : ℕ) → i < l.nodes → ((j : ℕ) → j < k → l.instant i j < until i) → seen l i k ≡ levels_before (levels_found l drove i) k
  seen_is i k inside before =
      seen_by_quanta l i k ∙ levels_same (levels_found l (level l) i) (levels_found l drove i) k (λ j less.
      found_there (l.instant i j) (λ m t early. driven_is m t) i j inside (omega arith) (before j less))
