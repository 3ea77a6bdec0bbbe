-- Each frame of a bus has its window: the frames without a gap up to it, none of them beyond its level.
use Rattle.std.proofs.Common.{◌≡◌, ◌∙◌, sym, ap, subst, ℕ, zero, suc, ◌+◌, ◌-◌, ◌<◌, ◌≤◌, cond, true, false, arith, inl, inr}
use Rattle.std.proofs.lemmas.Bool.{cases_Bool, cases_eq, both_ways}
use Rattle.wl_counts.specs.Counts.{periods_in}
use Rattle.wl_counts.specs.Waits.{AreAtMost, AreSporadic, HasWindow, HaveWindows}
use Rattle.wl_buses.specs.BoundedWaits.QueuedFrames.{BlockNoLonger, AreQueuedFrames, Terms, QueuedFrames, early_by, frames_in, table_by}

abbrev pub Curve : Type 0
Curve = (period message ready : ℕ → ℕ) (count : ℕ) → AreSporadic period message ready count → AreAtMost (λ e length. periods_in length (period e)) message ready count

module _ (curve : Curve) (x : QueuedFrames) (t : Terms) (blocking r : ℕ → ℕ) (is : AreQueuedFrames x t) (some : 0 < t.lead) (blocks : BlockNoLonger t blocking) where
  early_least : (m e : ℕ) → t.lead ≤ early_by t r m e
  early_least m e = omega arith

  early_mixed : (m e : ℕ) → t.mixed m (t.node e) ≡ true → early_by t r m e ≡ t.lead + r e
  early_mixed m e h = ap (λ b. t.lead + cond b (r e) 0) h

  -- where the window of a frame begins
  record Starts (last first : ℕ) : Type 0 where
    pub before : first ≤ last
    pub joins : (k : ℕ) → first ≤ k → k ≤ last → t.joins (x.message last) (x.message k) ≡ true
    pub next : (k : ℕ) → first ≤ k → k < last → x.begin (suc k) ≤ x.begin k + t.cost (x.message k)

  module _ (last : ℕ) (inside : last < x.count) where
    abbrev m : ℕ
    m = x.message last

    -- after a gap
    by_gap : (first : ℕ) → Starts last first → x.gap first ≡ true → HasWindow (table_by t blocking r) (frames_in x) r last
    by_gap first w gap = record {
      first = first;
      from = x.begin first - t.wake;
      before = w.before;
      begins = (let b = blocks.wakes m (is.known last inside) in omega arith);
      next = w.next;
      joins = w.joins;
      entered = λ k low high waits.
          (let later = is.idle first k low (omega arith) gap in
          let early = early_least m (x.message k) in
          omega arith);
    }

    -- after a frame beyond the level
    by_lesser : (n : ℕ) → Starts last (suc n) → x.gap (suc n) ≡ false → t.joins m (x.message n) ≡ false → HasWindow (table_by t blocking r) (frames_in x) r last
    by_lesser n w none lesser = record {
      first = suc n;
      from = x.begin n;
      before = w.before;
      begins =
          (let before = w.before in
          let b = blocks.lesser m (x.message n) (is.known last inside) (is.known n (omega arith)) lesser in
          let next = is.next n (omega arith) none in
          omega arith);
      next = w.next;
      joins = w.joins;
      entered = λ k low high waits. elim (cases_Bool (t.mixed m (x.winner k))) [
        | inr pure ↦
            (let later = is.late m n k (omega arith) (omega arith) pure lesser (w.joins k low high) in
            let early = early_least m (x.message k) in
            omega arith)
        | inl mixed ↦ elim (cases_eq k last) [
          | inl same ↦ absurd (both_ways (t.mixed m (x.winner k)) (ap (λ j. t.mixed m (x.winner j)) same ∙ is.pure last inside) mixed)
          | inr other ↦
              (let k_low : k < last = omega (arith, other, high) in
              let waited = waits k k_low in
              let passed = is.passes n k (omega arith) (omega arith) in
              let early = early_mixed m (x.message k) (ap (t.mixed m) (is.node k (omega arith)) ∙ mixed) in
              omega arith)
        ]
      ];
    }

    longer : (n : ℕ) → Starts last (suc n) → x.gap (suc n) ≡ false → t.joins m (x.message n) ≡ true → Starts last n
    longer n w none within = record {
      before = (let b = w.before in omega arith);
      joins = λ k low high. elim (cases_eq k n) [
        | inl same ↦ ap (λ j. t.joins m (x.message j)) same ∙ within
        | inr other ↦ w.joins k (omega (arith, other, low)) high
      ];
      next = λ k low high. elim (cases_eq k n) [
        | inl same ↦ (let b = w.before in let h = is.next n (omega arith) none in subst (λ j. x.begin (suc j) ≤ x.begin j + t.cost (x.message j)) (sym same) h)
        | inr other ↦ w.next k (omega (arith, other, low)) high
      ];
    }

    back : (n : ℕ) → Starts last n → HasWindow (table_by t blocking r) (frames_in x) r last
    back zero w = by_gap 0 w is.first
    back (suc n) w = elim (cases_Bool (x.gap (suc n))) [
      | inl gap ↦ by_gap (suc n) w gap
      | inr none ↦ elim (cases_Bool (t.joins m (x.message n))) [
        | inl within ↦ back n (longer n w none within)
        | inr lesser ↦ by_lesser n w none lesser
      ]
    ]

    pub window : HasWindow (table_by t blocking r) (frames_in x) r last
    window =
        back last record {
          before = omega arith;
          joins = λ k low high. (let same : k ≡ last = omega arith in ap (λ j. t.joins m (x.message j)) same ∙ is.own last inside);
          next = λ k low high. absurd (omega arith);
        }

  pub have_windows : HaveWindows (table_by t blocking r) (frames_in x) r x.count
  have_windows = record {
    known = is.known;
    begun = is.begun;
    ended = is.ended;
    few = curve t.period x.message x.ready x.count is.sporadic;
    window = window;
  }
