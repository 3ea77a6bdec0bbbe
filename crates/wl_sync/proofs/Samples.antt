-- Quanta of one level up to a sample and with it.
use Rattle.std.proofs.Common.{◌≡◌, ℕ, zero, suc, ◌+◌, ◌-◌, ◌<◌, ◌≤◌, ◌∙◌, ◌⊎◌, inl, inr, List, ◌++◌, true, cond, false, None, refl, sym, ap, subst, arith, append-nil, replicate}
use Rattle.std.proofs.lemmas.Bool.{cases_lt, eqb-true, eq-eqb, le-leb, lt-leb}
use Rattle.wl_level.specs.declared.Level.{Level}
use Rattle.wl_level.proofs.Callers.{snoc}
use Rattle.wl_segments.specs.Lengths.{Lengths, AreLengths, bit_quanta, sample_at}
use Rattle.wl_sync.specs.declared.Beat.TheVariants.{Plain, Sample}
use Rattle.wl_sync.specs.Edges.{Seen, seen_as}
use Rattle.wl_sync.specs.Bits.{beat_of, sync_of}
use Rattle.wl_sync.specs.Running.{Running, clock_after}
use Rattle.wl_sync.specs.Steps.{IsBitClock, end_of, is_sampled, running_after, running_answer, running_beat, running_edge, running_on}
use Rattle.wl_sync.specs.Skips.{finds_edge, free_quanta, moved_place, quanta_before_sample, sampled_bits, sampled_clock, sampled_on, sampled_new, IsSampleAhead, IsSampledAfter, IsUnmoved, SamplesAfter}
use Rattle.wl_sync.proofs.Cuts.{clock_next, beat_next, sync_next}
use Rattle.wl_sync.proofs.Skips.{running_at, running_new, running_skipped, same_twice, skipped_on, skipped_new, skipped, unmoved, not_sampled, AreFree, GoesOn, goes_after, goes_answer, goes_beat}

-- the next quantum is a sample, and with it the clock is there
record IsDue (r s : Running) (x : Seen) : Type 0 where
  goes : GoesOn s x
  here : is_sampled s ≡ true
  after : running_on s x.level ≡ sampled_clock r x.level

-- a clock with which the sample is due
due_on : (s : Running) (level : Level) → is_sampled s ≡ true → running_on s level ≡ sampled_on s level
due_on s level here =
    let e : s.quanta + 1 ≡ suc (moved_place s) = (let q = eqb-true s.quanta (moved_place s) here in omega arith) in
    λ i. record { lengths = s.lengths; quanta = e i; longer = s.longer; shorter = s.shorter; synced = s.synced; level = level; sample = cond (here i) level s.sample }

module _ (r : Running) (x : Seen) (is : IsBitClock r) (ahead : IsSampleAhead r x.level) where
  inside : r.quanta ≤ end_of r
  inside = (let a = is.shorter in let q = is.quanta in omega arith)

  far : 2 ≤ sample_at r.lengths
  far = (let a = is.lengths.prop_low in omega arith)

  way_on : r.quanta ≤ moved_place r → quanta_before_sample r ≡ moved_place r - r.quanta
  way_on h = rw (le-leb r.quanta (moved_place r) h) refl

  way_new : moved_place r < r.quanta → quanta_before_sample r ≡ end_of r - r.quanta + sample_at r.lengths
  way_new h = rw (lt-leb r.quanta (moved_place r) h) refl

  pub clock_on : r.quanta ≤ moved_place r → sampled_clock r x.level ≡ sampled_on r x.level
  clock_on h = rw (le-leb r.quanta (moved_place r) h) refl

  pub clock_new : moved_place r < r.quanta → sampled_clock r x.level ≡ sampled_new r x.level
  clock_new h = rw (lt-leb r.quanta (moved_place r) h) refl

  apart : (n : ℕ) → n ≡ quanta_before_sample r → (r.quanta + n ≤ moved_place r) ⊎ ((moved_place r < r.quanta) × (r.quanta + n ≤ end_of r + sample_at r.lengths))
  apart n e = elim (cases_lt (moved_place r) r.quanta) [
    | inl over ↦ (let w = way_new over in let i = inside in inr (over, omega arith))
    | inr still ↦ (let w = way_on still in inl (omega arith))
  ]

  free : (n : ℕ) → n ≡ quanta_before_sample r → AreFree r x.level n
  free n e = record { lengths = is.lengths; shorter = is.shorter; inside = inside; no_edge = ahead.no_edge; apart = apart n e }

  due_zero : quanta_before_sample r ≡ 0 → IsDue r r x
  due_zero e = elim (cases_lt (moved_place r) r.quanta) [
    | inl over ↦ (let w = way_new over in let f = far in absurd (omega arith))
    | inr still ↦ (
        let w = way_on still in
        let f = far in
        let within = ahead.within in
        let q : r.quanta ≡ moved_place r = omega arith in
        let here : is_sampled r ≡ true = eq-eqb r.quanta (moved_place r) q in
        record {
          goes = record { no_edge = ahead.no_edge; begun = omega arith; inside = omega arith };
          here = here;
          after = due_on r x.level here ∙ sym (clock_on still);
        })
  ]

  due_at : (n : ℕ) → 0 < n → n ≡ quanta_before_sample r → IsDue r (running_skipped r x.level n) x
  due_at n some e = elim (cases_lt (moved_place r) r.quanta) [
    | inl over ↦ (
        let w = way_new over in
        let f = far in
        let i = inside in
        let low = is.lengths.ps2_low in
        let s : Running = running_new r x.level (sample_at r.lengths) in
        let q : r.quanta + n - end_of r ≡ sample_at r.lengths = omega arith in
        let at : running_skipped r x.level n ≡ s = skipped_new r x.level n (omega arith) ∙ ap (running_new r x.level) q in
        let here : is_sampled s ≡ true = eq-eqb (sample_at r.lengths) (sample_at r.lengths + 0) (omega arith) in
        subst (λ (t : Running). IsDue r t x) (sym at) (record {
          goes = record { no_edge = same_twice x.level; begun = omega arith; inside = omega arith };
          here = here;
          after = due_on s x.level here ∙ ap (λ (k : ℕ). record (sampled_new r x.level) { quanta = suc k }) (let z : sample_at r.lengths + 0 ≡ sample_at r.lengths = omega arith in z) ∙ sym (clock_new over);
        }))
    | inr still ↦ (
        let w = way_on still in
        let f = far in
        let within = ahead.within in
        let s : Running = running_at r x.level (moved_place r) in
        let q : r.quanta + n ≡ moved_place r = omega arith in
        let at : running_skipped r x.level n ≡ s = skipped_on r x.level n (omega arith) ∙ ap (running_at r x.level) q in
        let here : is_sampled s ≡ true = eq-eqb (moved_place r) (moved_place r) refl in
        subst (λ (t : Running). IsDue r t x) (sym at) (record {
          goes = record { no_edge = same_twice x.level; begun = omega arith; inside = omega arith };
          here = here;
          after = due_on s x.level here ∙ sym (clock_on still);
        }))
  ]

-- a clock that is due after so many quanta
record IsDueAfter (l : Lengths) (past : List Seen) (x : Seen) (n : ℕ) : Type 0 where
  at : Running
  clock : clock_after l (past ++ replicate n x) ≡ at
  due : IsDue (clock_after l past) at x

module _ (l : Lengths) (past : List Seen) (x : Seen) (is : IsBitClock (clock_after l past)) (ahead : IsSampleAhead (clock_after l past) x.level) where
  abbrev r : Running
  r = clock_after l past

  due_after : (n : ℕ) → n ≡ quanta_before_sample r → IsDueAfter l past x n
  due_after zero e = record { at = r; clock = ap (clock_after l) (append-nil past); due = due_zero r x is ahead (sym e) }
  due_after (suc m) e = record {
    at = running_skipped r x.level (suc m);
    clock = skipped l past x (suc m) (omega arith) (free r x is ahead (suc m) e);
    due = due_at r x is ahead (suc m) (omega arith) e;
  }

  module _ (n : ℕ) (e : n ≡ quanta_before_sample r) where
    abbrev d : IsDueAfter l past x n
    d = due_after n e

    clock_is : clock_after l (past ++ replicate (suc n) x) ≡ sampled_clock r x.level
    clock_is =
        ap (clock_after l) (snoc past x n)
        ∙ clock_next l (past ++ replicate n x) x
        ∙ ap (λ s. running_after s x) d.clock
        ∙ goes_after d.at x d.due.goes
        ∙ d.due.after

    sampled_is : beat_of l (past ++ replicate n x) x ≡ Sample x.level
    sampled_is =
        beat_next l (past ++ replicate n x) x
        ∙ ap (λ s. running_beat (running_edge s) x) d.clock
        ∙ goes_beat d.at x d.due.goes
        ∙ ap (λ b. cond b (Sample x.level) Plain) d.due.here

    unmoved_is : IsUnmoved l past x (suc n)
    unmoved_is m h = elim (cases_lt m n) [
      | inl less ↦ unmoved l past x n (free r x is ahead n e) m less
      | inr more ↦ (let f : n ≡ m = omega arith in subst (λ k. sync_of l (past ++ replicate k x) x ≡ None) f
          (sync_next l (past ++ replicate n x) x ∙ ap (λ s. running_answer (running_edge s) x) d.clock ∙ goes_answer d.at x d.due.goes))
    ]

    pub sampled_after : IsSampledAfter l past x n
    sampled_after = record { unmoved = unmoved_is; unsampled = not_sampled l past x n (free r x is ahead n e); sampled = sampled_is }

    pub clock_sampled : clock_after l (past ++ replicate (suc n) x) ≡ sampled_clock r x.level
    clock_sampled = clock_is

-- the next sample
pub next_after : (r : Running) (level : Level) → IsBitClock r → IsSampleAhead r level → SamplesAfter r level (quanta_before_sample r) (sampled_clock r level)
next_after r level is ahead = record {
  clock = λ l past e x f. ap (sampled_clock r) (sym f) ∙ ap (λ s. sampled_clock s x.level) e ∙ sym (clock_sampled l past x (here l past e) (there l past e x f) (quanta_before_sample r) (ap quanta_before_sample e));
  sampled = λ l past e x f. sampled_after l past x (here l past e) (there l past e x f) (quanta_before_sample r) (ap quanta_before_sample e);
}
  where
    here : (l : Lengths) (past : List Seen) → r ≡ clock_after l past → IsBitClock (clock_after l past)
    here l past e = subst IsBitClock e is

    there : (l : Lengths) (past : List Seen) → r ≡ clock_after l past → (x : Seen) → x.level ≡ level → IsSampleAhead (clock_after l past) x.level
    there l past e x f = subst (λ s. IsSampleAhead s x.level) e (subst (IsSampleAhead r) (sym f) ahead)

-- right behind a sample of that level, in a bit that isn't shorter: the next one comes a bit later
module _ (s : Running) (level : Level) (are : AreLengths s.lengths) (behind : s.quanta ≡ suc (moved_place s)) (longer : s.longer ≤ s.lengths.sjw) (shorter : s.shorter ≡ 0) (synced : s.synced ≡ false → s.longer ≡ 0) (last : s.level ≡ level) where
  is_clock : IsBitClock s
  is_clock = (let low = are.ps2_low in record {
    lengths = are;
    longer = longer;
    shorter = omega arith;
    longer_synced = synced;
    shorter_synced = λ e. shorter;
    quanta = omega arith;
  })

  is_ahead : IsSampleAhead s level
  is_ahead = (let low = are.ps2_low in record {
    no_edge = subst (λ v. finds_edge s v ≡ false) last (same_twice s.level);
    within = omega arith;
    whole = λ before. shorter;
  })

  way : quanta_before_sample s ≡ bit_quanta s.lengths - 1
  way = way_new s (seen_as level false false false false) is_clock is_ahead (omega arith) ∙ (let low = are.ps2_low in omega arith)

  free_after : free_quanta true s level ≡ bit_quanta s.lengths - 1
  free_after = rw is_ahead.no_edge way

  bit_after : SamplesAfter s level (bit_quanta s.lengths - 1) (sampled_new s level)
  bit_after =
      subst (λ n. SamplesAfter s level n (sampled_new s level)) way
      (subst (SamplesAfter s level (quanta_before_sample s)) (clock_new s (seen_as level false false false false) is_clock is_ahead (omega arith))
      (next_after s level is_clock is_ahead))

-- behind the next sample of such a bit, and bit after bit
module _ (t : Running) (level : Level) (is : IsBitClock t) (ahead : IsSampleAhead t level) where
  in_next : SamplesAfter (sampled_new t level) level (bit_quanta t.lengths - 1) (sampled_new t level)
  in_next =
      bit_after (sampled_new t level) level is.lengths (let e : suc (sample_at t.lengths) ≡ suc (sample_at t.lengths + 0) = omega arith in e) (omega arith) refl (λ e. refl) refl

  free_next : free_quanta true (sampled_new t level) level ≡ bit_quanta t.lengths - 1
  free_next =
      free_after (sampled_new t level) level is.lengths (let e : suc (sample_at t.lengths) ≡ suc (sample_at t.lengths + 0) = omega arith in e) (omega arith) refl (λ e. refl) refl

  in_this : t.quanta ≤ moved_place t → SamplesAfter (sampled_on t level) level (bit_quanta t.lengths - 1) (sampled_new t level)
  in_this still = bit_after (sampled_on t level) level is.lengths refl is.longer (ahead.whole still) is.longer_synced refl

  pub free_bits : (k : ℕ) → free_quanta true (sampled_bits t level k) level ≡ bit_quanta t.lengths - 1
  free_bits zero = elim (cases_lt (moved_place t) t.quanta) [
    | inl over ↦ ap (λ u. free_quanta true u level) (clock_new t (seen_as level false false false false) is ahead over) ∙ free_next
    | inr still ↦ ap (λ u. free_quanta true u level) (clock_on t (seen_as level false false false false) is ahead still)
        ∙ free_after (sampled_on t level) level is.lengths refl is.longer (ahead.whole still) is.longer_synced refl
  ]
  free_bits (suc k) = free_next

  pub bits_after : (k : ℕ) → SamplesAfter (sampled_bits t level k) level (bit_quanta t.lengths - 1) (sampled_bits t level (suc k))
  bits_after zero = elim (cases_lt (moved_place t) t.quanta) [
    | inl over ↦ subst (λ u. SamplesAfter u level (bit_quanta t.lengths - 1) (sampled_new t level)) (sym (clock_new t (seen_as level false false false false) is ahead over)) in_next
    | inr still ↦ subst (λ u. SamplesAfter u level (bit_quanta t.lengths - 1) (sampled_new t level)) (sym (clock_on t (seen_as level false false false false) is ahead still)) (in_this still)
  ]
  bits_after (suc k) = in_next
