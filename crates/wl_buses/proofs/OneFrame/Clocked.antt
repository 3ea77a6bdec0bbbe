-- A bit clock from one sample to the next.
use Rattle.std.proofs.Common.{◌≡◌, ◌∙◌, ap, sym, subst, inl, inr, refl, ℕ, zero, suc, ◌+◌, ◌-◌, ◌<◌, ◌≤◌, [], ◌++◌, cond, Some, None, arith}
use Rattle.std.specs.Prelude.{ℤ}
use Rattle.std.proofs.lemmas.Bool.{cases_lt, eq-eqb, ne_eqb}
use Rattle.wl_level.specs.declared.Level.{Level}
use Rattle.wl_segments.specs.Lengths.{Lengths, sample_at, bit_quanta}
use Rattle.wl_sync.specs.declared.Sync.TheVariants.{Error}
use Rattle.wl_sync.specs.declared.Seen.{Seen}
use Rattle.wl_sync.specs.Bits.{beat_of, sync_of}
use Rattle.wl_sync.specs.Running.{clock_after}
use Rattle.wl_sync.specs.Skips.{quanta_before_sample}
use Rattle.wl_phase.specs.Ways.{ByTheBook, WayLaws, moved_to, sample_way, way_after}
use Rattle.wl_phase.specs.Answer.{SamplesNext}
use Rattle.wl_phase.specs.InStep.{SyncsHard, sampled_by, samples_from, seen_before}
use Rattle.wl_buses.specs.OneFrame.Clocked.{NoneSyncs, BitPlaceLaws, SamplesBy}
use Rattle.wl_phase.proofs.Callers.{unsampled_by}

-- the place 0 that an edge moves, as the sample that it moves
pub shifted : (due f at jump : ℕ) → jump ≤ due → 1 ≤ at → 1 ≤ f → f ≤ due + at → f + moved_to (at - 1) jump (due + at - f) ≡ moved_to (f - 1) jump due + at
shifted due f at jump h one some inside = omega arith

module _ (ways : WayLaws) (l : Lengths) (book : ByTheBook l) (seen : ℕ → Seen) where
  -- the quanta before the next sample, at quantum k
  pub way : ℕ → ℕ
  way k = sample_way l (seen_before seen k)

  -- by what the clock keeps
  pub way_is : (k : ℕ) → way k ≡ quanta_before_sample (clock_after l (seen_before seen k))
  unfolding way
  way_is k = refl

  no_samples : (from n : ℕ) → ((i : ℕ) → from ≤ i → i < from + n → (level : Level) → SamplesBy l seen i level → ⊥) → samples_from l seen from n ≡ []
  no_samples from zero h = refl
  no_samples from (suc n) h =
      ap (λ v. v ++ sampled_by (beat_of l (seen_before seen (from + n)) (seen (from + n)))) (no_samples from n (λ i low high. h i low (omega arith)))
      ∙ unsampled_by (beat_of l (seen_before seen (from + n)) (seen (from + n))) (h (from + n) (omega arith) (omega arith))

  -- a quantum that nothing synchronises
  pub down : (k : ℕ) → sync_of l (seen_before seen k) (seen k) ≡ None → 0 < way k → way (suc k) ≡ way k - 1
  unfolding way
  down k none some =
      ways.way l (seen_before seen k) (seen k) book ∙ ap (way_after l (way k)) none ∙ ap (λ b. cond b (bit_quanta l - 1) (way k - 1)) (ne_eqb (way k) 0 (λ z. omega arith))

  anew : (k : ℕ) → sync_of l (seen_before seen k) (seen k) ≡ None → way k ≡ 0 → way (suc k) ≡ bit_quanta l - 1
  unfolding way
  anew k none z =
      ways.way l (seen_before seen k) (seen k) book ∙ ap (way_after l (way k)) none ∙ ap (λ b. cond b (bit_quanta l - 1) (way k - 1)) (eq-eqb (way k) 0 z)

  pub after_sample : (k : ℕ) (level : Level) → SamplesBy l seen k level → way (suc k) ≡ bit_quanta l - 1
  unfolding way
  after_sample k level e = let o = ways.only l (seen_before seen k) (seen k) level book e in anew k o.0 o.1

  pub unsampled_at : (k : ℕ) → 0 < way k → (level : Level) → SamplesBy l seen k level → ⊥
  unfolding way
  unsampled_at k some level e = let o = (ways.only l (seen_before seen k) (seen k) level book e).1 in omega arith

  -- so many quanta later
  pub later : (k n : ℕ) → ((i : ℕ) → k ≤ i → i < k + n → sync_of l (seen_before seen i) (seen i) ≡ None) → n ≤ way k → way (k + n) ≡ way k - n
  later k zero none few = (let e : k + 0 ≡ k = omega arith in ap way e) ∙ omega arith
  later k (suc n) none few =
      let before = later k n (λ i low high. none i low (omega arith)) (omega arith) in
      let one = down (k + n) (none (k + n) (omega arith) (omega arith)) (omega arith) in
      let e : k + suc n ≡ suc (k + n) = omega arith in
      ap way e ∙ one ∙ omega arith

  -- after a sample of a bit with this place, while nothing synchronises
  pub way_alone : (place : ℕ) (level : Level) → SamplesBy l seen (place + sample_at l) level → (i : ℕ) → place + sample_at l < i → i ≤ place + bit_quanta l + sample_at l
      → ((j : ℕ) → place + sample_at l < j → j < i → sync_of l (seen_before seen j) (seen j) ≡ None) → way i + i ≡ place + bit_quanta l + sample_at l
  way_alone place level sampled i a b none =
      let begin = after_sample (place + sample_at l) level sampled in
      let long = book.lengths.low in
      let e : suc (place + sample_at l) + (i - suc (place + sample_at l)) ≡ i = omega arith in
      let there = later (suc (place + sample_at l)) (i - suc (place + sample_at l)) (λ j c d. none j (omega arith) (omega arith)) (omega arith) in
      let same : way i ≡ way (suc (place + sample_at l) + (i - suc (place + sample_at l))) = ap way (sym e) in
      omega arith

  -- none of those before the way's end is a sample, and that one is
  pub none_before : (k m : ℕ) → k + way k ≡ m → ((i : ℕ) → k ≤ i → i ≤ m → sync_of l (seen_before seen i) (seen i) ≡ None)
      → (i : ℕ) → k ≤ i → i < m → (level : Level) → SamplesBy l seen i level → ⊥
  none_before k m e none i low high =
      let place : k + (i - k) ≡ i = omega arith in
      let there = later k (i - k) (λ j from to. none j from (omega arith)) (omega arith) in
      let here : way i ≡ way k - (i - k) = ap way (sym place) ∙ there in
      unsampled_at i (omega arith)

  ends : (k m : ℕ) → k + way k ≡ m → ((i : ℕ) → k ≤ i → i ≤ m → sync_of l (seen_before seen i) (seen i) ≡ None) → SamplesBy l seen m (seen m).level
  unfolding way
  ends k m e none =
      let there = later k (way k) (λ j from to. none j from (omega arith)) (omega arith) in
      let zero_way : way m ≡ 0 = ap way (sym e) ∙ there ∙ omega arith in
      ways.sample l (seen_before seen m) (seen m) book (none m (omega arith) (omega arith)) zero_way

  pub no_edge : (place : ℕ) (level : Level) → SamplesBy l seen (place + sample_at l) level → NoneSyncs l seen (place + sample_at l) (place + bit_quanta l + sample_at l)
      → SamplesNext l seen (place + sample_at l) (place + bit_quanta l + sample_at l) (seen (place + bit_quanta l + sample_at l)).level
  no_edge place level sampled none =
      let begin = after_sample (place + sample_at l) level sampled in
      let long = book.lengths.low in
      let e : suc (place + sample_at l) + way (suc (place + sample_at l)) ≡ place + bit_quanta l + sample_at l = omega arith in
      let syncs = λ (i : ℕ) (low : suc (place + sample_at l) ≤ i) (high : i ≤ place + bit_quanta l + sample_at l). none i (omega arith) high in
      record {
        beat = ends (suc (place + sample_at l)) (place + bit_quanta l + sample_at l) e syncs;
        quanta = way (suc (place + sample_at l));
        place = e;
        first = no_samples (suc (place + sample_at l)) (way (suc (place + sample_at l))) (λ i low high. none_before (suc (place + sample_at l)) (place + bit_quanta l + sample_at l) e syncs i low (omega arith));
      }

  pub hard_way : (place : ℕ) → SyncsHard l seen (suc place) → way (suc (suc place)) ≡ sample_at l - 2
  unfolding way
  hard_way place hard = ways.way l (seen_before seen (suc place)) (seen (suc place)) book ∙ ap (way_after l (way (suc place))) hard

  pub error_way : (k : ℕ) (error : ℤ) → sync_of l (seen_before seen k) (seen k) ≡ Some (Error error) → way (suc k) ≡ moved_to (sample_at l - 1) l.sjw (way k) - 1
  unfolding way
  error_way k error soft = ways.way l (seen_before seen k) (seen k) book ∙ ap (way_after l (way k)) soft

  pub hard_edge : (place : ℕ) → SyncsHard l seen (suc place) → NoneSyncs l seen (suc place) (place + sample_at l)
      → SamplesNext l seen (suc place) (place + sample_at l) (seen (place + sample_at l)).level
  hard_edge place hard none =
      let a = book.lengths.prop_low in
      let b = book.lengths.ps1_low in
      let begin = hard_way place hard in
      let e : suc (suc place) + way (suc (suc place)) ≡ place + sample_at l = omega arith in
      let syncs = λ (i : ℕ) (low : suc (suc place) ≤ i) (high : i ≤ place + sample_at l). none i (omega arith) high in
      record {
        beat = ends (suc (suc place)) (place + sample_at l) e syncs;
        quanta = way (suc (suc place));
        place = e;
        first = no_samples (suc (suc place)) (way (suc (suc place))) (λ i low high. none_before (suc (suc place)) (place + sample_at l) e syncs i low (omega arith));
      }

  -- an edge that moves the sample
  module _ (place found new : ℕ) (level : Level) (error : ℤ) (sampled : SamplesBy l seen (place + sample_at l) level)
      (after : place + sample_at l < found) (inside : found ≤ place + bit_quanta l + sample_at l) (none : NoneSyncs l seen (place + sample_at l) (found - 1))
      (soft : sync_of l (seen_before seen found) (seen found) ≡ Some (Error error)) (moved : new ≡ moved_to (found - 1) l.sjw (place + bit_quanta l))
      (calm : NoneSyncs l seen found (new + sample_at l)) where
    abbrev start : ℕ
    start = suc (place + sample_at l)

    pub way_there : way found ≡ place + bit_quanta l + sample_at l - found
    way_there =
        let begin = after_sample (place + sample_at l) level sampled in
        let long = book.lengths.low in
        let e : start + (found - start) ≡ found = omega arith in
        let there = later start (found - start) (λ i low high. none i (omega arith) (omega arith)) (omega arith) in
        ap way (sym e) ∙ there ∙ omega arith

    pub way_moved : way (suc found) ≡ moved_to (sample_at l - 1) l.sjw (place + bit_quanta l + sample_at l - found) - 1
    unfolding way
    way_moved =
        ways.way l (seen_before seen found) (seen found) book ∙ ap (way_after l (way found)) soft ∙ ap (λ n. moved_to (sample_at l - 1) l.sjw n - 1) way_there

    pub sample_there : suc found + way (suc found) ≡ new + sample_at l
    sample_there =
        let long = book.lengths.low in
        let jump = book.lengths.sjw_half in
        let a = book.lengths.prop_low in
        let b = book.lengths.ps1_low in
        let c = book.lengths.sjw_low in
        let e = shifted (place + bit_quanta l) found (sample_at l) l.sjw (omega arith) (omega arith) (omega arith) (omega arith) in
        let w = way_moved in
        let some : 1 ≤ moved_to (sample_at l - 1) l.sjw (place + bit_quanta l + sample_at l - found) = omega arith in
        omega arith

    before_edge : (i : ℕ) → start ≤ i → i < found → (level : Level) → SamplesBy l seen i level → ⊥
    before_edge i low high =
        let begin = after_sample (place + sample_at l) level sampled in
        let long = book.lengths.low in
        let e : start + (i - start) ≡ i = omega arith in
        let there = later start (i - start) (λ j from to. none j (omega arith) (omega arith)) (omega arith) in
        let here : way i ≡ way start - (i - start) = ap way (sym e) ∙ there in
        unsampled_at i (omega arith)

    at_edge : (level : Level) → SamplesBy l seen found level → ⊥
    at_edge level e = let o = (ways.only l (seen_before seen found) (seen found) level book e).0 in cc

    pub syncs : (i : ℕ) → suc found ≤ i → i ≤ new + sample_at l → sync_of l (seen_before seen i) (seen i) ≡ None
    syncs i low high = calm i (omega arith) high

    pub none_of : (i : ℕ) → start ≤ i → i < new + sample_at l → (level : Level) → SamplesBy l seen i level → ⊥
    none_of i low high level e = elim (cases_lt i found) [
      | inl below ↦ before_edge i low below level e
      | inr from ↦ elim (cases_lt found i) [
        | inl above ↦ none_before (suc found) (new + sample_at l) sample_there syncs i above high level e
        | inr here ↦ (let same : i ≡ found = omega arith in at_edge level (subst (λ k. SamplesBy l seen k level) same e))
      ]
    ]

    pub soft_edge : SamplesNext l seen (place + sample_at l) (new + sample_at l) (seen (new + sample_at l)).level
    soft_edge =
        let there = sample_there in
        record {
          beat = ends (suc found) (new + sample_at l) sample_there syncs;
          quanta = new + sample_at l - start;
          place = omega arith;
          first = no_samples start (new + sample_at l - start) (λ i low high. none_of i low (omega arith));
        }

pub bit_place_laws : WayLaws → BitPlaceLaws
bit_place_laws ways = record {
  alone = λ l seen place level book sampled none. no_edge ways l book seen place level sampled none;
  hard = λ l seen place book hard none. hard_edge ways l book seen place hard none;
  soft = λ l seen place found new level error book sampled after inside none soft moved calm.
      soft_edge ways l book seen place found new level error sampled after inside none soft moved calm;
}
