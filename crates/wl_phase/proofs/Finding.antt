-- A node that has sampled a recessive bit which nothing moved, and finds a dominant level up to its next sample.
use Rattle.std.proofs.Common.{◌≡◌, ◌∙◌, inl, inr, refl, ap, subst, ℕ, zero, suc, ◌+◌, ◌-◌, ◌<◌, ◌≤◌, [], ◌++◌, true, false, cond, Some, None, arith, append-nil}
use Rattle.std.proofs.lemmas.Bool.{cases_eq, cases_lt, eq-eqb, lt-leb, false_from_ne_true}
use Rattle.wl_level.specs.declared.Level.{Level}
use Rattle.wl_level.specs.declared.Level.TheVariants.{Dominant, Recessive}
use Rattle.wl_segments.specs.Lengths.{Lengths, sample_at, bit_quanta}
use Rattle.wl_sync.specs.declared.Sync.TheVariants.{Error}
use Rattle.wl_sync.specs.declared.Beat.TheVariants.{Sample}
use Rattle.wl_sync.specs.declared.Seen.{Seen}
use Rattle.wl_sync.specs.Edges.{phase_error}
use Rattle.wl_sync.specs.Bits.{beat_of, sync_of}
use Rattle.wl_sync.specs.Running.{Running, clock_after}
use Rattle.wl_sync.specs.Steps.{running_sync}
use Rattle.wl_sync.specs.Skips.{quanta_before_sample, steady_clock}
use Rattle.wl_phase.specs.Ways.{ByTheBook, WayLaws, sample_way, way_after, moved_to}
use Rattle.wl_phase.specs.InStep.{seen_before, sampled_by, samples_from}
use Rattle.wl_phase.specs.Answer.{FindsDominant, FindsItsEnd, SamplesNext}
use Rattle.wl_phase.proofs.Steps.{IsValid, Leaves, Passes}
use Rattle.wl_phase.proofs.Edges.{answer_soft}
use Rattle.wl_phase.proofs.Runs as runs
use Rattle.wl_phase.proofs.Runs.{Goes, valid_at, sync_is}
use Rattle.wl_phase.proofs.Listening.{now_recessive, before_dominant, counts_then, soft_from, unsampled_by}

-- right after such a sample a bit less a quantum is to come before the next one
steady_way : (l : Lengths) → ByTheBook l → quanta_before_sample (steady_clock l) ≡ bit_quanta l - 1
steady_way l h =
    let low = h.lengths.ps2_low in
    let e : quanta_before_sample (steady_clock l) ≡ sample_at l + 0 + l.ps2 - 0 - suc (sample_at l) + sample_at l =
    rw (lt-leb (suc (sample_at l)) (sample_at l + 0) (omega arith)) refl in
    omega arith

module _ (goes : Goes) (ways : WayLaws) (l : Lengths) (h : ByTheBook l) (seen : ℕ → Seen) (k n : ℕ) (is : FindsDominant l seen k n) where
  abbrev clock : ℕ → Running
  clock i = clock_after l (seen_before seen i)

  abbrev way : ℕ → ℕ
  way i = sample_way l (seen_before seen i)

  abbrev sample : ℕ
  sample = n + moved_to (sample_at l - 1) l.sjw (k + bit_quanta l - n)

  abbrev valid : (i : ℕ) → IsValid (clock i)
  valid = valid_at goes l h seen

  abbrev leaves_at : (i : ℕ) → Leaves (clock i) (seen i) (way_after l (way i) (sync_of l (seen_before seen i) (seen i))) (clock (suc i))
  leaves_at = runs.leaves_at goes l h seen

  abbrev passes_at : (i : ℕ) → running_sync (clock i) (seen i) ≡ false → Passes (clock i) (seen i) (clock (suc i))
  passes_at = runs.passes_at goes l h seen

  abbrev none_at : (i : ℕ) → running_sync (clock i) (seen i) ≡ false → sync_of l (seen_before seen i) (seen i) ≡ None
  none_at = runs.none_at goes l h seen

  abbrev way_down : (i : ℕ) → running_sync (clock i) (seen i) ≡ false → 0 < way i → way (suc i) ≡ way i - 1
  way_down = runs.way_down goes l h seen

  -- no sample since that of quantum k
  record Unsampled (i : ℕ) : Type 0 where
    quanta : ℕ
    place : suc k + quanta ≡ i
    none : samples_from l seen (suc k) quanta ≡ []

  unsampled_on : (i : ℕ) → Unsampled i → ((level : Level) → beat_of l (seen_before seen i) (seen i) ≡ Sample level → ⊥) → Unsampled (suc i)
  unsampled_on i u not = record {
    quanta = suc u.quanta;
    place = (let e = u.place in omega arith);
    none =
        ap (λ m. samples_from l seen (suc k) u.quanta ++ sampled_by (beat_of l (seen_before seen m) (seen m))) u.place
        ∙ ap (λ v. samples_from l seen (suc k) u.quanta ++ v) (unsampled_by (beat_of l (seen_before seen i) (seen i)) not)
        ∙ append-nil (samples_from l seen (suc k) u.quanta) ∙ u.none;
  }

  -- before the edge
  record Waits (i : ℕ) : Type 0 where
    level : (clock i).level ≡ Recessive
    sample : (clock i).sample ≡ Recessive
    synced : (clock i).synced ≡ false
    way : i + way i ≡ k + bit_quanta l
    unsampled : Unsampled i

  waits : (m : ℕ) → suc k + m ≤ n → Waits (suc k + m)
  waits zero less = subst Waits (let e : suc k ≡ suc k + 0 = omega arith in e) first
    where
      first : Waits (suc k)
      first = record {
        level = ap (λ r. r.level) is.clock;
        sample = ap (λ r. r.sample) is.clock;
        synced = ap (λ r. r.synced) is.clock;
        way = (let e : way (suc k) ≡ bit_quanta l - 1 = ap quanta_before_sample is.clock ∙ steady_way l h in let low = h.lengths.low in omega arith);
        unsampled = record { quanta = 0; place = omega arith; none = refl };
      }
  waits (suc m) less = subst Waits (let e : suc (suc k + m) ≡ suc k + suc m = omega arith in e) (next (suc k + m) (omega arith) (omega arith) (waits m (omega arith)))
    where
      next : (i : ℕ) → k < i → i < n → Waits i → Waits (suc i)
      next i above below w =
          let silent = is.silent i above below in
          let none = now_recessive (clock i) (seen i) silent in
          let inside = is.inside in
          let place = w.way in
          let some : 0 < way i = omega arith in
          let p = passes_at i none in
          let down = way_down i none some in
          record {
            level = (leaves_at i).level ∙ silent;
            sample = p.unsampled some ∙ w.sample;
            synced = false_from_ne_true (clock (suc i)).synced (λ e. (let o = (p.once e).0 in let f = w.synced in cc));
            way = omega arith;
            unsampled = unsampled_on i w.unsampled (λ level e. (let o = (ways.only l (seen_before seen i) (seen i) level h e).1 in omega arith));
          }

  -- after it
  record Holds (i : ℕ) : Type 0 where
    level : (clock i).level ≡ Dominant
    way : i + way i ≡ sample
    later : n ≤ i
    unsampled : Unsampled i

  found : Waits n → Holds (suc n)
  found w =
      let low = h.lengths.sjw_low in
      let a = h.lengths.prop_low in
      let b = h.lengths.ps1_low in
      let level = is.there n (omega arith) (omega arith) in
      let counts : running_sync (clock n) (seen n) ≡ true =
      counts_then (clock n) (seen n) h.book (valid n).begun level is.driving w.level w.sample w.synced in
      let error : sync_of l (seen_before seen n) (seen n) ≡ Some (Error (phase_error l (clock n).quanta)) =
      sync_is goes l h (seen_before seen n) (seen n)
      ∙ answer_soft (clock n) (seen n) (valid n) counts (soft_from l.sync (seen n) h.book is.awaits) in
      let way_is : way (suc n) ≡ moved_to (sample_at l - 1) l.sjw (way n) - 1 = (leaves_at n).way ∙ ap (way_after l (way n)) error in
      let place = w.way in
      let inside = is.inside in
      let same : way n ≡ k + bit_quanta l - n = omega arith in
      let moved : way (suc n) ≡ moved_to (sample_at l - 1) l.sjw (k + bit_quanta l - n) - 1 =
      way_is ∙ ap (λ m. moved_to (sample_at l - 1) l.sjw m - 1) same in
      record {
        level = (leaves_at n).level ∙ level;
        way = omega arith;
        later = omega arith;
        unsampled = unsampled_on n w.unsampled (λ level e. (let o = (ways.only l (seen_before seen n) (seen n) level h e).0 in cc));
      }

  hold : (m i : ℕ) → way i ≡ m → Holds i → SamplesNext l seen k sample Dominant
  hold zero i e w =
      let none = before_dominant (clock i) (seen i) w.level in
      let place = w.way in
      let here : i ≡ sample = omega arith in
      let later = w.later in
      let level = is.there i later (omega arith) in
      let u = w.unsampled in
      subst (λ m. SamplesNext l seen k m Dominant) here (record {
        beat = ways.sample l (seen_before seen i) (seen i) h (none_at i none) e ∙ ap Sample level;
        quanta = u.quanta;
        place = u.place;
        first = u.none;
      })
  hold (suc m) i e w =
      let none = before_dominant (clock i) (seen i) w.level in
      let place = w.way in
      let later = w.later in
      let level = is.there i later (omega arith) in
      let down = way_down i none (omega arith) in
      hold m (suc i) (omega arith) (record {
        level = (leaves_at i).level ∙ level;
        way = omega arith;
        later = omega arith;
        unsampled = unsampled_on i w.unsampled (λ found_level f. (let o = (ways.only l (seen_before seen i) (seen i) found_level h f).1 in omega arith));
      })

  pub samples_next : SamplesNext l seen k sample Dominant
  samples_next =
      let later = is.later in
      let place : suc k + (n - suc k) ≡ n = omega arith in
      let w = subst Waits place (waits (n - suc k) (omega arith)) in
      hold (way (suc n)) (suc n) refl (found w)

  -- after that sample
  record Ends (i : ℕ) : Type 0 where
    way : i + way i ≡ sample + bit_quanta l
    later : sample < i
    quanta : ℕ
    place : suc sample + quanta ≡ i
    none : samples_from l seen (suc sample) quanta ≡ []

  module _ (ends : FindsItsEnd l seen sample) where
    -- the line goes recessive once
    no_edge : (i : ℕ) → sample < i → i ≤ sample + bit_quanta l → running_sync (clock i) (seen i) ≡ false
    no_edge zero above up_to = absurd (omega arith)
    no_edge (suc i) above up_to = elim (cases_lt (suc i) ends.end) [
      | inl early ↦ before_dominant (clock (suc i)) (seen (suc i)) ((leaves_at i).level ∙ dominant i (omega arith) (omega arith))
      | inr over ↦ now_recessive (clock (suc i)) (seen (suc i)) (ends.after (suc i) over up_to)
    ]
      where
        dominant : (i : ℕ) → sample ≤ i → i < ends.end → (seen i).level ≡ Dominant
        dominant i low below = elim (cases_eq i sample) [
          | inl here ↦ (let later = moved_later in is.there i (omega arith) (omega arith))
          | inr apart ↦ ends.before i (omega arith) below
        ]
          where
            moved_later : n ≤ sample
            moved_later = omega arith

    first_end : Ends (suc sample)
    first_end =
        let s = samples_next in
        let o = ways.only l (seen_before seen sample) (seen sample) Dominant h s.beat in
        let new : way (suc sample) ≡ bit_quanta l - 1 =
        (leaves_at sample).way ∙ ap (way_after l (way sample)) o.0 ∙ ap (λ b. cond b (bit_quanta l - 1) (way sample - 1)) (eq-eqb (way sample) 0 o.1) in
        let low = h.lengths.low in
        record { way = omega arith; later = omega arith; quanta = 0; place = omega arith; none = refl }

    ending : (m i : ℕ) → way i ≡ m → Ends i → SamplesNext l seen sample (sample + bit_quanta l) Recessive
    ending zero i e w =
        let place = w.way in
        let here : i ≡ sample + bit_quanta l = omega arith in
        let none = no_edge i w.later (omega arith) in
        let by_sample = ends.by_sample in
        let level = ends.after i (omega arith) (omega arith) in
        subst (λ m. SamplesNext l seen sample m Recessive) here (record {
          beat = ways.sample l (seen_before seen i) (seen i) h (none_at i none) e ∙ ap Sample level;
          quanta = w.quanta;
          place = w.place;
          first = w.none;
        })
    ending (suc m) i e w =
        let place = w.way in
        let later = w.later in
        let none = no_edge i w.later (omega arith) in
        let down = way_down i none (omega arith) in
        ending m (suc i) (omega arith) (record {
          way = omega arith;
          later = omega arith;
          quanta = suc w.quanta;
          place = (let g = w.place in omega arith);
          none =
              ap (λ q. samples_from l seen (suc sample) w.quanta ++ sampled_by (beat_of l (seen_before seen q) (seen q))) w.place
              ∙ ap (λ v. samples_from l seen (suc sample) w.quanta ++ v)
              (unsampled_by (beat_of l (seen_before seen i) (seen i)) (λ level f. (let o = (ways.only l (seen_before seen i) (seen i) level h f).1 in omega arith)))
              ∙ append-nil (samples_from l seen (suc sample) w.quanta) ∙ w.none;
        })

    pub samples_end : SamplesNext l seen sample (sample + bit_quanta l) Recessive
    samples_end = ending (way (suc sample)) (suc sample) refl first_end
