-- A bit clock that no edge moves, one quantum later.
use Rattle.std.proofs.Common.{◌≡◌, ◌≢◌, ◌∙◌, ◌⊎◌, inl, inr, refl, sym, ap, subst, ℕ, suc, ◌+◌, ◌-◌, ◌<◌, ◌≤◌, Bool, true, false, cond, not, ◌&&◌, Some, arith, min, ◌||◌}
use Rattle.std.proofs.lemmas.Bool.{both_ways, eq-eqb, ne_eqb, le-ltb, cases_eq, cases_Bool, and_from, and_left, and_right}
use Rattle.wl_level.specs.declared.Level.TheVariants.{Dominant, Recessive}
use Rattle.wl_level.specs.Levels.{is_dominant}
use Rattle.wl_segments.specs.declared.SyncRules.TheVariants.{Book}
use Rattle.wl_segments.specs.Lengths.{sample_at, bit_quanta}
use Rattle.wl_sync.specs.declared.Beat.TheVariants.{Plain, Sample, Start}
use Rattle.wl_sync.specs.declared.Sync.TheVariants.{Hard}
use Rattle.wl_sync.specs.declared.Seen.{Seen}
use Rattle.wl_sync.specs.Edges.{again_by, edge_restarts, is_hard_edge}
use Rattle.wl_sync.specs.Running.{Running}
use Rattle.wl_sync.specs.Steps.{end_of, running_edge, running_sync, running_restart, running_over, running_first, running_on, running_after, running_answer, running_beat, beat_between}
use Rattle.wl_phase.specs.Ways.{ByTheBook}
use Rattle.wl_phase.proofs.Callers.{IsValid, none_is, moved_is, late, late_is, late_over, driving_late, soft_driving, beat_is, looks_from, hard_from}

-- p quanta of the running bit are over, which is longer before its sample by so many; fresh: and has not synchronised
pub record IsAt (r : Running) (p longer : ℕ) (fresh : Bool) : Type 0 where
  pub quanta : r.quanta ≡ p + longer
  pub longer_is : r.longer ≡ longer
  pub shorter : r.shorter ≡ 0
  pub nominal : p ≤ sample_at r.lengths → longer ≡ 0
  pub low : 1 ≤ p
  pub high : p ≤ bit_quanta r.lengths
  pub unsynced : fresh ≡ true → r.synced ≡ false

-- No edge moves a bit: none counts, or the node drives dominant and it comes by the sample.
abbrev pub IsUnmovedBy : Running → Seen → ℕ → Bool → Type 0
IsUnmovedBy r x p fresh = (running_sync r x ≡ false) ⊎ ((x.driving ≡ true) × (p ≤ sample_at r.lengths) × (fresh ≡ false))

module _ (r : Running) (x : Seen) (p longer : ℕ) (fresh : Bool) (book : ByTheBook r.lengths) (h : IsAt r p longer fresh) (v : IsValid r) where
  -- where no edge counts
  none_on : running_sync r x ≡ false → p < bit_quanta r.lengths → running_after r x ≡ running_on r x.level
  none_on e less =
      let q = h.quanta in
      let s = h.shorter in
      let l = h.longer_is in
      none_is r x book.book e ∙ ap (λ b. cond b (running_first r x.level) (running_on r x.level)) (ne_eqb r.quanta (end_of r) (λ f. omega arith))

  none_over : running_sync r x ≡ false → p ≡ bit_quanta r.lengths → running_after r x ≡ running_first r x.level
  none_over e over =
      let q = h.quanta in
      let s = h.shorter in
      let l = h.longer_is in
      none_is r x book.book e ∙ ap (λ b. cond b (running_first r x.level) (running_on r x.level)) (eq-eqb r.quanta (end_of r) (omega arith))

  on_at : p < bit_quanta r.lengths → IsAt (running_on r x.level) (suc p) longer fresh
  on_at less =
      let q = h.quanta in
      record {
        quanta = omega arith;
        longer_is = h.longer_is;
        shorter = h.shorter;
        nominal = λ few. h.nominal (omega arith);
        low = omega arith;
        high = omega arith;
        unsynced = h.unsynced;
      }

  first_at : (f : Bool) → IsAt (running_first r x.level) 1 0 f
  first_at f =
      let low = book.lengths.low in
      record {
        quanta = refl;
        longer_is = refl;
        shorter = refl;
        nominal = λ few. refl;
        low = omega arith;
        high = omega arith;
        unsynced = λ e. refl;
      }

  beat_none : running_sync r x ≡ false → running_beat (running_edge r) x ≡ beat_between false r (running_after r x) x.level
  beat_none e = beat_is r x v ∙ ap (λ b. beat_between (b && edge_restarts r.lengths x r.quanta) r (running_after r x) x.level) e

  beat_plain : p ≢ sample_at r.lengths → beat_between false r (running_on r x.level) x.level ≡ Plain
  beat_plain apart =
      let q = h.quanta in
      let l = h.longer_is in
      let low = h.low in
      rw (ne_eqb (r.quanta + 1) 1 (λ f. omega arith), ne_eqb r.quanta (sample_at r.lengths + r.longer) (λ f. omega arith)) refl

  beat_sample : p ≡ sample_at r.lengths → beat_between false r (running_on r x.level) x.level ≡ Sample x.level
  beat_sample here =
      let q = h.quanta in
      let l = h.longer_is in
      let low = h.low in
      rw (ne_eqb (r.quanta + 1) 1 (λ f. omega arith), eq-eqb r.quanta (sample_at r.lengths + r.longer) (omega arith)) refl

  -- where the node drives dominant, and an edge of its own counts nevertheless: it lies in SYNC_SEG
  module _ (driving : x.driving ≡ true) (early : p ≤ sample_at r.lengths) (loose : fresh ≡ false) (counts : running_sync r x ≡ true) where
    place : p ≡ 1
    place =
        let q = h.quanta in
        let n = h.nominal early in
        elim (cases_eq p 1) [
          | inl e ↦ e
          | inr apart ↦
              (let low = h.low in
              let not_late = driving_late r x v driving (omega arith) (omega arith) in
              absurd (both_ways (running_sync r x) not_late counts))
        ]

    stays : running_restart r x ≡ false
    stays =
        let q = h.quanta in
        let n = h.nominal early in
        let e = place in
        let soft = soft_driving r.lengths.sync x book.book driving in
        let a = book.lengths.prop_low in
        let anew : edge_restarts r.lengths x r.quanta ≡ false = rw (soft, le-ltb (sample_at r.lengths) r.quanta (omega arith)) refl in
        and_right (running_sync r x) (edge_restarts r.lengths x r.quanta) anew

    after_is : running_after r x ≡ late r x
    after_is =
        let q = h.quanta in
        let n = h.nominal early in
        moved_is r x book.book counts stays
        ∙ ap (λ m. running_over Book r m false x.level) (late_is r x v (omega arith)) ∙ late_over r x v (omega arith)

    late_at : IsAt (late r x) 2 0 fresh
    late_at =
        let q = h.quanta in
        let n = h.nominal early in
        let e = place in
        let low = book.lengths.low in
        let a = book.lengths.prop_low in
        let b = book.lengths.ps1_low in
        record {
          quanta = omega arith;
          longer_is = omega arith;
          shorter = refl;
          nominal = λ few. refl;
          low = omega arith;
          high = omega arith;
          unsynced = λ f. cc;
        }

    late_beat : running_beat (running_edge r) x ≡ Plain
    late_beat =
        let q = h.quanta in
        let n = h.nominal early in
        let e = place in
        let a = book.lengths.prop_low in
        let b = book.lengths.ps1_low in
        let plain : beat_between false r (late r x) x.level ≡ Plain =
        rw (ne_eqb (r.quanta + 1) 1 (λ f. omega arith), ne_eqb r.quanta (sample_at r.lengths + min (r.quanta - 1) r.lengths.sjw) (λ f. omega arith)) refl in
        beat_is r x v ∙ ap (λ b. beat_between b r (running_after r x) x.level) stays
        ∙ ap (λ s. beat_between false r s x.level) after_is ∙ plain

  -- a quantum inside the bit
  pub goes_on : IsUnmovedBy r x p fresh → p < bit_quanta r.lengths → IsAt (running_after r x) (suc p) longer fresh
  goes_on (inl e) less = subst (λ s. IsAt s (suc p) longer fresh) (sym (none_on e less)) (on_at less)
  goes_on (inr d) less = elim (cases_Bool (running_sync r x)) [
    | inl e ↦
        (let one = place d.0 d.1 d.2 e in
        let none = h.nominal d.1 in
        subst (λ s. IsAt s (suc p) longer fresh) (sym (after_is d.0 d.1 d.2 e))
        (subst (λ n. IsAt (late r x) n longer fresh) (ap suc (sym one)) (subst (λ n. IsAt (late r x) 2 n fresh) (sym none) (late_at d.0 d.1 d.2 e))))
    | inr e ↦ subst (λ s. IsAt s (suc p) longer fresh) (sym (none_on e less)) (on_at less)
  ]

  pub is_plain : IsUnmovedBy r x p fresh → p < bit_quanta r.lengths → p ≢ sample_at r.lengths → running_beat (running_edge r) x ≡ Plain
  is_plain (inl e) less apart = beat_none e ∙ ap (λ s. beat_between false r s x.level) (none_on e less) ∙ beat_plain apart
  is_plain (inr d) less apart = elim (cases_Bool (running_sync r x)) [
    | inl e ↦ late_beat d.0 d.1 d.2 e
    | inr e ↦ beat_none e ∙ ap (λ s. beat_between false r s x.level) (none_on e less) ∙ beat_plain apart
  ]

  pub is_sample : IsUnmovedBy r x p fresh → p ≡ sample_at r.lengths → running_beat (running_edge r) x ≡ Sample x.level
  is_sample (inl e) here =
      let low = book.lengths.ps2_low in
      beat_none e ∙ ap (λ s. beat_between false r s x.level) (none_on e (omega arith)) ∙ beat_sample here
  is_sample (inr d) here = elim (cases_Bool (running_sync r x)) [
    | inl e ↦
        (let one = place d.0 d.1 d.2 e in
        let a = book.lengths.prop_low in
        let b = book.lengths.ps1_low in
        absurd (omega arith))
    | inr e ↦ (let low = book.lengths.ps2_low in beat_none e ∙ ap (λ s. beat_between false r s x.level) (none_on e (omega arith)) ∙ beat_sample here)
  ]

  -- and the one that begins the next bit
  pub starts : running_sync r x ≡ false → p ≡ bit_quanta r.lengths → (f : Bool) → IsAt (running_after r x) 1 0 f
  starts e over f = subst (λ s. IsAt s 1 0 f) (sym (none_over e over)) (first_at f)

  pub is_start : running_sync r x ≡ false → p ≡ bit_quanta r.lengths → running_beat (running_edge r) x ≡ Start
  is_start e over = beat_none e ∙ ap (λ s. beat_between false r s x.level) (none_over e over)

pub syncs_hard : (r : Running) (x : Seen) → r.lengths.sync ≡ Book → 0 < r.quanta → x.level ≡ Dominant → x.awaits ≡ true → x.driving ≡ false → r.level ≡ Recessive
    → r.sample ≡ Recessive → r.synced ≡ false → running_answer r x ≡ Some Hard
syncs_hard r x book begun now awaits driving was sampled fresh =
    let hard = hard_from r.lengths.sync x book awaits driving in
    let counts : running_sync r x ≡ true =
    and_from _ _ (and_from _ _ (and_from _ _ (and_from _ _ (and_from _ _ (ap is_dominant now) (ap (λ v. not (is_dominant v)) was)) (ap (λ v. not (is_dominant v)) sampled))
    (looks_from r.lengths.sync (sample_at r.lengths) r.quanta book begun))
    (ap not (and_left _ _ (and_right _ _ driving)))) (ap (λ b. not b || again_by r.lengths.sync (is_hard_edge r.lengths.sync x) x.integrates) fresh) in
    rw (counts, hard) refl
