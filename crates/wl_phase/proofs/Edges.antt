-- A quantum that finds an edge which counts, and what it does to the way to the next sample.
use Rattle.std.proofs.Common.{◌≡◌, ◌≢◌, ◌+◌, ◌-◌, ◌<◌, ◌≤◌, ◌∙◌, inl, inr, Bool, true, false, cond, not, ◌&&◌, Some, None, refl, sym, ap, subst, arith, min}
use Rattle.std.proofs.lemmas.Int.{ints}
use Rattle.std.specs.Prelude.{ℤ, pos, ◌-ℤ◌, ◌==◌, nat_lt, nat_le}
use Rattle.std.proofs.lemmas.Bool.{ltb-true, leb-true, leb-false, eqb-true, eq-eqb, ne_eqb, le-leb, lt-leb, lt-ltb, le-ltb, and_parts, and_from, and_left, and_right, or_parts, cases_lt, cases_Bool, cases_eq}
use Rattle.wl_level.specs.declared.Level.{Level}
use Rattle.wl_segments.specs.declared.SyncRules.{SyncRules}
use Rattle.wl_segments.specs.declared.SyncRules.TheVariants.{After, Book}
use Rattle.wl_segments.specs.Lengths.{sample_at, bit_quanta, found_at}
use Rattle.wl_sync.specs.declared.Sync.TheVariants.{Hard, Error}
use Rattle.wl_sync.specs.declared.Beat.TheVariants.{Plain, Sample, Start}
use Rattle.wl_sync.specs.declared.Seen.{Seen}
use Rattle.wl_sync.specs.Edges.{is_hard_edge, edge_restarts, phase_error}
use Rattle.wl_sync.specs.Running.{Running}
use Rattle.wl_sync.specs.Steps.{end_of, running_edge, running_sync, running_restart, running_moved, running_over, running_first, running_on, running_placed, running_after, running_beat, running_answer, beat_between, samples}
use Rattle.wl_sync.specs.Skips.{moved_place, quanta_before_sample}
use Rattle.wl_phase.specs.Ways.{way_after}
use Rattle.wl_phase.proofs.Steps.{IsValid, Leaves, found_one, way_before, way_past, edge_is, none_is, restart_is, moved_is, late, early, way_moved, zero_is, none_leaves, hard_leaves, late_leaves, early_leaves, over_leaves, near_leaves, sync_fresh, going_soft, synced_not}

and_false : (a b : Bool) → a ≡ true → (a && b) ≡ false → b ≡ false
and_false true b e f = f
and_false false b e f = cc

module _ (r : Running) (x : Seen) (h : IsValid r) where
  abbrev moved : Running
  moved = running_moved r true false x.level

  -- a late edge
  pub late_is : r.quanta ≤ sample_at r.lengths → moved ≡ late r x
  late_is before =
      let a = h.lengths.lengths.prop_low in
      let b = h.lengths.lengths.ps1_low in
      let c = h.lengths.lengths.sjw_low in
      let apart : r.quanta ≢ sample_at r.lengths + min (r.quanta - 1) r.lengths.sjw = λ e. omega arith in
      rw (le-leb r.quanta (sample_at r.lengths) before, le-ltb (sample_at r.lengths) r.quanta before, found_one r.lengths h.lengths, ne_eqb r.quanta (sample_at r.lengths + min (r.quanta - 1) r.lengths.sjw) apart) refl

  pub late_over : r.quanta ≤ sample_at r.lengths → running_over Book r (late r x) false x.level ≡ late r x
  late_over before =
      let low = h.lengths.lengths.ps2_low in
      rw (ne_eqb r.quanta (end_of (late r x)) (λ e. omega arith)) refl

  -- an early one
  early_is : sample_at r.lengths < r.quanta → moved ≡ early r x
  early_is past =
      rw (lt-leb r.quanta (sample_at r.lengths) past, lt-ltb (sample_at r.lengths) r.quanta past, ne_eqb r.quanta (sample_at r.lengths + 0) (λ e. omega arith)) refl

  -- how far it is from the end of the bit
  far_is : running_sync r x ≡ true → running_restart r x ≡ false → sample_at r.lengths < r.quanta
      → r.lengths.sjw < 1 + bit_quanta r.lengths - r.quanta
  far_is e f past =
      let one = found_one r.lengths h.lengths in
      let g : (nat_lt (sample_at r.lengths) r.quanta && nat_le (found_at r.lengths + bit_quanta r.lengths - r.quanta) r.lengths.sjw) ≡ false =
      (or_parts (is_hard_edge r.lengths.sync x) (nat_lt (sample_at r.lengths) r.quanta && nat_le (found_at r.lengths + bit_quanta r.lengths - r.quanta) r.lengths.sjw)
      (and_false (running_sync r x) (edge_restarts r.lengths x r.quanta) e f)).1 in
      let far : r.lengths.sjw < found_at r.lengths + bit_quanta r.lengths - r.quanta =
      leb-false (found_at r.lengths + bit_quanta r.lengths - r.quanta) r.lengths.sjw
      (and_false (nat_lt (sample_at r.lengths) r.quanta) (nat_le (found_at r.lengths + bit_quanta r.lengths - r.quanta) r.lengths.sjw) (lt-ltb (sample_at r.lengths) r.quanta past) g) in
      omega arith

  near_is : running_restart r x ≡ true → is_hard_edge r.lengths.sync x ≡ false
      → (sample_at r.lengths < r.quanta) × (1 + bit_quanta r.lengths - r.quanta ≤ r.lengths.sjw)
  near_is e f =
      let one = found_one r.lengths h.lengths in
      let g = and_parts _ _ (rw f at (and_parts (running_sync r x) (edge_restarts r.lengths x r.quanta) e).1) in
      let past = ltb-true (sample_at r.lengths) r.quanta g.0 in
      let near = leb-true (found_at r.lengths + bit_quanta r.lengths - r.quanta) r.lengths.sjw g.1 in
      (past, omega arith)

  over_from : r.synced ≡ false → sample_at r.lengths < r.quanta → r.lengths.sjw < 1 + bit_quanta r.lengths - r.quanta
      → Leaves r x (way_moved r) (running_over Book r (early r x) false x.level)
  over_from e past far = elim (cases_eq r.quanta (end_of (early r x))) [
    | inl over ↦ rw (eq-eqb r.quanta (end_of (early r x)) over) (over_leaves r x h e past far over)
    | inr apart ↦ rw (ne_eqb r.quanta (end_of (early r x)) apart) (early_leaves r x h e past far apart)
  ]

  moved_leaves : running_sync r x ≡ true → running_restart r x ≡ false → Leaves r x (way_moved r) (running_after r x)
  moved_leaves e f =
      subst (Leaves r x (way_moved r)) (sym (moved_is r x h.lengths.book e f))
      (elim (cases_lt (sample_at r.lengths) r.quanta) as (λ o. Leaves r x (way_moved r) (running_over Book r moved false x.level)) [
        | inl past ↦ subst (λ m. Leaves r x (way_moved r) (running_over Book r m false x.level)) (sym (early_is past)) (over_from (sync_fresh r x e (going_soft r x e f)) past (far_is e f past))
        | inr before ↦
            subst (Leaves r x (way_moved r)) (sym (ap (λ m. running_over Book r m false x.level) (late_is before) ∙ late_over before))
            (late_leaves r x h (sync_fresh r x e (going_soft r x e f)) before)
      ])

  -- an edge that counts and doesn't synchronise hard
  soft_leaves : running_sync r x ≡ true → is_hard_edge r.lengths.sync x ≡ false → Leaves r x (way_moved r) (running_after r x)
  soft_leaves e g = elim (cases_Bool (running_restart r x)) [
    | inl f ↦ (let n = near_is f g in
        subst (Leaves r x (way_moved r)) (sym (restart_is r x h.lengths.book f)) (near_leaves r x h (sync_fresh r x e g) n.0 n.1))
    | inr f ↦ moved_leaves e f
  ]

  -- what the clock answers
  pub answer_none : running_sync r x ≡ false → running_answer r x ≡ None
  answer_none e = rw e refl

  pub answer_hard : running_sync r x ≡ true → is_hard_edge r.lengths.sync x ≡ true → running_answer r x ≡ Some Hard
  answer_hard e g = rw (e, g) refl

  pub answer_soft : running_sync r x ≡ true → is_hard_edge r.lengths.sync x ≡ false → running_answer r x ≡ Some (Error (phase_error r.lengths r.quanta))
  answer_soft e g = rw (e, g) refl

  -- whatever it finds
  pub step_leaves : Leaves r x (way_after r.lengths (quanta_before_sample r) (running_answer r x)) (running_after r x)
  step_leaves = elim (cases_Bool (running_sync r x)) [
    | inl e ↦ elim (cases_Bool (is_hard_edge r.lengths.sync x)) [
      | inl g ↦ subst (λ o. Leaves r x (way_after r.lengths (quanta_before_sample r) o) (running_after r x)) (sym (answer_hard e g)) (hard_leaves r x h e g)
      | inr g ↦ subst (λ o. Leaves r x (way_after r.lengths (quanta_before_sample r) o) (running_after r x)) (sym (answer_soft e g)) (soft_leaves e g)
    ]
    | inr e ↦ subst (λ o. Leaves r x (way_after r.lengths (quanta_before_sample r) o) (running_after r x)) (sym (answer_none e)) (none_leaves r x h e)
  ]

  -- the phase error
  error_past : sample_at r.lengths < r.quanta → r.synced ≡ false
      → phase_error r.lengths r.quanta ≡ pos (sample_at r.lengths - 1) -ℤ pos (quanta_before_sample r)
  error_past past f =
      let one = found_one r.lengths h.lengths in
      let none = h.fresh_longer f in
      let also = h.fresh_shorter f in
      let inside = h.inside in
      let way = way_past r (omega arith) in
      rw (lt-ltb (sample_at r.lengths) r.quanta past, one) (omega (arith, ints))

  error_before : r.quanta ≤ sample_at r.lengths → r.synced ≡ false
      → phase_error r.lengths r.quanta ≡ pos (sample_at r.lengths - 1) -ℤ pos (quanta_before_sample r)
  error_before before f =
      let one = found_one r.lengths h.lengths in
      let none = h.fresh_longer f in
      let begun = h.begun in
      let way = way_before r (omega arith) in
      rw (le-ltb (sample_at r.lengths) r.quanta before, one) (omega (arith, ints))

  pub error_is : r.synced ≡ false → phase_error r.lengths r.quanta ≡ pos (sample_at r.lengths - 1) -ℤ pos (quanta_before_sample r)
  error_is f = elim (cases_lt (sample_at r.lengths) r.quanta) [
    | inl past ↦ error_past past f
    | inr before ↦ error_before before f
  ]

  pub answer_error : (error : ℤ) → running_answer r x ≡ Some (Error error) → error ≡ pos (sample_at r.lengths - 1) -ℤ pos (quanta_before_sample r)
  answer_error error q = elim (cases_Bool (running_sync r x)) [
    | inl e ↦ elim (cases_Bool (is_hard_edge r.lengths.sync x)) [
      | inl g ↦ (let a = answer_hard e g in cc)
      | inr g ↦ (let a = answer_soft e g in let is = error_is (sync_fresh r x e g) in cc)
    ]
    | inr e ↦ (let a = answer_none e in cc)
  ]

  pub answer_not : running_answer r x ≡ None → running_sync r x ≡ false
  answer_not q = elim (cases_Bool (running_sync r x)) [
    | inl e ↦ elim (cases_Bool (is_hard_edge r.lengths.sync x)) [
      | inl g ↦ (let a = answer_hard e g in cc)
      | inr g ↦ (let a = answer_soft e g in cc)
    ]
    | inr e ↦ e
  ]

-- a node that drives dominant doesn't synchronise hard
pub soft_driving : (s : SyncRules) (x : Seen) → s ≡ Book → x.driving ≡ true → is_hard_edge s x ≡ false
soft_driving After x e f = cc
soft_driving Book x e f = and_right x.awaits (not x.driving) (ap not f)

module _ (r : Running) (x : Seen) (h : IsValid r) where
  pub driving_late : x.driving ≡ true → 1 < r.quanta → r.quanta ≤ sample_at r.lengths → running_sync r x ≡ false
  driving_late e low high =
      let one = found_one r.lengths h.lengths in
      let found : nat_lt (found_at r.lengths) r.quanta ≡ true = lt-ltb (found_at r.lengths) r.quanta (omega arith) in
      let late : (((nat_lt (found_at r.lengths) r.quanta && nat_le r.quanta (sample_at r.lengths)) && x.driving) && not (is_hard_edge r.lengths.sync x)) ≡ true =
      and_from _ _ (and_from _ _ (and_from _ _ found (le-leb r.quanta (sample_at r.lengths) high)) e) (ap not (soft_driving r.lengths.sync x h.lengths.book e)) in
      and_left _ _ (and_right _ _ (ap not late))

  -- a late edge doesn't count at a node that drives dominant
  pub driving_not : x.driving ≡ true → quanta_before_sample r + 1 < sample_at r.lengths → running_sync r x ≡ false
  driving_not e f = elim (cases_Bool r.synced) [
    | inl synced ↦ synced_not r x synced (soft_driving r.lengths.sync x h.lengths.book e)
    | inr fresh ↦ elim (cases_lt (moved_place r) r.quanta) [
      | inl past ↦ (let way = way_past r past in absurd (omega arith))
      | inr before ↦ (let way = way_before r before in let none = h.fresh_longer fresh in driving_late e (omega arith) (omega arith))
    ]
  ]

-- what a beat says of the quantum that it is
sample_here : (b s : Bool) (level other : Level) → cond b Start (cond s (Sample level) Plain) ≡ Sample other → (b ≡ false) × (s ≡ true)
sample_here true s level other e = cc
sample_here false true level other e = (refl, refl)
sample_here false false level other e = cc

module _ (r : Running) (x : Seen) (h : IsValid r) where
  pub beat_is : running_beat (running_edge r) x ≡ beat_between (running_restart r x) r (running_after r x) x.level
  beat_is =
      ap (λ s. running_beat s x) (edge_is r x h.lengths.book)
      ∙ ap (λ s. beat_between (running_restart r x) r (running_placed s x) x.level) (sym (edge_is r x h.lengths.book))

  -- a sample's quantum
  on_sampled : r.quanta ≡ moved_place r → beat_between false r (running_on r x.level) x.level ≡ Sample x.level
  on_sampled e =
      let begun = h.begun in
      rw (ne_eqb (r.quanta + 1) 1 (λ f. omega arith), eq-eqb r.quanta (moved_place r) e) refl

  pub sample_is : running_sync r x ≡ false → quanta_before_sample r ≡ 0 → running_beat (running_edge r) x ≡ Sample x.level
  sample_is f e =
      let place = zero_is r h e in
      let low = h.lengths.lengths.ps2_low in
      let small = h.shorter in
      let after : running_after r x ≡ running_on r x.level =
      none_is r x h.lengths.book f ∙ ap (λ b. cond b (running_first r x.level) (running_on r x.level)) (ne_eqb r.quanta (end_of r) (λ g. omega arith)) in
      beat_is ∙ ap (λ b. beat_between (b && edge_restarts r.lengths x r.quanta) r (running_after r x) x.level) f
      ∙ ap (λ s. beat_between false r s x.level) after ∙ on_sampled place

  -- no other is one
  first_not : (level : Level) → beat_between false r (running_first r x.level) x.level ≡ Sample level → quanta_before_sample r ≡ 0
  first_not level e = cc

  on_only : (level : Level) → beat_between false r (running_on r x.level) x.level ≡ Sample level → quanta_before_sample r ≡ 0
  on_only level e =
      let s = sample_here (r.quanta + 1 == 1) (samples r r.longer) x.level level e in
      let at = eqb-true r.quanta (moved_place r) s.1 in
      let way = way_before r (omega arith) in
      omega arith

  none_only : (level : Level) → running_sync r x ≡ false → running_beat (running_edge r) x ≡ Sample level → quanta_before_sample r ≡ 0
  none_only level f e =
      let b : beat_between false r (running_after r x) x.level ≡ Sample level =
      sym (beat_is ∙ ap (λ b. beat_between (b && edge_restarts r.lengths x r.quanta) r (running_after r x) x.level) f) ∙ e in
      let c : beat_between false r (cond (r.quanta == end_of r) (running_first r x.level) (running_on r x.level)) x.level ≡ Sample level =
      ap (λ s. beat_between false r s x.level) (sym (none_is r x h.lengths.book f)) ∙ b in
      elim (cases_Bool (r.quanta == end_of r)) [
        | inl over ↦ first_not level (ap (λ b. beat_between false r (cond b (running_first r x.level) (running_on r x.level)) x.level) (sym over) ∙ c)
        | inr on ↦ on_only level (ap (λ b. beat_between false r (cond b (running_first r x.level) (running_on r x.level)) x.level) (sym on) ∙ c)
      ]

  late_not : (level : Level) → r.quanta ≤ sample_at r.lengths → beat_between false r (late r x) x.level ≡ Sample level → r.quanta ≡ 0
  late_not level before e =
      let s = sample_here (r.quanta + 1 == 1) (samples r (late r x).longer) x.level level e in
      let at = eqb-true r.quanta (sample_at r.lengths + min (r.quanta - 1) r.lengths.sjw) s.1 in
      let a = h.lengths.lengths.prop_low in
      let b = h.lengths.lengths.ps1_low in
      let c = h.lengths.lengths.sjw_low in
      omega arith

  early_not : (level : Level) → sample_at r.lengths < r.quanta → beat_between false r (early r x) x.level ≡ Sample level → r.quanta ≡ 0
  early_not level past e =
      let s = sample_here (r.quanta + 1 == 1) (samples r 0) x.level level e in
      let at = eqb-true r.quanta (sample_at r.lengths + 0) s.1 in
      omega arith

  over_not : (level : Level) → sample_at r.lengths < r.quanta → beat_between false r (running_over Book r (early r x) false x.level) x.level ≡ Sample level → r.quanta ≡ 0
  over_not level past e = elim (cases_Bool (r.quanta == end_of (early r x))) [
    | inl over ↦ (let f = rw over at e in cc)
    | inr on ↦ early_not level past (rw on at e)
  ]

  moved_not : (level : Level) → running_sync r x ≡ true → running_restart r x ≡ false → running_beat (running_edge r) x ≡ Sample level → r.quanta ≡ 0
  moved_not level f g e =
      let b : beat_between false r (running_over Book r (running_moved r true false x.level) false x.level) x.level ≡ Sample level =
      sym (beat_is ∙ ap (λ b. beat_between b r (running_after r x) x.level) g ∙ ap (λ s. beat_between false r s x.level) (moved_is r x h.lengths.book f g)) ∙ e in
      elim (cases_lt (sample_at r.lengths) r.quanta) [
        | inl past ↦ over_not level past (subst (λ m. beat_between false r (running_over Book r m false x.level) x.level ≡ Sample level) (early_is r x h past) b)
        | inr before ↦ late_not level before (subst (λ m. beat_between false r m x.level ≡ Sample level) (ap (λ m. running_over Book r m false x.level) (late_is r x h before) ∙ late_over r x h before) b)
      ]

  restart_not : (level : Level) → running_restart r x ≡ true → running_beat (running_edge r) x ≡ Sample level → r.quanta ≡ 0
  restart_not level g e =
      let b : beat_between true r (running_after r x) x.level ≡ Sample level = sym (beat_is ∙ ap (λ b. beat_between b r (running_after r x) x.level) g) ∙ e in
      cc

  pub only_is : (level : Level) → running_beat (running_edge r) x ≡ Sample level → (running_answer r x ≡ None) × (quanta_before_sample r ≡ 0)
  only_is level e = elim (cases_Bool (running_sync r x)) [
    | inl f ↦ (let begun = h.begun in let zero : r.quanta ≡ 0 = elim (cases_Bool (running_restart r x)) [
      | inl g ↦ restart_not level g e
      | inr g ↦ moved_not level f g e
    ] in absurd (omega arith))
    | inr f ↦ (answer_none r x h f, none_only level f e)
  ]
