-- The machines of a wire that take part, as a wire of their own.
use Rattle.std.proofs.Common.{◌≡◌, ◌∙◌, ℕ, zero, suc, ◌<◌, ◌≤◌, List, [], ◌∷◌, ◌++◌, Bool, true, false, not, cond, Some, refl, sym, ap, subst, arith, inl, inr}
use Rattle.std.specs.Prelude.{◌==◌, slice_get}
use Rattle.std.proofs.lemmas.Bool.{both_ways, eqb-false, eqb-true, cases_lt, ne_eqb, eq-eqb, cond_both, not-true}
use Rattle.wl_level.specs.declared.Level.{Level}
use Rattle.wl_level.specs.declared.Level.TheVariants.{Dominant, Recessive}
use Rattle.wl_machine.specs.Stretch.{Input}
use Rattle.wl_machine.specs.Stretch.Input.{Sample}
use Rattle.wl_machine.specs.Judged.{drive_of, stretch_of, head_of}
use Rattle.wl_wire.specs.Wire.{Wire, Handed, Bit, stretch_at, bus, sampled, next_wire, is_between}
use Rattle.wl_wire.specs.Heads.{OwnHeads}
use Rattle.wl_wire.specs.InStep.{AreSoundFrames, AreBetween, AreInIntermission, AreInFrame}
use Rattle.wl_heal.specs.Joining.{is_apart, is_apart_by, AreThosePresent}
use Rattle.wl_heal.proofs.Apart.{apart_test, apart_drive}
use Rattle.wl_heal.proofs.Inside.{inside_next}
use Rattle.wl_heal.proofs.Silent.{two_levels}
use Rattle.wl_heal.proofs.Wires.{Drives, bus_dominant, bus_recessive, bit_next, level_cases}

abbrev pub moved : (u : Wire) → (ℕ → List Input) → Wire
moved u past = record { count = u.count; frames = u.frames; past = past }

-- machines with the same stretches are in the same step
module _ (u : Wire) (past : ℕ → List Input) (same : (j : ℕ) → j < u.count → stretch_of (past j) ≡ stretch_at u j) where
  pub between_moves : AreBetween u → AreBetween (moved u past)
  between_moves b j lt = ap is_between (same j lt) ∙ b j lt

  pub intermission_moves : (own : List Level) → AreInIntermission u own → AreInIntermission (moved u past) own
  intermission_moves own i = record { each = λ j lt. ((i.each j lt).0, same j lt ∙ (i.each j lt).1); short = i.short }

  pub frame_moves : (own : List Level) → AreInFrame u own → AreInFrame (moved u past) own
  frame_moves own f = record {
    begun = f.begun;
    each = λ j lt. ((f.each j lt).0, same j lt ∙ (f.each j lt).1);
    sender = (f.sender.0, f.sender.1, f.sender.2, record { framing = same f.sender.0 f.sender.1 ∙ f.sender.3.framing; role = f.sender.3.role });
    found = λ j head lt s. f.found j head lt (record { framing = sym (same j lt) ∙ s.framing; role = s.role });
    tail = f.tail;
  }

module _ (w u : Wire) (m : AreThosePresent w u) where
  pub stretch_there : (j : ℕ) → stretch_at u j ≡ stretch_at w (m.place j)
  stretch_there j = ap stretch_of (m.past j)

  -- they alone drive the bus
  silent_whole : bus u ≡ Recessive → bus w ≡ Dominant → ⊥
  silent_whole r d = by (Drives.machine (bus_dominant w d)) (Drives.inside (bus_dominant w d)) (Drives.dominant (bus_dominant w d)) (is_apart (stretch_at w (Drives.machine (bus_dominant w d)))) refl
    where
      by : (k : ℕ) → k < w.count → drive_of (stretch_at w k) ≡ Dominant → (b : Bool) → is_apart (stretch_at w k) ≡ b → ⊥
      by k lt dominant true e = two_levels (drive_of (stretch_at w k)) dominant (apart_drive (stretch_at w k).sort (stretch_at w k).own e)
      by k lt dominant false e =
          let there = m.all k lt e in
          two_levels (drive_of (stretch_at w k)) dominant (sym (ap drive_of (stretch_there there.0 ∙ ap (stretch_at w) there.2)) ∙ bus_recessive u r there.0 there.1)

  driven_whole : bus u ≡ Dominant → bus w ≡ Recessive → ⊥
  driven_whole d r =
      let driver : Drives u = bus_dominant u d in
      two_levels (drive_of (stretch_at u driver.machine)) driver.dominant
      (ap drive_of (stretch_there driver.machine) ∙ bus_recessive w r (m.place driver.machine) (m.inside driver.machine driver.inside).0)

  pub bus_same : bus u ≡ bus w
  bus_same = elim (level_cases (bus u)) [
    | inl d ↦ elim (level_cases (bus w)) [ inl e ↦ d ∙ sym e | inr r ↦ absurd (driven_whole d r) ]
    | inr r ↦ elim (level_cases (bus w)) [ inl e ↦ absurd (silent_whole r e) | inr e ↦ r ∙ sym e ]
  ]

  -- their frames and what they send
  pub sound_there : (most : ℕ) → w.count ≤ most → 2 ≤ u.count → AreSoundFrames most w.frames → AreSoundFrames u.count u.frames
  sound_there most few two sound = record {
    two = two;
    content = λ j c lt has. sound.content (m.place j) c (below j lt) (subst (λ fs. (n : ℕ) × (slice_get fs n ≡ Some c)) (m.frames j) has);
    apart = λ j k a b jt kt differ has_a has_b.
        sound.apart (m.place j) (m.place k) a b (below j jt) (below k kt) (λ e. differ (m.distinct j k jt kt e))
        (subst (λ fs. (n : ℕ) × (slice_get fs n ≡ Some a)) (m.frames j) has_a) (subst (λ fs. (n : ℕ) × (slice_get fs n ≡ Some b)) (m.frames k) has_b);
  }
    where
      below : (j : ℕ) → j < u.count → m.place j < most
      below j lt = let inside = (m.inside j lt).0 in omega arith

  pub heads_there : OwnHeads w → OwnHeads u
  heads_there heads j c e =
      subst (λ fs. (n : ℕ) × (slice_get fs n ≡ Some c)) (sym (m.frames j)) (heads (m.place j) c (ap (λ s. head_of s.sort) (sym (stretch_there j)) ∙ e))

  -- a bit of the bus, after which the same take part
  module _ (handed : ℕ → Handed) where
    abbrev pub handed_there : ℕ → Handed
    handed_there j = handed (m.place j)

    next_past : (j : ℕ) → (next_wire u (Bit handed_there)).past j ≡ (next_wire w (Bit handed)).past (m.place j)
    next_past j =
        ap (λ p. p ++ Sample (sampled (bus u) (u.frames j) (handed (m.place j))) ∷ []) (m.past j)
        ∙ ap (λ l. w.past (m.place j) ++ Sample (sampled l (u.frames j) (handed (m.place j))) ∷ []) bus_same
        ∙ ap (λ f. w.past (m.place j) ++ Sample (sampled (bus w) f (handed (m.place j))) ∷ []) (m.frames j)

    pub present_next : ((k : ℕ) → k < w.count → is_apart (stretch_at w k) ≡ true → is_apart (stretch_at (next_wire w (Bit handed)) k) ≡ true)
        → AreThosePresent (next_wire w (Bit handed)) (next_wire u (Bit handed_there))
    present_next still = record {
      place = m.place;
      inside = λ j lt. ((m.inside j lt).0, ap is_apart (bit_next w handed (m.place j)) ∙ inside_next is_apart_by apart_test (stretch_at w (m.place j)) (sampled (bus w) (w.frames (m.place j)) (handed (m.place j))) (m.inside j lt).1);
      all = λ k lt e. m.all k lt (was k lt e (is_apart (stretch_at w k)) refl);
      distinct = m.distinct;
      past = next_past;
      frames = m.frames;
    }
      where
        was : (k : ℕ) → k < w.count → is_apart (stretch_at (next_wire w (Bit handed)) k) ≡ false → (b : Bool) → is_apart (stretch_at w k) ≡ b → is_apart (stretch_at w k) ≡ false
        was k lt e true f = absurd (both_ways (is_apart (stretch_at (next_wire w (Bit handed)) k)) e (still k lt f))
        was k lt e false f = f

-- those that pass a test, by number
pub record Those : Type 0 where
  pub count : ℕ
  pub place : ℕ → ℕ

abbrev one_more : ℕ → Those → Those
one_more n t = record { count = suc t.count; place = λ j. cond (j == t.count) n (t.place j) }

abbrev pub those : (ℕ → Bool) → ℕ → Those
those test zero = record { count = 0; place = λ j. 0 }
those test (suc n) = cond (test n) (one_more n (those test n)) (those test n)

pub record AreThose (test : ℕ → Bool) (n : ℕ) (t : Those) : Type 0 where
  inside : (j : ℕ) → j < t.count → (t.place j < n) × (test (t.place j) ≡ true)
  all : (k : ℕ) → k < n → test k ≡ true → (j : ℕ) × (j < t.count) × (t.place j ≡ k)
  distinct : (i j : ℕ) → i < t.count → j < t.count → t.place i ≡ t.place j → i ≡ j

module _ (test : ℕ → Bool) where
  one_there : (n : ℕ) (t : Those) → test n ≡ true → AreThose test n t → AreThose test (suc n) (one_more n t)
  one_there n t here old = record {
    inside = λ j lt. inside_by j lt (j == t.count) refl;
    all = λ k lt e. elim (cases_lt k n) [
      | inl below ↦ (let there = old.all k below e in
          let jt = there.1 in
          (there.0, omega arith, ap (λ b. cond b n (t.place there.0)) (ne_eqb there.0 t.count (λ f. omega arith)) ∙ there.2))
      | inr above ↦ (t.count, omega arith, (let same : n ≡ k = omega arith in ap (λ b. cond b n (t.place t.count)) (eq-eqb t.count t.count refl) ∙ same))
    ];
    distinct = λ i j it jt e. distinct_by i j it jt e (i == t.count) (j == t.count) refl refl;
  }
    where
      inside_by : (j : ℕ) → j < suc t.count → (b : Bool) → (j == t.count) ≡ b → (cond b n (t.place j) < suc n) × (test (cond b n (t.place j)) ≡ true)
      inside_by j lt true e = (omega arith, here)
      inside_by j lt false e = let apart = eqb-false j t.count e in let is = old.inside j (omega arith) in let below = is.0 in (omega arith, is.1)

      distinct_by : (i j : ℕ) → i < suc t.count → j < suc t.count → cond (i == t.count) n (t.place i) ≡ cond (j == t.count) n (t.place j)
          → (a b : Bool) → (i == t.count) ≡ a → (j == t.count) ≡ b → i ≡ j
      distinct_by i j it jt e true true f g = eqb-true i t.count f ∙ sym (eqb-true j t.count g)
      distinct_by i j it jt e true false f g =
          let apart = eqb-false j t.count g in
          let below = (old.inside j (omega arith)).0 in
          let is : n ≡ t.place j = ap (λ b. cond b n (t.place i)) (sym f) ∙ e ∙ ap (λ b. cond b n (t.place j)) g in
          absurd (omega arith)
      distinct_by i j it jt e false true f g =
          let apart = eqb-false i t.count f in
          let below = (old.inside i (omega arith)).0 in
          let is : t.place i ≡ n = ap (λ b. cond b n (t.place i)) (sym f) ∙ e ∙ ap (λ b. cond b n (t.place j)) g in
          absurd (omega arith)
      distinct_by i j it jt e false false f g =
          let apart_i = eqb-false i t.count f in
          let apart_j = eqb-false j t.count g in
          old.distinct i j (omega arith) (omega arith) (ap (λ b. cond b n (t.place i)) (sym f) ∙ e ∙ ap (λ b. cond b n (t.place j)) g)

  none_there : (n : ℕ) (t : Those) → test n ≡ false → AreThose test n t → AreThose test (suc n) t
  none_there n t here old = record {
    inside = λ j lt. (let is = (old.inside j lt).0 in omega arith, (old.inside j lt).1);
    all = λ k lt e. elim (cases_lt k n) [
      | inl below ↦ old.all k below e
      | inr above ↦ (let same : k ≡ n = omega arith in absurd (both_ways (test n) here (ap test (sym same) ∙ e)))
    ];
    distinct = old.distinct;
  }

  are_those : (n : ℕ) → AreThose test n (those test n)
  are_those zero = record { inside = λ j lt. absurd (omega (arith, lt)); all = λ k lt e. absurd (omega (arith, lt)); distinct = λ i j it jt e. absurd (omega (arith, it)) }
  are_those (suc n) = cond_both (test n) (one_more n (those test n)) (those test n) (AreThose test (suc n)) (λ e. one_there n (those test n) e (are_those n)) (λ e. none_there n (those test n) e (are_those n))

-- those that take part
module _ (w : Wire) where
  abbrev pub takes_part : ℕ → Bool
  takes_part k = not (is_apart (stretch_at w k))

  abbrev pub all_present : Wire
  all_present = record { count = (those takes_part w.count).count; frames = λ j. w.frames ((those takes_part w.count).place j); past = λ j. w.past ((those takes_part w.count).place j) }

  pub are_present : AreThosePresent w all_present
  are_present = record {
    place = (those takes_part w.count).place;
    inside = λ j lt. (((are_those takes_part w.count).inside j lt).0, not-true (is_apart (stretch_at w ((those takes_part w.count).place j))) ((are_those takes_part w.count).inside j lt).1);
    all = λ k lt e. (are_those takes_part w.count).all k lt (ap not e);
    distinct = (are_those takes_part w.count).distinct;
    past = λ j. refl;
    frames = λ j. refl;
  }

-- two that take part
pub two_present : (w u : Wire) → AreThosePresent w u → (i k : ℕ) → i < w.count → k < w.count → (i ≡ k → ⊥) → is_apart (stretch_at w i) ≡ false → is_apart (stretch_at w k) ≡ false → 2 ≤ u.count
two_present w u m i k it kt apart e f =
    let a = m.all i it e in
    let b = m.all k kt f in
    let at = a.1 in
    let bt = b.1 in
    let differ : a.0 ≡ b.0 → ⊥ = λ g. apart (sym a.2 ∙ ap m.place g ∙ b.2) in
    omega arith
