-- Machines to which the bus is idle may each sample recessive bits by itself.
use Rattle.std.proofs.Common.{◌≡◌, ◌≢◌, ◌∙◌, inl, inr, refl, sym, ap, subst, ℕ, zero, suc, ◌<◌, ◌≤◌, ◌&&◌, not, cond, true, List, [], ◌∷◌, ◌++◌, length, replicate, Option, Some, None, arith, append-nil}
use Rattle.std.specs.Prelude.{slice_get}
use Rattle.std.proofs.lemmas.Bool.{cases_lt, eq-eqb, ne_eqb}
use Rattle.std.proofs.lemmas.List.{append_assoc}
use Rattle.std.proofs.lemmas.List.Sums.{fold-append}
use Rattle.std.proofs.lemmas.Option.{slice_get_past}
use Rattle.wl_level.specs.declared.Level.TheVariants.{Recessive}
use Rattle.wl_level.specs.Levels.{is_dominant}
use Rattle.wl_level.proofs.Callers.{snoc}
use Rattle.wl_confine.specs.declared.Mode.TheVariants.{Active}
use Rattle.wl_frame.specs.Grammar.{Content}
use Rattle.wl_machine.specs.Stretch.{Input, Stretch}
use Rattle.wl_machine.specs.Stretch.Sort.{Framing, Idle}
use Rattle.wl_machine.specs.Stretch.Input.{Sample}
use Rattle.wl_machine.specs.Judged.{drive_by, stretch_after, stretch_of}
use Rattle.wl_machine.specs.States.{sample_of, stretch_by}
use Rattle.wl_machine.proofs.Callers.{stretch_next}
use Rattle.wl_wire.specs.Wire.{Event, Handed, Wire, idle_wire, is_between_by, may_be_alone, next_wire, sampled, stretch_at, wire_after}
use Rattle.wl_wire.specs.Wire.Event.{Own}
use Rattle.wl_buses.specs.OneFrame.Machines.{MayBegin, MayBeginTogether, no_frame_sample}
use Rattle.wl_buses.specs.OneFrame.Waits.{HasWaited}
use Rattle.wl_buses.proofs.OneFrame.Machines.{frames_after}

-- so many samples of an idle bus, and one more
pub one_more : (n : ℕ) → replicate (suc n) no_frame_sample ≡ replicate n no_frame_sample ++ no_frame_sample ∷ []
one_more n = snoc [] no_frame_sample n

stays_idle : (s : Stretch) → s.sort ≡ Idle → (stretch_after s no_frame_sample).sort ≡ Idle
stays_idle s e = ap (λ q. (stretch_after (stretch_by q s.own) no_frame_sample).sort) e

pub idle_after : (old : List Input) (n : ℕ) → (stretch_of old).sort ≡ Idle → (stretch_of (old ++ replicate n no_frame_sample)).sort ≡ Idle
idle_after old zero e = ap (λ p. (stretch_of p).sort) (append-nil old) ∙ e
idle_after old (suc n) e =
    ap (λ p. (stretch_of (old ++ p)).sort) (one_more n)
    ∙ ap (λ p. (stretch_of p).sort) (sym (append_assoc old (replicate n no_frame_sample) (no_frame_sample ∷ [])))
    ∙ ap (λ s. s.sort) (stretch_next (old ++ replicate n no_frame_sample) no_frame_sample)
    ∙ stays_idle (stretch_of (old ++ replicate n no_frame_sample)) (idle_after old n e)

pub takes_head : (s : Stretch) (c : Content) → s.sort ≡ Idle → stretch_after s (Sample (sample_of Recessive (Some c) Active)) ≡ stretch_by (Framing (Some c)) []
takes_head s c e = ap (λ k. stretch_after (stretch_by k s.own) (Sample (sample_of Recessive (Some c) Active))) e

idle_alone : (s : Stretch) → s.sort ≡ Idle → may_be_alone s ≡ true
idle_alone s e = ap (λ q. is_between_by q s.own && not (is_dominant (drive_by q s.own))) e

-- with one more sample it may be to send
handed_one : (frames : ℕ → List Content) (k : ℕ) (s : Stretch) (h : Handed) (o : Option Content) → slice_get (frames k) h.which ≡ o → s.sort ≡ Idle
    → MayBegin frames k (stretch_after s (Sample (sampled Recessive (frames k) h)))
handed_one frames k s h None given e =
    inl (ap (λ o. (stretch_after s (Sample (sample_of Recessive o h.mode))).sort) given ∙ ap (λ q. (stretch_after (stretch_by q s.own) (Sample (sample_of Recessive None h.mode))).sort) e)
handed_one frames k s h (Some c) given e =
    inr (
      c,
      (h.which, given),
      ap (λ o. stretch_after s (Sample (sample_of Recessive o h.mode))) given ∙ ap (λ q. stretch_after (stretch_by q s.own) (Sample (sample_of Recessive (Some c) h.mode))) e,
    )

-- one machine samples a recessive bit by itself
pub own_at : (w : Wire) (k : ℕ) (h : Handed) → may_be_alone (stretch_at w k) ≡ true → (next_wire w (Own k h)).past k ≡ w.past k ++ Sample (sampled Recessive (w.frames k) h) ∷ []
own_at w k h may =
    ap (λ b. w.past k ++ cond (b && may_be_alone (stretch_at w k)) (Sample (sampled Recessive (w.frames k) h) ∷ []) []) (eq-eqb k k refl)
    ∙ ap (λ b. w.past k ++ cond b (Sample (sampled Recessive (w.frames k) h) ∷ []) []) may

pub own_other : (w : Wire) (k j : ℕ) (h : Handed) → j ≢ k → (next_wire w (Own k h)).past j ≡ w.past j
own_other w k j h apart =
    ap (λ b. w.past j ++ cond (b && may_be_alone (stretch_at w j)) (Sample (sampled Recessive (w.frames j) h) ∷ []) []) (ne_eqb j k apart) ∙ append-nil (w.past j)

module _ (frames : ℕ → List Content) where
  abbrev pub none_of : ℕ → Handed
  none_of k = record { which = length (frames k); mode = Active }

  pub none_is : (k : ℕ) → Sample (sampled Recessive (frames k) (none_of k)) ≡ no_frame_sample
  none_is k = ap (λ o. Sample (sample_of Recessive o Active)) (slice_get_past (frames k) (length (frames k)) (omega arith))

  idles : (k n : ℕ) → List Event
  idles k zero = []
  idles k (suc n) = idles k n ++ Own k (none_of k) ∷ []

  next_idle : (w : Wire) (k n : ℕ) → wire_after w (idles k (suc n)) ≡ next_wire (wire_after w (idles k n)) (Own k (none_of k))
  unfolding idles
  next_idle w k n = fold-append next_wire w (idles k n) (Own k (none_of k) ∷ [])

  idle_past : (w : Wire) (k n : ℕ) → w.frames ≡ frames → (stretch_at w k).sort ≡ Idle → (wire_after w (idles k n)).past k ≡ w.past k ++ replicate n no_frame_sample
  unfolding idles
  idle_past w k zero same idle = sym (append-nil (w.past k))
  idle_past w k (suc n) same idle =
      let before = idle_past w k n same idle in
      ap (λ v. v.past k) (next_idle w k n)
      ∙ own_at (wire_after w (idles k n)) k (none_of k) (ap (λ p. may_be_alone (stretch_of p)) before ∙ idle_alone (stretch_of (w.past k ++ replicate n no_frame_sample)) (idle_after (w.past k) n idle))
      ∙ ap (λ p. p ++ Sample (sampled Recessive ((wire_after w (idles k n)).frames k) (none_of k)) ∷ []) before
      ∙ ap (λ f. (w.past k ++ replicate n no_frame_sample) ++ Sample (sampled Recessive (f k) (none_of k)) ∷ []) (frames_after w (idles k n) ∙ same)
      ∙ ap (λ x. (w.past k ++ replicate n no_frame_sample) ++ x ∷ []) (none_is k)
      ∙ append_assoc (w.past k) (replicate n no_frame_sample) (no_frame_sample ∷ [])
      ∙ ap (λ p. w.past k ++ p) (sym (one_more n))

  idle_other : (w : Wire) (k j n : ℕ) → j ≢ k → (wire_after w (idles k n)).past j ≡ w.past j
  unfolding idles
  idle_other w k j zero apart = refl
  idle_other w k j (suc n) apart = ap (λ v. v.past j) (next_idle w k n) ∙ own_other (wire_after w (idles k n)) k j (none_of k) apart ∙ idle_other w k j n apart

  -- what one machine has sampled more
  record Adds (w : Wire) (k : ℕ) (past : List Input) : Type 0 where
    more : List Event
    mine : (wire_after w more).past k ≡ past
    others : (j : ℕ) → j ≢ k → (wire_after w more).past j ≡ w.past j

  adds : (w : Wire) (k : ℕ) (new : List Input) → w.frames ≡ frames → HasWaited (frames k) (w.past k) new → Adds w k new
  adds w k new same (inl e) = record { more = []; mine = sym e; others = λ j apart. refl }
  adds w k new same (inr (n, h, idle, e)) =
      (let before = idle_past w k n same idle in
      let split : wire_after w (idles k n ++ Own k h ∷ []) ≡ next_wire (wire_after w (idles k n)) (Own k h) = fold-append next_wire w (idles k n) (Own k h ∷ []) in
      record {
        more = idles k n ++ Own k h ∷ [];
        mine =
            ap (λ v. v.past k) split
            ∙ own_at (wire_after w (idles k n)) k h (ap (λ p. may_be_alone (stretch_of p)) before ∙ idle_alone (stretch_of (w.past k ++ replicate n no_frame_sample)) (idle_after (w.past k) n idle))
            ∙ ap (λ p. p ++ Sample (sampled Recessive ((wire_after w (idles k n)).frames k) h) ∷ []) before
            ∙ ap (λ f. (w.past k ++ replicate n no_frame_sample) ++ Sample (sampled Recessive (f k) h) ∷ []) (frames_after w (idles k n) ∙ same)
            ∙ append_assoc (w.past k) (replicate n no_frame_sample) (Sample (sampled Recessive (frames k) h) ∷ []) ∙ sym e;
        others = λ j apart. ap (λ v. v.past j) split ∙ own_other (wire_after w (idles k n)) k j h apart ∙ idle_other w k j n apart;
      })

  pub may_by : (k : ℕ) (old new : List Input) → MayBegin frames k (stretch_of old) → HasWaited (frames k) old new → MayBegin frames k (stretch_of new)
  may_by k old new may (inl e) = subst (λ p. MayBegin frames k (stretch_of p)) (sym e) may
  may_by k old new may (inr (n, h, idle, e)) =
      subst (MayBegin frames k)
      (sym (ap stretch_of (e ∙ sym (append_assoc old (replicate n no_frame_sample) (Sample (sampled Recessive (frames k) h) ∷ [])))
      ∙ stretch_next (old ++ replicate n no_frame_sample) (Sample (sampled Recessive (frames k) h))))
      (handed_one frames k (stretch_of (old ++ replicate n no_frame_sample)) h (slice_get (frames k) h.which) refl (idle_after old n idle))

  -- machines on one wire, each of which has waited
  module _ (count : ℕ) (old new : ℕ → List Input) (earlier : List Event) (reached : (k : ℕ) → k < count → old k ≡ (wire_after (idle_wire count frames) earlier).past k)
      (waited : (k : ℕ) → k < count → HasWaited (frames k) (old k) (new k)) where
    record UpTo (c : ℕ) : Type 0 where
      events : List Event
      mine : (k : ℕ) → k < c → new k ≡ (wire_after (idle_wire count frames) events).past k
      others : (j : ℕ) → c ≤ j → j < count → (wire_after (idle_wire count frames) events).past j ≡ old j

    up_to : (c : ℕ) → c ≤ count → UpTo c
    up_to zero few = record { events = earlier; mine = λ k less. absurd (omega arith); others = λ j more less. sym (reached j less) }
    up_to (suc c) few =
        (let u = up_to c (omega arith) in
        let w = wire_after (idle_wire count frames) u.events in
        let there = u.others c (omega arith) (omega arith) in
        let a = adds (wire_after (idle_wire count frames) u.events) c (new c) (frames_after (idle_wire count frames) u.events)
        (subst (λ p. HasWaited (frames c) p (new c)) (sym there) (waited c (omega arith))) in
        let split : wire_after (idle_wire count frames) (u.events ++ a.more) ≡ wire_after (wire_after (idle_wire count frames) u.events) a.more =
        fold-append next_wire (idle_wire count frames) u.events a.more in
        record {
          events = u.events ++ a.more;
          mine = λ k less. elim (cases_lt k c) [
            | inl before ↦ u.mine k before ∙ sym (ap (λ v. v.past k) split ∙ a.others k (λ e. omega (arith, e)))
            | inr last ↦
                (let e : c ≡ k = omega arith in
                subst (λ j. new j ≡ (wire_after (idle_wire count frames) (u.events ++ a.more)).past j) e (sym (ap (λ v. v.past c) split ∙ a.mine)))
          ];
          others = λ j more less. ap (λ v. v.past j) split ∙ a.others j (λ e. omega (arith, e)) ∙ u.others j (omega arith) less;
        })

    pub wait_on : (events : List Event) × ((k : ℕ) → k < count → new k ≡ (wire_after (idle_wire count frames) events).past k)
    wait_on = (let u = up_to count (omega arith) in (u.events, u.mine))

  pub wait_together : (count : ℕ) (old new : ℕ → List Input) → MayBeginTogether count frames old → ((k : ℕ) → k < count → HasWaited (frames k) (old k) (new k)) → MayBeginTogether count frames new
  wait_together count old new may waited =
      let on = wait_on count old new may.earlier may.reached waited in
      record { earlier = on.0; reached = on.1; may = λ k less. may_by k (old k) (new k) (may.may k less) (waited k less) }
