-- The next frame as one of machines that begin it together, or join it in the third bit of their intermission.
use Rattle.std.proofs.Common.{◌≡◌, ◌∙◌, inl, inr, refl, sym, ap, subst, cond, ℕ, ◌<◌, ◌||◌, Bool, true, false, List, [], ◌∷◌, ◌++◌, Option, Some, None, is_some, arith}
use Rattle.std.specs.Prelude.{slice_get}
use Rattle.std.proofs.lemmas.Bool.{both_ways, cases_Bool, cases_lt, le-ltb, lt-ltb, or_cases}
use Rattle.wl_level.specs.declared.Level.TheVariants.{Dominant, Recessive}
use Rattle.wl_level.specs.Levels.{is_dominant}
use Rattle.wl_frame.specs.Grammar.{Content}
use Rattle.wl_machine.specs.Stretch.{Input, Stretch}
use Rattle.wl_machine.specs.Stretch.Input.{Sample}
use Rattle.wl_machine.specs.BetweenFrames.{begun_head}
use Rattle.wl_machine.specs.Judged.{drive_of, stretch_of}
use Rattle.wl_wire.specs.Wire.{Event, Handed, idle_wire, sampled, wire_after}
use Rattle.wl_buses.specs.OneFrame.Stations.{AreOnALine, Stations}
use Rattle.wl_buses.specs.OneFrame.Expected.{IsOutset, Outset}
use Rattle.wl_buses.specs.OneFrame.Machines.{HasTwoBits, MayBegin, MayBeginOrJoin, joins_by}
use Rattle.wl_buses.specs.OneFrame.Waits.{HasWaited}
use Rattle.wl_buses.proofs.OneFrame.Joining.{joins_none}
use Rattle.wl_buses.proofs.OneFrame.Machines.{head_given, some_of}
use Rattle.wl_buses.proofs.OneFrame.Waited.{may_by, wait_on}
use Rattle.wl_buses.specs.FrameEnd.Third.{MayBeginFromThird}
use Rattle.wl_buses.specs.NextFrames.NextStarts.{AreResting, Resting, begins_next, handed_next, last_next, outset_next, past_next}
use Rattle.wl_buses.specs.ThirdBit.ThirdStarts.{AreFreeFromThird, MayJoin, handed_third, joins_next, outset_third, past_from_third}
use Rattle.wl_buses.proofs.FirstFrame.Reaching as reaching
use Rattle.wl_buses.proofs.NextFrames.Outset as next
use Rattle.wl_buses.proofs.ThirdBit.Lasting.{begins_none, silence_of, silent_of}

two_drive : (x : Stretch) → HasTwoBits x → is_dominant (drive_of x) ≡ false
two_drive x two = ap (λ y. is_dominant (drive_of y)) two.1

-- a machine in its third bit joins with the frame that it is handed
two_joins : (frames : List Content) (x : Stretch) (h : Handed) → HasTwoBits x → joins_by x.sort (sampled Dominant frames h) ≡ true → (c : Content) × (slice_get frames h.which ≡ Some c)
two_joins frames x h two e =
    let c = some_of (begun_head two.0 h.mode (slice_get frames h.which)) (sym (ap (λ y. joins_by y.sort (sampled Dominant frames h)) two.1) ∙ e) in
    (c.0, head_given two.0 h.mode (slice_get frames h.which) c.0 c.1)

module _ (wait : next.MayWait) (w : Resting) (third : ℕ → Bool) (before : ℕ → List Input) (given : ℕ → Handed) (line : AreOnALine w.stations) (are : AreResting w)
    (from : AreFreeFromThird w third before) (may_send : MayJoin w third given) where
  abbrev s : Stations
  s = w.stations

  abbrev o : Outset
  o = outset_third w third before given

  abbrev past : ℕ → List Input
  past k = past_from_third w third before k

  abbrev handed : ℕ → Handed
  handed k = next.first_handed w.frames k (w.which k) (begins_next w k) (last_next w k)

  -- what each has sampled with the third bit of the intermission, or with the second one
  abbrev with_one : ℕ → List Input
  with_one k = cond (third k) (before k) (before k ++ Sample (sampled Recessive (w.frames k) (handed k)) ∷ [])

  together : MayBeginFromThird s.count w.frames third with_one
  together = from.together handed (λ k lt. next.first_active w.frames k (w.which k) (begins_next w k) (last_next w k))

  past_there : (k : ℕ) (b : Bool) → third k ≡ b → past k ≡ cond b (before k) (past_next w before k)
  past_there k b e = ap (λ c. cond c (before k) (past_next w before k)) e

  one_there : (k : ℕ) (b : Bool) → third k ≡ b → with_one k ≡ cond b (before k) (before k ++ Sample (sampled Recessive (w.frames k) (handed k)) ∷ [])
  one_there k b e = ap (λ c. cond c (before k) (before k ++ Sample (sampled Recessive (w.frames k) (handed k)) ∷ [])) e

  waited_by : (k : ℕ) → k < s.count → (b : Bool) → third k ≡ b → HasWaited (w.frames k) (with_one k) (past k)
  waited_by k lt true e = inl (past_there k true e ∙ sym (one_there k true e))
  waited_by k lt false e =
      subst (λ p. HasWaited (w.frames k) p (past k)) (sym (one_there k false e))
      (subst (HasWaited (w.frames k) (before k ++ Sample (sampled Recessive (w.frames k) (handed k)) ∷ [])) (sym (past_there k false e))
      (next.waited w.frames k (before k) (λ h active. from.free.free k h lt active) (w.which k) (begins_next w k) (last_next w k)))

  waits : (k : ℕ) → k < s.count → HasWaited (w.frames k) (with_one k) (past k)
  waits k lt = waited_by k lt (third k) refl

  on_wire : (events : List Event) × ((k : ℕ) → k < s.count → past k ≡ (wire_after (idle_wire s.count w.frames) events).past k)
  on_wire = wait_on w.frames s.count with_one past together.earlier together.reached waits

  past_inside : (k : ℕ) → k < s.count → o.past k ≡ past k
  past_inside k lt = ap (λ c. cond c (past k) []) (lt-ltb k s.count lt)

  -- who is in its third bit has two bits of the intermission, and each other one may begin a frame
  two_there : (k : ℕ) → third k ≡ true → HasTwoBits (stretch_of (past k))
  two_there k e =
      let lt = from.inside k e in
      subst (λ p. HasTwoBits (stretch_of p)) (one_there k true e ∙ sym (past_there k true e)) (together.two k lt e)

  may_there : (k : ℕ) → k < s.count → third k ≡ false → MayBegin w.frames k (stretch_of (past k))
  may_there k lt e = may_by w.frames k (with_one k) (past k) (together.may k lt e) (waits k lt)

  may_either : (k : ℕ) → k < s.count → MayBeginOrJoin w.frames k (stretch_of (past k))
  may_either k lt = elim (cases_Bool (third k)) [
    | inl there ↦ inr (two_there k there)
    | inr other ↦ inl (may_there k lt other)
  ]

  -- whoever begins the frame drives its start
  next_past : (k : ℕ) → third k ≡ false → o.past k ≡ (outset_next w before).past k
  next_past k e = elim (cases_lt k s.count) [
    | inl lt ↦ past_inside k lt ∙ past_there k false e ∙ sym (next.past_inside wait w before line are from.free k lt)
    | inr more ↦ ap (λ c. cond c (past k) []) (le-ltb k s.count more) ∙ sym (next.past_outside wait w before line are from.free k more)
  ]

  drives_third : (k : ℕ) → begins_next w k ≡ is_dominant (drive_of (stretch_of ((outset_third w third before given).past k)))
  drives_third k = elim (cases_Bool (third k)) [
    | inl there ↦
        (let lt = from.inside k there in
        begins_none w third before given line are k lt (from.decides k there) (from.reached k there)
        ∙ sym (ap (λ p. is_dominant (drive_of (stretch_of p))) (past_inside k lt) ∙ two_drive (stretch_of (past k)) (two_there k there)))
    | inr other ↦ next.drives_as wait w before line are from.free k ∙ ap (λ p. is_dominant (drive_of (stretch_of p))) (sym (next_past k other))
  ]

  -- who joins may send
  may_join : (k : ℕ) → k < s.count → joins_next w third before given k ≡ true → s.may_send k ≡ true
  may_join k lt e = elim (cases_Bool (third k)) [
    | inl there ↦
        (let c = two_joins (w.frames k) (stretch_of (past k)) (handed_third w third given k) (two_there k there) e in
        may_send k c.0 there (ap (λ b. slice_get (w.frames k) (cond b (given k) (handed_next (w.which k))).which) (sym there) ∙ c.1))
    | inr other ↦
        absurd (both_ways (joins_next w third before given k)
        (joins_none w.frames k (stretch_of (past k)) (sampled Dominant (w.frames k) (handed_third w third given k)) (may_there k lt other)) e)
  ]

  pub third_is_outset : IsOutset s o
  third_is_outset = record {
    frames = are.frames;
    earlier = on_wire.0;
    reached = λ k lt. past_inside k lt ∙ on_wire.1 k lt;
    may = λ k lt. subst (λ p. MayBeginOrJoin w.frames k (stretch_of p)) (sym (past_inside k lt)) (may_either k lt);
    joins = λ k lt. ap (λ p. joins_by (stretch_of p).sort (sampled Dominant (w.frames k) (handed_third w third given k))) (sym (past_inside k lt));
    drives = drives_third;
    begin = reaching.begin_first (silence_of w third before given) line (silent_of w third before given line are);
    allowed = λ k lt e. elim (or_cases (begins_next w k) (joins_next w third before given k) e) [
      | inl own ↦ are.may k (reaching.begins_has (silence_of w third before given) line (silent_of w third before given line are) k own)
      | inr other ↦ may_join k lt other
    ];
    some = reaching.some_first (silence_of w third before given) line (silent_of w third before given line are);
  }
