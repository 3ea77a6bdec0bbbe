-- The next frame as one of machines that begin it together.
use Rattle.std.proofs.Common.{◌≡◌, ◌∙◌, inl, inr, refl, sym, ap, subst, cond, ℕ, zero, suc, ◌<◌, ◌≤◌, Bool, true, false, List, [], ◌∷◌, ◌++◌, length, replicate, Some, arith}
use Rattle.std.specs.Prelude.{slice_get}
use Rattle.std.proofs.lemmas.Bool.{cases_Bool, cases_lt, le-ltb, lt-ltb, ltb-true}
use Rattle.std.proofs.lemmas.List.{append_assoc}
use Rattle.std.proofs.lemmas.Option.{slice_get_past}
use Rattle.wl_level.specs.declared.Level.TheVariants.{Dominant, Recessive}
use Rattle.wl_level.specs.Levels.{is_dominant}
use Rattle.wl_confine.specs.declared.Mode.TheVariants.{Active}
use Rattle.wl_frame.specs.Grammar.{Content}
use Rattle.wl_machine.specs.Stretch.{Input, free}
use Rattle.wl_machine.specs.Stretch.Sort.{Framing, Idle}
use Rattle.wl_machine.specs.Stretch.Input.{Sample}
use Rattle.wl_machine.specs.Judged.{drive_by, drive_of, stretch_after, stretch_of}
use Rattle.wl_machine.specs.States.{sample_of, stretch_by}
use Rattle.wl_machine.proofs.Callers.{stretch_next}
use Rattle.wl_wire.specs.Wire.{Handed, sampled}
use Rattle.wl_wire.proofs.Callers.{first_drive}
use Rattle.wl_buses.specs.OneFrame.Stations.{AreOnALine, Stations}
use Rattle.wl_buses.specs.OneFrame.Expected.{IsOutset, Outset}
use Rattle.wl_buses.specs.OneFrame.Machines.{HasTwoBits, MayBegin, MayBeginTogether, no_frame_sample}
use Rattle.wl_buses.proofs.OneFrame.Joining.{joins_none, over_by, own_start}
use Rattle.wl_buses.specs.OneFrame.Waits.{HasWaited}
use Rattle.wl_buses.proofs.OneFrame.Waited.{idle_after, none_is, none_of, one_more, takes_head}
use Rattle.wl_buses.specs.NextFrames.NextStarts.{AreFreeNext, AreResting, Resting, begins_next, handed_next, last_next, outset_next, past_next, waiting_past}
use Rattle.wl_buses.proofs.FirstFrame.Reaching as reaching
use Rattle.wl_buses.proofs.NextFrames.Lasting.{silence_of, silent_of}
use Rattle.wl_buses.proofs.BothProofs.Heads.{some_at}

-- what it is handed with the sample with which it rests
abbrev pub first_handed : (frames : ℕ → List Content) (k sent : ℕ) → Bool → ℕ → Handed
first_handed frames k sent true zero = handed_next sent
first_handed frames k sent false zero = none_of frames k
first_handed frames k sent true (suc n) = none_of frames k
first_handed frames k sent false (suc n) = none_of frames k

pub first_active : (frames : ℕ → List Content) (k sent : ℕ) (c : Bool) (n : ℕ) → (first_handed frames k sent c n).mode ≡ Active
first_active frames k sent true zero = refl
first_active frames k sent false zero = refl
first_active frames k sent true (suc n) = refl
first_active frames k sent false (suc n) = refl

-- one machine
module _ (frames : ℕ → List Content) (k : ℕ) (old : List Input)
    (free_then : (h : Handed) → h.mode ≡ Active → stretch_of (old ++ Sample (sampled Recessive (frames k) h) ∷ []) ≡ stretch_by (free (slice_get (frames k) h.which)) []) (sent : ℕ) where
  abbrev first : Handed → List Input
  first h = old ++ Sample (sampled Recessive (frames k) h) ∷ []

  abbrev idle : List Input
  idle = old ++ no_frame_sample ∷ []

  idle_is : first (none_of frames k) ≡ idle
  idle_is = ap (λ x. old ++ x ∷ []) (none_is frames k)

  idle_first : (stretch_of (first (none_of frames k))).sort ≡ Idle
  idle_first = ap (λ x. x.sort) (free_then (none_of frames k) refl) ∙ ap free (slice_get_past (frames k) (length (frames k)) (omega arith))

  idle_one : (stretch_of idle).sort ≡ Idle
  idle_one = ap (λ p. (stretch_of p).sort) (sym idle_is) ∙ idle_first

  -- the bits after it
  pub waited : (c : Bool) (n : ℕ) → HasWaited (frames k) (first (first_handed frames k sent c n)) (old ++ waiting_past c (frames k) sent n)
  waited true zero = inl refl
  waited false zero = inl (sym idle_is)
  waited true (suc n) =
      inr (
        n,
        handed_next sent,
        idle_first,
        sym (append_assoc old (no_frame_sample ∷ []) (replicate n no_frame_sample ++ Sample (sampled Recessive (frames k) (handed_next sent)) ∷ []))
            ∙ ap (λ p. p ++ (replicate n no_frame_sample ++ Sample (sampled Recessive (frames k) (handed_next sent)) ∷ [])) (sym idle_is),
      )
  waited false (suc n) =
      inr (
        n,
        none_of frames k,
        idle_first,
        sym (append_assoc old (no_frame_sample ∷ []) (replicate (suc n) no_frame_sample))
            ∙ ap (λ p. idle ++ p) (one_more n ∙ ap (λ x. replicate n no_frame_sample ++ x ∷ []) (sym (none_is frames k)))
            ∙ ap (λ p. p ++ (replicate n no_frame_sample ++ Sample (sampled Recessive (frames k) (none_of frames k)) ∷ [])) (sym idle_is),
      )

  -- so it is idle, or is to begin its frame
  pub stays_idle : (n : ℕ) → (stretch_of (old ++ waiting_past false (frames k) sent n)).sort ≡ Idle
  stays_idle n =
      ap (λ p. (stretch_of p).sort) (sym (append_assoc old (no_frame_sample ∷ []) (replicate n no_frame_sample))) ∙ idle_after idle n idle_one

  pub begins_by : (n : ℕ) (c : Content) → slice_get (frames k) sent ≡ Some c → stretch_of (old ++ waiting_past true (frames k) sent n) ≡ stretch_by (Framing (Some c)) []
  begins_by zero c e = free_then (handed_next sent) refl ∙ ap (λ h. stretch_by (free h) []) e
  begins_by (suc n) c e =
      ap stretch_of (sym (append_assoc old (no_frame_sample ∷ []) (replicate n no_frame_sample ++ Sample (sampled Recessive (frames k) (handed_next sent)) ∷ []))
      ∙ sym (append_assoc idle (replicate n no_frame_sample) (Sample (sampled Recessive (frames k) (handed_next sent)) ∷ [])))
      ∙ stretch_next (idle ++ replicate n no_frame_sample) (Sample (sampled Recessive (frames k) (handed_next sent)))
      ∙ ap (λ h. stretch_after (stretch_of (idle ++ replicate n no_frame_sample)) (Sample (sample_of Recessive h Active))) e
      ∙ takes_head (stretch_of (idle ++ replicate n no_frame_sample)) c (idle_after idle n idle_one)

abbrev pub MayWait : Type 0
MayWait = (count : ℕ) (frames : ℕ → List Content) (old new : ℕ → List Input) → MayBeginTogether count frames old → ((k : ℕ) → k < count → HasWaited (frames k) (old k) (new k))
    → MayBeginTogether count frames new

module _ (wait : MayWait) (w : Resting) (before : ℕ → List Input) (line : AreOnALine w.stations) (are : AreResting w) (rests : AreFreeNext w.stations.count w.frames before) where
  abbrev s : Stations
  s = w.stations

  abbrev o : Outset
  o = outset_next w before

  free_at : (k : ℕ) → k < s.count → (h : Handed) → h.mode ≡ Active
      → stretch_of (before k ++ Sample (sampled Recessive (w.frames k) h) ∷ []) ≡ stretch_by (free (slice_get (w.frames k) h.which)) []
  free_at k lt h e = rests.free k h lt e

  abbrev handed : ℕ → Handed
  handed k = first_handed w.frames k (w.which k) (begins_next w k) (last_next w k)

  abbrev with_one : ℕ → List Input
  with_one k = before k ++ Sample (sampled Recessive (w.frames k) (handed k)) ∷ []

  together : MayBeginTogether s.count w.frames with_one
  together = rests.together handed (λ k lt. first_active w.frames k (w.which k) (begins_next w k) (last_next w k))

  may : MayBeginTogether s.count w.frames (past_next w before)
  may =
      wait s.count w.frames with_one (past_next w before) together
      (λ k lt. waited w.frames k (before k) (free_at k lt) (w.which k) (begins_next w k) (last_next w k))

  pub past_inside : (k : ℕ) → k < s.count → o.past k ≡ past_next w before k
  past_inside k lt = ap (λ c. cond c (past_next w before k) []) (lt-ltb k s.count lt)

  pub past_outside : (k : ℕ) → s.count ≤ k → o.past k ≡ []
  past_outside k more = ap (λ c. cond c (past_next w before k) []) (le-ltb k s.count more)

  -- a machine that is handed its frame drives its start
  frame_of : (k : ℕ) → begins_next w k ≡ true → (c : Content) × (slice_get (w.frames k) (w.which k) ≡ Some c)
  frame_of k e = some_at (w.frames k) (w.which k) (ltb-true (w.which k) (length (w.frames k)) (reaching.begins_has (silence_of w) line (silent_of w line are) k e))

  pub begun : (k : ℕ) → begins_next w k ≡ true → (c : Content) × (slice_get (w.frames k) (w.which k) ≡ Some c) × (stretch_of (o.past k) ≡ stretch_by (Framing (Some c)) [])
  begun k e =
      let lt = are.inside k (reaching.begins_has (silence_of w) line (silent_of w line are) k e) in
      let c = frame_of k e in (
        c.0,
        c.1,
        ap stretch_of (past_inside k lt) ∙ ap (λ b. stretch_of (before k ++ waiting_past b (w.frames k) (w.which k) (last_next w k))) e
            ∙ begins_by w.frames k (before k) (free_at k lt) (w.which k) (last_next w k) c.0 c.1,
      )

  pub follows : (k : ℕ) → k < s.count → begins_next w k ≡ false → (stretch_of (o.past k)).sort ≡ Idle
  follows k lt e =
      ap (λ p. (stretch_of p).sort) (past_inside k lt) ∙ ap (λ b. (stretch_of (before k ++ waiting_past b (w.frames k) (w.which k) (last_next w k))).sort) e
      ∙ stays_idle w.frames k (before k) (free_at k lt) (w.which k) (last_next w k)

  drives_begun : (k : ℕ) → begins_next w k ≡ true → drive_of (stretch_of (o.past k)) ≡ Dominant
  drives_begun k e =
      let lt = are.inside k (reaching.begins_has (silence_of w) line (silent_of w line are) k e) in
      let c = begun k e in
      ap drive_of c.2 ∙ first_drive c.0 (are.frames.content k c.0 lt (w.which k, c.1))

  drives_none : (k : ℕ) → begins_next w k ≡ false → drive_of (stretch_of (o.past k)) ≡ Recessive
  drives_none k e = elim (cases_lt k s.count) [
    | inl lt ↦ ap (λ q. drive_by q (stretch_of (o.past k)).own) (follows k lt e)
    | inr more ↦ ap (λ p. drive_of (stretch_of p)) (past_outside k more)
  ]

  pub drives_as : (k : ℕ) → begins_next w k ≡ is_dominant (drive_of (stretch_of (o.past k)))
  drives_as k = elim (cases_Bool (begins_next w k)) [
    | inl own ↦ own ∙ sym (ap is_dominant (drives_begun k own))
    | inr other ↦ other ∙ sym (ap is_dominant (drives_none k other))
  ]

  may_there : (k : ℕ) → k < s.count → MayBegin w.frames k (stretch_of (o.past k))
  may_there k lt = subst (λ p. MayBegin w.frames k (stretch_of p)) (sym (past_inside k lt)) (may.may k lt)

  -- its intermission is over
  pub over_next : (k : ℕ) → k < s.count → HasTwoBits (stretch_of (o.past k)) → ⊥
  over_next k lt = over_by w.frames k (stretch_of (o.past k)) (may_there k lt)

  pub next_is_outset : IsOutset s o
  next_is_outset = record {
    frames = are.frames;
    earlier = may.earlier;
    reached = λ k lt. past_inside k lt ∙ may.reached k lt;
    may = λ k lt. inl (may_there k lt);
    joins = λ k lt. sym (joins_none w.frames k (stretch_of (o.past k)) (sampled Dominant (w.frames k) (o.handed 0 k)) (may_there k lt));
    drives = drives_as;
    begin = reaching.begin_first (silence_of w) line (silent_of w line are);
    allowed = λ k inside e. are.may k (reaching.begins_has (silence_of w) line (silent_of w line are) k (own_start (begins_next w k) false refl e));
    some = reaching.some_first (silence_of w) line (silent_of w line are);
  }
