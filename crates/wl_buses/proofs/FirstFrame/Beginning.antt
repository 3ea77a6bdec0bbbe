-- The first frame as one of machines that begin it together, and after which bit each begins it.
use Rattle.std.proofs.Common.{◌≡◌, ◌∙◌, inl, inr, refl, sym, ap, ℕ, suc, ◌+◌, ◌-◌, ◌*◌, ◌/◌, ◌<◌, ◌≤◌, cond, true, false, List, [], ◌∷◌, ◌++◌, length, replicate, Some, None, arith, max, subst}
use Rattle.std.specs.Prelude.{nat_lt, slice_get}
use Rattle.std.proofs.lemmas.Bool.{cases_Bool, cases_lt, ltb-true}
use Rattle.std.proofs.Math.Nat.{lt_of_mul-lt-mul_right}
use Rattle.wl_level.specs.declared.Level.TheVariants.{Dominant, Recessive}
use Rattle.wl_level.specs.Levels.{is_dominant}
use Rattle.wl_confine.specs.declared.Mode.TheVariants.{Active}
use Rattle.wl_segments.specs.Lengths.{bit_quanta, sample_at}
use Rattle.wl_frame.specs.Grammar.{Content}
use Rattle.wl_machine.specs.Stretch.{Input, Stretch}
use Rattle.wl_machine.specs.Stretch.Sort.{Framing, Idle}
use Rattle.wl_machine.specs.Stretch.Input.{Sample}
use Rattle.wl_machine.specs.Judged.{drive_of, head_of, stretch_after, stretch_of}
use Rattle.wl_machine.specs.States.{sample_of, stretch_by}
use Rattle.wl_machine.proofs.Callers.{stretch_next}
use Rattle.wl_wire.specs.Wire.{sampled}
use Rattle.wl_wire.proofs.Callers.{first_drive}
use Rattle.wl_buses.specs.OneFrame.Stations.{AreOnALine, Stations}
use Rattle.wl_buses.specs.OneFrame.Starts.{Start}
use Rattle.wl_buses.specs.OneFrame.Expected.{IsOutset, Outset}
use Rattle.wl_buses.specs.OneFrame.Lines.{BeginsAfter}
use Rattle.wl_buses.specs.OneFrame.Machines.{HasIdled, HasTwoBits, MayBegin, MayBeginTogether, no_frame_sample}
use Rattle.wl_buses.proofs.OneFrame.Joining.{joins_none, over_by, own_start}
use Rattle.wl_buses.proofs.OneFrame.Waited.{takes_head}
use Rattle.wl_buses.specs.FirstFrame.FirstStarts.{AreIdle, Waiting, begins_first, decision_quantum, due_first, eleventh, first_outset, first_start, handed_first, has_first, last_before, rest_first, silent_past}
use Rattle.wl_buses.proofs.FirstFrame.Lasts as lasts
use Rattle.wl_buses.proofs.FirstFrame.Reaching as reaching
use Rattle.wl_buses.proofs.FirstFrame.Reaching.{IsSilence, Silence}
use Rattle.wl_buses.proofs.FirstFrame.Silent.{IsQuiet, none_driven_after, quiet_after}
use Rattle.wl_buses.proofs.BothProofs.Heads.{some_at}

abbrev pub MayTogether : Type 0
MayTogether = (count : ℕ) (frames : ℕ → List Content) (past : ℕ → List Input) → ((k : ℕ) → k < count → HasIdled frames k (past k)) → MayBeginTogether count frames past

-- the bus is idle to a machine that may begin a frame and wants none
idle_if : (frames : ℕ → List Content) (s : Stretch) → IsQuiet s → MayBegin frames 0 s → s.sort ≡ Idle
idle_if frames s q (inl idle) = idle
idle_if frames s q (inr due) = elim q.sort [
  | inl integrates ↦ (let e : None ≡ Some due.0 = sym (ap head_of integrates) ∙ ap (λ x. head_of x.sort) due.2 in cc)
  | inr idles ↦ idles
]

-- a list with a first element
pub first_some : (cs : List Content) (n : ℕ) → nat_lt n (length cs) ≡ true → (c : Content) × (slice_get cs n ≡ Some c)
first_some cs n e = some_at cs n (ltb-true n (length cs) e)

-- it is idle after eleven samples without a frame
pub idle_by : MayTogether → (n : ℕ) → 10 < n → (stretch_of (replicate n no_frame_sample)).sort ≡ Idle
idle_by together n many =
    let e : n ≡ 11 + (n - 11) = omega arith in
    let m = together 1 (λ k. []) (λ k. replicate n no_frame_sample) (λ k less. (n - 11, inl (ap (λ j. replicate j no_frame_sample) e))) in
    idle_if (λ k. []) (stretch_of (replicate n no_frame_sample)) (quiet_after n) (m.may 0 (omega arith))

-- from the eleventh sample on a machine that is handed a frame is to begin it
pub decided : MayTogether → (n : ℕ) (c : Content) → 10 ≤ n → stretch_after (stretch_of (replicate n no_frame_sample)) (Sample (sample_of Recessive (Some c) Active)) ≡ stretch_by (Framing (Some c)) []
decided together n c many = elim (cases_lt 10 n) [
  | inl more ↦ takes_head (stretch_of (replicate n no_frame_sample)) c (idle_by together n more)
  | inr few ↦
      (let e : 10 ≡ n = omega arith in
      subst (λ m. stretch_after (stretch_of (replicate m no_frame_sample)) (Sample (sample_of Recessive (Some c) Active)) ≡ stretch_by (Framing (Some c)) []) e refl)
]

-- the stations as ones on a silent line
abbrev pub silence_of : Waiting → Silence
silence_of w = record { stations = w.stations; has = has_first w; due = due_first w; decision = decision_quantum w; rested = eleventh w; joins = λ i. false }

pub silent_of : (w : Waiting) → AreOnALine w.stations → AreIdle w → IsSilence (silence_of w)
silent_of w line are = record {
  inside = are.inside;
  some = are.some;
  early = λ i inside. (let low = (line.book i inside).lengths.ps2_low in omega arith);
  idle = are.idle;
}

pub last_is : (w : Waiting) (i : ℕ) → begins_first w i ≡ true → last_before w i ≡ w.decides i
last_is w i e = ap (λ c. cond c (w.decides i) (((first_start w).from i - suc (sample_at (w.stations.lengths i))) / bit_quanta (w.stations.lengths i))) e

module _ (w : Waiting) (line : AreOnALine w.stations) (are : AreIdle w) where
  abbrev s : Stations
  s = w.stations

  abbrev o : Outset
  o = first_outset w

  abbrev b : Start
  b = first_start w

  abbrev S : ℕ → ℕ
  S i = sample_at (s.lengths i)

  abbrev B : ℕ → ℕ
  B i = bit_quanta (s.lengths i)

  -- its last bit before
  pub last_follows : (i : ℕ) → begins_first w i ≡ false → last_before w i ≡ (b.from i - suc (S i)) / B i
  last_follows i e = ap (λ c. cond c (w.decides i) ((b.from i - suc (S i)) / B i)) e

  abbrev bits : lasts.Bits (silence_of w) line (silent_of w line are)
  bits = record {
    place = λ i. 0;
    decides = w.decides;
    last = last_before w;
    rest = rest_first w;
    due = λ i. omega arith;
    decision = λ i. omega arith;
    rested = λ i. omega arith;
    last_own = last_is w;
    last_other = λ i e. (let none : S i ≡ 0 + S i = omega arith in last_follows i e ∙ ap (λ n. (b.from i - suc n) / B i) none);
    rest_is = λ i. omega arith;
  }

  abbrev pub IsLast : ℕ → Type 0
  IsLast = lasts.IsLast (silence_of w) line (silent_of w line are) bits

  abbrev pub last_at : (i : ℕ) → i < s.count → IsLast i
  last_at = lasts.last_at (silence_of w) line (silent_of w line are) bits

  -- it has ten bits before
  pub many : (i : ℕ) → i < s.count → 10 ≤ last_before w i
  many i inside = elim (cases_Bool (begins_first w i)) [
    | inl own ↦ (let later = are.later i in let last = last_is w i own in omega arith)
    | inr other ↦
        (let rested = lasts.rested_before (silence_of w) line (silent_of w line are) bits i inside other in
        let next = (last_at i inside).next in
        let more : suc (last_before w i) * B i ≡ rest_first w i + B i = omega arith in
        let ten = lt_of_mul-lt-mul_right (B i) (let h : 10 * B i < suc (last_before w i) * B i = omega arith in h) in
        omega arith)
  ]

  pub after_first : (i : ℕ) → i < s.count → BeginsAfter s o i (rest_first w i)
  after_first i inside =
      let l = last_at i inside in
      let before = l.before in
      let next = l.next in
      record {
        alone = λ a. sym (lasts.rest_begins (silence_of w) line (silent_of w line are) bits i a.dominant).1;
        later = λ f. (let from = f.from in omega arith);
        inside = λ f. (let from = f.from in omega arith);
        in_time = λ f e. (let from = f.from in let own = l.own e in omega arith);
      }

  -- what each machine has sampled
  past_begins : (k : ℕ) → begins_first w k ≡ true → o.past k ≡ silent_past true (w.frames k) (w.which k) (w.decides k)
  past_begins k e = ap (λ c. silent_past c (w.frames k) (w.which k) (last_before w k)) e ∙ ap (silent_past true (w.frames k) (w.which k)) (last_is w k e)

  past_follows : (k : ℕ) → begins_first w k ≡ false → o.past k ≡ replicate (suc (last_before w k)) no_frame_sample
  past_follows k e = ap (λ c. silent_past c (w.frames k) (w.which k) (last_before w k)) e

  idled : (k : ℕ) → k < s.count → HasIdled w.frames k (o.past k)
  idled k inside = elim (cases_Bool (begins_first w k)) [
    | inl own ↦
        (let n : max 11 (w.decides k) ≡ 11 + (max 11 (w.decides k) - 11) = omega arith in (
          max 11 (w.decides k) - 11,
          inr (handed_first (w.which k), past_begins k own ∙ ap (λ m. replicate m no_frame_sample ++ Sample (sampled Recessive (w.frames k) (handed_first (w.which k))) ∷ []) n),
        ))
    | inr other ↦
        (let ten = many k inside in
        let n : suc (last_before w k) ≡ 11 + (last_before w k - 10) = omega arith in (
          last_before w k - 10,
          inl (past_follows k other ∙ ap (λ m. replicate m no_frame_sample) n),
        ))
  ]

module _ (together : MayTogether) (w : Waiting) (line : AreOnALine w.stations) (are : AreIdle w) where
  abbrev may : MayBeginTogether w.stations.count w.frames (first_outset w).past
  may = together w.stations.count w.frames (first_outset w).past (idled w line are)

  -- a machine that is handed its frame drives its start
  begun : (k : ℕ) → begins_first w k ≡ true → drive_of (stretch_of ((first_outset w).past k)) ≡ Dominant
  begun k e =
      let has = reaching.begins_has (silence_of w) line (silent_of w line are) k e in
      let c = first_some (w.frames k) (w.which k) has in
      ap (λ p. drive_of (stretch_of p)) (past_begins w line are k e)
      ∙ ap (λ h. drive_of (stretch_of (replicate (max 11 (w.decides k)) no_frame_sample ++ Sample (sample_of Recessive h Active) ∷ []))) c.1
      ∙ ap drive_of (stretch_next (replicate (max 11 (w.decides k)) no_frame_sample) (Sample (sample_of Recessive (Some c.0) Active)))
      ∙ ap drive_of (decided together (max 11 (w.decides k)) c.0 (omega arith))
      ∙ first_drive c.0 (are.frames.content k c.0 (are.inside k has) (w.which k, c.1))

  drives_as : (k : ℕ) → begins_first w k ≡ is_dominant (drive_of (stretch_of ((first_outset w).past k)))
  drives_as k = elim (cases_Bool (begins_first w k)) [
    | inl own ↦ own ∙ sym (ap is_dominant (begun k own))
    | inr other ↦ other ∙ sym (ap (λ p. is_dominant (drive_of (stretch_of p))) (past_follows w line are k other) ∙ ap is_dominant (none_driven_after (suc (last_before w k))))
  ]

  -- its intermission is over
  pub over_first : (k : ℕ) → k < w.stations.count → HasTwoBits (stretch_of ((first_outset w).past k)) → ⊥
  over_first k inside = over_by w.frames k (stretch_of ((first_outset w).past k)) (may.may k inside)

  pub outset_first : IsOutset w.stations (first_outset w)
  outset_first = record {
    frames = are.frames;
    earlier = may.earlier;
    reached = may.reached;
    may = λ k inside. inl (may.may k inside);
    joins = λ k inside. sym (joins_none w.frames k (stretch_of ((first_outset w).past k)) (sampled Dominant (w.frames k) ((first_outset w).handed 0 k)) (may.may k inside));
    drives = drives_as;
    begin = reaching.begin_first (silence_of w) line (silent_of w line are);
    allowed = λ k inside e. are.may k (reaching.begins_has (silence_of w) line (silent_of w line are) k (own_start (begins_first w k) false refl e));
    some = reaching.some_first (silence_of w) line (silent_of w line are);
  }
