-- A node that rests on a silent line finds nothing, bit by bit.
use Rattle.std.proofs.Common.{◌≡◌, ◌∙◌, ◌⊎◌, inl, inr, refl, sym, ap, subst, ℕ, zero, suc, ◌+◌, ◌*◌, ◌<◌, ◌≤◌, cond, Bool, true, false, List, [], ◌∷◌, ◌++◌, Option, Some, None, arith, append-nil}
use Rattle.std.specs.Prelude.{count_by}
use Rattle.std.proofs.lemmas.Bool.{cases_eq}
use Rattle.std.proofs.lemmas.List.Sums.{fold-append}
use Rattle.std.proofs.Math.Nat.{mul-le-mul_right}
use Rattle.wl_level.specs.declared.Level.{Level}
use Rattle.wl_level.specs.declared.Level.TheVariants.{Dominant, Recessive}
use Rattle.wl_level.specs.Levels.{is_dominant}
use Rattle.wl_level.specs.Places.{at}
use Rattle.wl_confine.specs.declared.Happened.{Happened}
use Rattle.wl_confine.specs.declared.Happened.TheVariants.{Nothing}
use Rattle.wl_confine.specs.declared.Mode.{Mode}
use Rattle.wl_confine.specs.declared.Mode.TheVariants.{Active, Passive, Off}
use Rattle.wl_confine.specs.Counts.{counts_after, counts_of, mode_of, no_counts}
use Rattle.wl_segments.specs.Lengths.{Lengths, bit_quanta, sample_at}
use Rattle.wl_sync.specs.declared.Beat.TheVariants.{Plain, Sample, Start}
use Rattle.wl_sync.specs.declared.Seen.{Seen}
use Rattle.wl_sync.specs.Bits.{beat_of}
use Rattle.wl_frame.specs.Header.{fields_of, number_bits, part_bits, sent_free}
use Rattle.wl_frame.specs.Grammar.{Content, bits_of}
use Rattle.wl_machine.specs.Stretch.{Sampled, Stretch, begins, free}
use Rattle.wl_machine.specs.Stretch.Sort.{Framing, Idle}
use Rattle.wl_machine.specs.Stretch.Input.{Sample as Given}
use Rattle.wl_machine.specs.BetweenFrames.{idle_on}
use Rattle.wl_machine.specs.Judged.{drive_by, drive_of, judged, judged_by, or_next, stretch_after, stretch_of}
use Rattle.wl_machine.specs.States.{stretch_by}
use Rattle.wl_machine.proofs.Callers.{stretch_next}
use Rattle.wl_node.specs.declared.setup.NodeSetup.{NodeSetup}
use Rattle.wl_node.specs.History.{History, sampled_next, switched_off}
use Rattle.wl_phase.specs.InStep.{seen_before}
use Rattle.wl_phase.specs.Ways.{ByTheBook}
use Rattle.wl_buses.specs.OneFrame.Clocked.{BitIs, EdgeLaws, SamplesBy}
use Rattle.wl_buses.specs.OneFrame.Nodes.{IsRun, clock_sees}
use Rattle.wl_buses.proofs.OneFrame.Nodes.{drive_by as driven_by}
use Rattle.wl_buses.proofs.OneFrame.TakenOn.{TakesOn, goes_idle}
use Rattle.wl_buses.proofs.PassedFrames.Quanta.{IsCalm}
use Rattle.wl_buses.proofs.PassedFrames.Samples as samples

-- a machine that is free: the bus is idle to it, or it begins a frame
abbrev pub IsFree : Stretch → Type 0
IsFree x = (x.sort ≡ Idle) ⊎ ((c : Content) × (x ≡ stretch_by (Framing (Some c)) []))

pub free_is : (head : Option Content) → IsFree (stretch_by (free head) [])
free_is None = inl refl
free_is (Some c) = inr (c, refl)

-- a frame drives its start of frame, whatever its numbers
starts_by : (extended : Bool) (c : Content) (bytes crc : List Level) → at ((part_bits (fields_of extended) c sent_free ++ bytes) ++ crc) 0 ≡ Dominant
unfolding number_bits
starts_by true c bytes crc = refl
starts_by false c bytes crc = refl

drives_start : (c : Content) → drive_by (Framing (Some c)) [] ≡ Dominant
unfolding bits_of
drives_start c = starts_by c.extended c _ _

-- one that drives nothing is idle
idle_by : (x : Stretch) → IsFree x → drive_of x ≡ Recessive → x.sort ≡ Idle
idle_by x (inl idle) e = idle
idle_by x (inr begun) e = (let f : Dominant ≡ Recessive = sym (drives_start begun.0) ∙ sym (ap drive_of begun.1) ∙ e in cc)

-- a recessive sample on an idle bus
pub idle_is : (x : Stretch) (z : Sampled) → x.sort ≡ Idle → z.level ≡ Recessive → judged x z ≡ idle_on z.head
idle_is x z idle e =
    ap (λ k. judged_by k x.own z) idle ∙ ap (λ v. cond (is_dominant v) (begins Nothing (Framing None) (z.level ∷ [])) (idle_on z.head)) e

free_by : (head : Option Content) (own : List Level) → IsFree (or_next (idle_on head).next (stretch_by Idle own))
free_by None own = inl refl
free_by (Some c) own = inr (c, refl)

free_next : (x : Stretch) (z : Sampled) → x.sort ≡ Idle → z.level ≡ Recessive → IsFree (stretch_after x (Given z))
free_next x z idle e =
    subst IsFree (sym (ap (λ j. or_next j.next (stretch_by x.sort (x.own ++ z.level ∷ []))) (idle_is x z idle e) ∙ ap (λ k. or_next (idle_on z.head).next (stretch_by k (x.own ++ z.level ∷ []))) idle))
    (free_by z.head (x.own ++ z.level ∷ []))

not_off : (m : Mode) → switched_off m m ≡ []
not_off Active = refl
not_off Passive = refl
not_off Off = refl

nothing_counts : (past : List Happened) → counts_of (past ++ Nothing ∷ []) ≡ counts_of past
nothing_counts past = fold-append counts_after no_counts past (Nothing ∷ [])

module _ (edges : EdgeLaws) (setup : NodeSetup) (levels : ℕ → Level) (node : ℕ → History) (run : IsRun setup levels node) (l : Lengths) (segments : setup.segments ≡ l) (book : ByTheBook l)
    (p : Happened → Bool) (calm : IsCalm p) where
  abbrev S : ℕ
  S = sample_at l

  abbrev B : ℕ
  B = bit_quanta l

  abbrev sees : ℕ → Seen
  sees = clock_sees levels node

  -- it has sampled a bit with place 0 at a quantum, is free, and has found so much
  pub record Waits (place count : ℕ) : Type 0 where
    pub sampled : SamplesBy l sees (place + S) Recessive
    pub free : IsFree (stretch_of (node (suc (place + S))).inputs)
    pub found : count_by p (node (suc (place + S))).happened ≡ count

  -- a silent bit, in which it drives nothing
  module _ (place count : ℕ) (w : Waits place count) (silent : (q : ℕ) → place + S < q → q ≤ place + B + S → levels q ≡ Recessive) (quiet : (node (suc (place + B))).drive ≡ Recessive) where
    low : 2 ≤ l.ps2
    low = book.lengths.ps2_low

    bit : BitIs l sees (place + S) (place + B) (place + B) Recessive
    bit = edges.silent l sees place Recessive book w.sampled silent

    none : samples.NoneSamples l sees (place + S) (place + B + S)
    none q more less v e = elim (cases_eq q (place + B)) [
      | inl here ↦ (let f : Sample v ≡ Start = sym e ∙ ap (λ k. beat_of l (seen_before sees k) (sees k)) here ∙ bit.starts.starts in cc)
      | inr apart ↦ (let f : Sample v ≡ Plain = sym e ∙ bit.starts.others q more less apart in cc)
    ]

    longer : place + S < place + B + S
    longer = let h = low in omega arith

    abbrev X : Stretch
    X = stretch_of (node (suc (place + S))).inputs

    drives_none : drive_of X ≡ Recessive
    drives_none =
        let h = low in
        sym (ap (λ v. drive_of (stretch_of v)) (samples.stays_at setup levels node run l segments (place + S) (place + B + S) (place + B) (omega arith) (omega arith) none).inputs)
        ∙ sym (driven_by setup levels node run (place + B) Start (ap (λ m. beat_of m (seen_before sees (place + B)) (sees (place + B))) segments ∙ bit.starts.starts)) ∙ quiet

    idle : X.sort ≡ Idle
    idle = idle_by X w.free drives_none

    abbrev given : Sampled
    given = sampled_next setup (node (place + B + S)) (levels (place + B + S))

    silent_last : levels (place + B + S) ≡ Recessive
    silent_last = silent (place + B + S) longer (omega arith)

    on : TakesOn (judged X given)
    on = subst TakesOn (sym (idle_is X given idle silent_last)) (goes_idle given.head)

    happened_then : (node (suc (place + B + S))).happened ≡ (node (place + B + S)).happened ++ Nothing ∷ []
    happened_then =
        samples.happened_then setup levels node run l segments (place + S) (place + B + S) longer none Recessive bit.samples.beat X refl
        ∙ ap (λ h. (node (place + B + S)).happened ++ h ∷ []) on.happened

    stretch_then : stretch_of (node (suc (place + B + S))).inputs ≡ stretch_after X (Given given)
    stretch_then =
        ap stretch_of (samples.inputs_then setup levels node run l segments (place + S) (place + B + S) longer none Recessive bit.samples.beat X refl
        ∙ ap (λ w. ((node (place + B + S)).inputs ++ Given given ∷ []) ++ w) off ∙ append-nil ((node (place + B + S)).inputs ++ Given given ∷ []))
        ∙ stretch_next (node (place + B + S)).inputs (Given given)
        ∙ ap (λ x. stretch_after x (Given given)) (samples.stretch_last setup levels node run l segments (place + S) (place + B + S) longer none Recessive bit.samples.beat X refl)
      where
        off : switched_off given.mode (mode_of (counts_of (node (suc (place + B + S))).happened)) ≡ []
        off =
            ap (λ h. switched_off given.mode (mode_of (counts_of h))) happened_then ∙ ap (λ c. switched_off given.mode (mode_of c)) (nothing_counts (node (place + B + S)).happened) ∙ not_off given.mode

    pub waits_next : Waits (place + B) count
    waits_next = record {
      sampled = bit.samples.beat;
      free = subst IsFree (sym stretch_then) (free_next X given idle silent_last);
      found =
          samples.count_stays setup levels node run l segments (place + S) (place + B + S) longer none Recessive bit.samples.beat X refl p (ap p on.happened ∙ calm Nothing refl) ∙ w.found;
    }

  -- so many silent bits
  module _ (first : ℕ) (count last : ℕ) (w : Waits first count) (silent : (q : ℕ) → first + S < q → q ≤ first + last * B + S → levels q ≡ Recessive)
      (quiet : (q : ℕ) → first + S < q → q ≤ suc (first + last * B + S) → (node q).drive ≡ Recessive) where
    place : ℕ → ℕ
    place n = first + n * B

    inner : (n : ℕ) → n < last → n * B + B ≤ last * B
    inner n less = let h : suc n * B ≤ last * B = mul-le-mul_right B less in omega arith

    pub waits_on : (n : ℕ) → n ≤ last → Waits (first + n * B) count
    waits_on zero less = subst (λ k. Waits k count) (let e : first ≡ first + 0 * B = omega arith in e) w
    waits_on (suc n) less =
        (let up = inner n (omega arith) in
        let low = book.lengths.ps2_low in
        let e : first + n * B + B ≡ first + suc n * B = omega arith in
        subst (λ k. Waits k count) e
        (waits_next (first + n * B) count (waits_on n (omega arith)) (λ q a b. silent q (omega arith) (omega arith)) (quiet (suc (first + n * B + B)) (omega arith) (omega arith))))
