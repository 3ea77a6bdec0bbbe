-- Of several frames a station finds one at a time, if it finds the end of each and rests between them.
use Rattle.std.proofs.Common.{◌≡◌, ◌≢◌, ◌∙◌, ◌⊎◌, inl, inr, refl, sym, ap, subst, ℕ, zero, suc, ◌+◌, ◌-◌, ◌<◌, ◌≤◌, Bool, false, List, Option, Some, None, arith}
use Rattle.std.proofs.lemmas.Bool.{both_ways, cases_Bool, cases_eq, cases_lt, false_from_ne_true}
use Rattle.wl_segments.specs.Lengths.{bit_quanta, sample_at}
use Rattle.wl_topology.specs.Driven.{any_below, driven}
use Rattle.wl_topology.proofs.Callers.{any_from, any_none}
use Rattle.wl_machine.specs.Stretch.{Input}
use Rattle.wl_machine.specs.Frames.{stuffed_end}
use Rattle.wl_phase.specs.Clocks.{steady_tick}
use Rattle.wl_buses.specs.OneFrame.Expected.{IsOutset, Outset, expected_bits, expected_drove, expected_sample, past_at}
use Rattle.wl_buses.specs.OneFrame.Lines.{BeginsAfter}
use Rattle.wl_buses.specs.OneFrame.Machines.{bus_levels}
use Rattle.wl_buses.specs.OneFrame.Starts.{Drives, reaches_at}
use Rattle.wl_buses.specs.OneFrame.Stations.{AreStations, HaveRoom, Stations}
use Rattle.wl_buses.proofs.OneFrame.Expecting.{from_sample}
use Rattle.wl_buses.proofs.OneFrame.Measures.{tick_next}
use Rattle.wl_buses.specs.FirstFrame.FirstStarts.{hard_from}
use Rattle.wl_buses.proofs.FirstFrame.Reaching as reaching
use Rattle.wl_buses.specs.FrameEnd.Finds.{FindsTheEnd}
use Rattle.wl_buses.proofs.FrameEnd.Below.{MachineLaws}
use Rattle.wl_buses.proofs.FrameEnd.Placing.{found_was, samples_up}
use Rattle.wl_buses.proofs.FrameEnd.Delimiter.{over_is}
use Rattle.wl_buses.specs.NextFrames.Frames.{AreInOrder, IsBegunAfter, Frame, frame_drove, frames_drove, resting_of, third_sample}
use Rattle.wl_buses.specs.NextFrames.NextStarts.{AreResting, Resting, due_next, edge_next, has_next, is_reached_next, outset_next, rest_next, start_next}
use Rattle.wl_buses.proofs.NextFrames.Beginning.{rest_early}
use Rattle.wl_buses.proofs.NextFrames.Lasting.{after_next, last_at, silence_of, silent_of}

-- the laws that this rests on
abbrev pub NothingFound : Type 0
NothingFound = (s : Stations) (o : Outset) (length i q : ℕ) → AreStations s → HaveRoom s → IsOutset s o
    → ((n : ℕ) → n < length → stuffed_end (bus_levels s (expected_bits s o) n) ≡ None) → i < s.count → q ≤ o.start.from i
    → ((k : ℕ) → Drives s o.start i k → steady_tick (s.clocks i) q < reaches_at s o.start k i)
    → driven s.count s.delay (expected_drove s o length) i (steady_tick (s.clocks i) q) ≡ false

-- one of some alone
pub any_alone : (count n : ℕ) (p : ℕ → Bool) → n < count → ((g : ℕ) → g < count → g ≢ n → p g ≡ false) → any_below count p ≡ p n
any_alone count n p less others = elim (cases_Bool (p n)) [
  | inl own ↦ any_from count n p less own ∙ sym own
  | inr none ↦
      any_none count p (λ g inside. elim (cases_eq g n) [
        | inl same ↦ ap p same ∙ none
        | inr apart ↦ others g inside apart
      ])
      ∙ sym none
]

module _ (m : MachineLaws) (nothing : NothingFound) (s : Stations) (are : AreStations s) (room : HaveRoom s) (fs : ℕ → Frame) (count : ℕ) (frames : AreInOrder s fs count)
    (i : ℕ) (inside : i < s.count) (hears : (n : ℕ) → n < count → FindsTheEnd s (fs n).outset (fs n).bits i)
    (resting : (n : ℕ) (less : suc n < count) → AreResting (resting_of s (fs n) (fs (suc n)) (frames.next n less))) where
  abbrev tick : ℕ → ℕ → ℕ
  tick k q = steady_tick (s.clocks k) q

  abbrev T : ℕ → ℕ → ℕ
  T n i = third_sample s (fs n) i

  abbrev found : ℕ → ℕ → ℕ → Bool
  found n i q = driven s.count s.delay (frame_drove s (fs n)) i (tick i q)

  abbrev S : ℕ → ℕ → ℕ → ℕ
  S n j i = expected_sample s (fs n).outset j i

  -- the samples of one frame
  pub up : (n a j : ℕ) → n < count → a ≤ j → S n a i ≤ S n j i
  up n a j less h =
      let f = frames.each n less in
      samples_up m s are room (fs n).outset f.outset (fs n).bits f.ends.none f.ends.there f.won a j i inside h

  -- the acknowledgement is over by the third bit of the intermission
  pub over_by_third : (n : ℕ) → n < count → (expected_bits s (fs n).outset (suc (suc (fs n).bits))).from i + sample_at (s.lengths i) ≤ T n i
  over_by_third n less =
      let f = frames.each n less in
      let from : (expected_bits s (fs n).outset (suc (suc (fs n).bits))).from i ≡ (expected_bits s (fs n).outset (suc (fs n).bits)).place i + bit_quanta (s.lengths i) =
      ap (λ b. b.from i) (over_is m s are room (fs n).outset f.outset (fs n).bits f.ends.none f.ends.there f.won) in
      let place : (expected_bits s (fs n).outset (suc (suc (fs n).bits))).place i ≡ (expected_bits s (fs n).outset (suc (fs n).bits)).place i + bit_quanta (s.lengths i) =
      ap (λ b. b.place i) (over_is m s are room (fs n).outset f.outset (fs n).bits f.ends.none f.ends.there f.won) in
      let later = up n (suc (suc (fs n).bits)) ((fs n).bits + 12) less (omega arith) in
      omega arith

  -- after a frame nothing of it is found
  pub past : (n q : ℕ) → n < count → T n i < q → found n i q ≡ false
  past n q less more = (hears n less).silent q (let later = up n (suc (suc (fs n).bits)) ((fs n).bits + 12) less (omega arith) in omega arith)

  -- before a frame neither
  module _ (n : ℕ) (less : suc n < count) where
    abbrev next : IsBegunAfter s (fs n) (fs (suc n))
    next = frames.next n less

    abbrev r : Resting
    r = resting_of s (fs n) (fs (suc n)) next

    pub rests_there : AreResting r
    rests_there = resting n less

    abbrev before : ℕ → List Input
    before = past_at s (fs n).outset ((fs n).bits + 12)

    pub begins_after : BeginsAfter s (fs (suc n)).outset i (rest_next r i)
    begins_after = subst (λ o. BeginsAfter s o i (rest_next r i)) (sym next.is) (after_next r are.line rests_there before i inside)

    -- the start of frame comes after the third bit of the intermission
    record After (o : Outset) : Type 0 where
      from : T n i < o.start.from i
      unreached : (q : ℕ) → q ≤ T n i → (k : ℕ) → Drives s o.start i k → tick i q < reaches_at s o.start k i

    after_is : After (outset_next r before)
    after_is =
        let l = last_at r are.line rests_there i inside in
        let b = l.before in
        let low = (are.line.book i inside).lengths.ps2_low in
        record {
          from = omega arith;
          unreached = λ q by k d. (let up_to = tick_next s are i inside q (T n i) by in
              let h = reaching.unfound_before (silence_of r) are.line (silent_of r are.line rests_there) i (T n i) inside
              (reaching.unreached_rested (silence_of r) are.line (silent_of r are.line rests_there) i inside) (inl (omega arith)) k d in
              omega arith);
        }

    after : After (fs (suc n)).outset
    after = subst After (sym next.is) after_is

    pub third_before : T n i < (fs (suc n)).outset.start.from i
    third_before = after.from

    first_later : T n i ≤ S (suc n) 0 i
    first_later =
        let f = frames.each (suc n) less in
        let x = rest_early s (fs (suc n)).outset i (rest_next r i) begins_after (f.outset.begin i inside) in
        omega arith

    pub coming : (q : ℕ) → q ≤ T n i → found (suc n) i q ≡ false
    coming q by =
        let f = frames.each (suc n) less in
        let a = after in
        let from = a.from in
        let first = first_later in
        let last = up (suc n) 0 (fs (suc n)).bits less (omega arith) in
        found_was m s are room (fs (suc n)).outset f.outset (fs (suc n)).bits f.ends.none f.ends.there f.won i inside (hears (suc n) less).later q (omega arith)
        ∙ nothing s (fs (suc n)).outset (fs (suc n)).bits i q are room f.outset f.ends.none inside (omega arith) (a.unreached q by)

    -- no other start of frame has reached it before its own
    unreached : (q : ℕ) → q < (start_next r).from i → (op : Option ℕ) → edge_next r i ≡ op → is_reached_next r i q ≡ false
    unreached q below None e =
        (let from : (start_next r).from i ≡ due_next r i = ap (hard_from (due_next r i)) e in
        reaching.alone_early (silence_of r) are.line (silent_of r are.line rests_there) i q inside e (omega arith))
    unreached q below (Some f) e =
        (let from : (start_next r).from i ≡ f = ap (hard_from (due_next r i)) e in (reaching.found_is (silence_of r) are.line (silent_of r are.line rests_there) i f e).before q (omega arith))

    due_or_none : (q : ℕ) → q < (start_next r).from i → (op : Option ℕ) → edge_next r i ≡ op → (q ≤ due_next r i) ⊎ (has_next r i ≡ false)
    due_or_none q below None e = inl (let from : (start_next r).from i ≡ due_next r i = ap (hard_from (due_next r i)) e in omega arith)
    due_or_none q below (Some f) e = elim (cases_Bool (has_next r i)) [
      | inl own ↦
          inl (let from : (start_next r).from i ≡ f = ap (hard_from (due_next r i)) e in
          let by = reaching.by_due (silence_of r) are.line (silent_of r are.line rests_there) i f own (reaching.found_is (silence_of r) are.line (silent_of r are.line rests_there) i f e) in
          omega arith)
      | inr none ↦ inr none
    ]

    pub start_is : (fs (suc n)).outset.start ≡ start_next r
    start_is = ap (λ o. o.start) next.is

    pub silent_before : (q : ℕ) → q < (start_next r).from i → found (suc n) i q ≡ false
    silent_before q below =
        let f = frames.each (suc n) less in
        let from : (fs (suc n)).outset.start.from i ≡ (start_next r).from i = ap (λ b. b.from i) start_is in
        let first = from_sample m.steps m.errors m.winner m.stuffed m.six m.ten s are room (fs (suc n)).outset f.outset (fs (suc n)).bits f.ends.none 0 i inside in
        let last = up (suc n) 0 (fs (suc n)).bits less (omega arith) in
        found_was m s are room (fs (suc n)).outset f.outset (fs (suc n)).bits f.ends.none f.ends.there f.won i inside (hears (suc n) less).later q (omega arith)
        ∙ nothing s (fs (suc n)).outset (fs (suc n)).bits i q are room f.outset f.ends.none inside (omega arith)
        (subst (λ b. (k : ℕ) → Drives s b i k → tick i q < reaches_at s b k i) (sym start_is)
        (reaching.unfound_before (silence_of r) are.line (silent_of r are.line rests_there) i q inside (unreached q below (edge_next r i) refl) (due_or_none q below (edge_next r i) refl)))

    pub by_third : (q : ℕ) → q < (start_next r).from i → q ≤ T (suc n) i
    by_third q below =
        let f = frames.each (suc n) less in
        let from : (fs (suc n)).outset.start.from i ≡ (start_next r).from i = ap (λ b. b.from i) start_is in
        let first = from_sample m.steps m.errors m.winner m.stuffed m.six m.ten s are room (fs (suc n)).outset f.outset (fs (suc n)).bits f.ends.none 0 i inside in
        let last = up (suc n) 0 ((fs (suc n)).bits + 12) less (omega arith) in
        omega arith

    pub later_third : T n i ≤ T (suc n) i
    later_third = let first = first_later in let last = up (suc n) 0 ((fs (suc n)).bits + 12) less (omega arith) in omega arith

  pub thirds_up : (n g : ℕ) → n ≤ g → g < count → T n i ≤ T g i
  thirds_up n zero low less = (let e : n ≡ 0 = omega arith in let f : T n i ≡ T 0 i = ap (λ k. T k i) e in omega arith)
  thirds_up n (suc g) low less = elim (cases_eq n (suc g)) [
    | inl same ↦ (let f : T n i ≡ T (suc g) i = ap (λ k. T k i) same in omega arith)
    | inr other ↦ (let before = thirds_up n g (omega (arith, other, low)) (omega arith) in let next = later_third g less in omega arith)
  ]

  -- in the time of one frame nothing of any other is found
  module _ (n q : ℕ) (less : n < count) (after_last : (j : ℕ) → suc j ≡ n → T j i < q) (by : q ≤ T n i) where
    other_none : (g : ℕ) → g < count → g ≢ n → found g i q ≡ false
    other_none g in_count apart = elim (cases_lt g n) [
      | inl earlier ↦
          (let last = after_last (n - 1) (omega arith) in
          let mono = thirds_up g (n - 1) (omega arith) (omega arith) in
          past g q in_count (omega arith))
      | inr later ↦
          (let e : suc (g - 1) ≡ g = omega (arith, apart, later) in
          let mono = thirds_up n (g - 1) (omega (arith, apart, later)) (omega arith) in
          ap (λ k. found k i q) (sym e) ∙ coming (g - 1) (omega arith) q (omega arith))
    ]

    drives_none : (g k : ℕ) → g < count → g ≢ n → k < s.count → s.delay k i ≤ tick i q → frame_drove s (fs g) k (tick i q - s.delay k i) ≡ false
    drives_none g k in_count apart there come =
        false_from_ne_true (frame_drove s (fs g) k (tick i q - s.delay k i))
        (λ e. both_ways (found g i q) (other_none g in_count apart) (m.driven.dominant_from s.count s.delay (frame_drove s (fs g)) k i (tick i q) there come e))

    pub alone : driven s.count s.delay (frames_drove s fs count) i (tick i q) ≡ found n i q
    alone =
        m.driven.same s.count s.delay (frames_drove s fs count) (frame_drove s (fs n)) i (tick i q)
        (λ k there come. any_alone count n (λ g. frame_drove s (fs g) k (tick i q - s.delay k i)) less (λ g in_count apart. drives_none g k in_count apart there come))

  -- after all frames nothing is found
  module _ (q : ℕ) (after : (g : ℕ) → g < count → T g i < q) where
    gone : (g k : ℕ) → g < count → k < s.count → s.delay k i ≤ tick i q → frame_drove s (fs g) k (tick i q - s.delay k i) ≡ false
    gone g k in_count there come =
        false_from_ne_true (frame_drove s (fs g) k (tick i q - s.delay k i))
        (λ e. both_ways (found g i q) (past g q in_count (after g in_count)) (m.driven.dominant_from s.count s.delay (frame_drove s (fs g)) k i (tick i q) there come e))

    pub silent_after : driven s.count s.delay (frames_drove s fs count) i (tick i q) ≡ false
    silent_after =
        false_from_ne_true (driven s.count s.delay (frames_drove s fs count) i (tick i q))
        (λ e. (let x = m.driven.dominant_by s.count s.delay (frames_drove s fs count) i (tick i q) e in
        both_ways (frames_drove s fs count x.0 (tick i q - s.delay x.0 i))
        (any_none count (λ g. frame_drove s (fs g) x.0 (tick i q - s.delay x.0 i)) (λ g in_count. gone g x.0 in_count x.1 x.2)) x.3))

  -- up to its last bit before the first frame a station finds what its stuffed part drives
  pub first_alone : 0 < count → (rest q : ℕ) → BeginsAfter s (fs 0).outset i rest → q ≤ rest + sample_at (s.lengths i)
      → driven s.count s.delay (frames_drove s fs count) i (tick i q) ≡ driven s.count s.delay (expected_drove s (fs 0).outset (fs 0).bits) i (tick i q)
  first_alone some rest q begins by =
      let f = frames.each 0 some in
      let after = rest_early s (fs 0).outset i rest begins (f.outset.begin i inside) in
      let end = up 0 0 (fs 0).bits some (omega arith) in
      let third = up 0 0 ((fs 0).bits + 12) some (omega arith) in
      alone 0 q some (λ j e. absurd (omega (arith, e))) (omega arith)
      ∙ found_was m s are room (fs 0).outset f.outset (fs 0).bits f.ends.none f.ends.there f.won i inside (hears 0 some).later q (omega arith)
