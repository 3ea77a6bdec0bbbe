-- A node that goes through a frame finds nothing in it, bit by bit, and one bit alone completes a frame.
use Rattle.std.proofs.Common.{◌≡◌, ◌≢◌, ◌∙◌, inl, inr, sym, ap, subst, ℕ, zero, suc, ◌+◌, ◌-◌, ◌<◌, ◌≤◌, Bool, true, false, List, [], ◌∷◌, ◌++◌, length, Option, Some, None, arith}
use Rattle.std.specs.Prelude.{◌==◌, count_by}
use Rattle.std.proofs.lemmas.Bool.{cases_lt, ne_eqb}
use Rattle.wl_level.specs.declared.Level.{Level}
use Rattle.wl_level.specs.declared.Level.TheVariants.{Recessive}
use Rattle.wl_level.specs.Levels.{level_of}
use Rattle.wl_confine.specs.declared.Happened.{Happened}
use Rattle.wl_confine.specs.Counts.{counts_of, no_counts}
use Rattle.wl_sync.specs.declared.Seen.{Seen}
use Rattle.wl_topology.specs.Driven.{driven}
use Rattle.wl_topology.proofs.Callers.{any_same}
use Rattle.wl_frame.specs.Grammar.{Content}
use Rattle.wl_frame.specs.Stuffing.{destuffed_bits}
use Rattle.wl_frame.proofs.Callers.{length_more}
use Rattle.wl_machine.specs.Stretch.{Sampled, Stretch}
use Rattle.wl_machine.specs.Stretch.Ended.{NoFrame}
use Rattle.wl_machine.specs.Stretch.Input.{Sample as Given}
use Rattle.wl_machine.specs.Stretch.Sort.{Framing}
use Rattle.wl_machine.specs.Frames.{frame_role, stuffed_end}
use Rattle.wl_machine.specs.Judged.{awaits_start, judged, stretch_after, stretch_of}
use Rattle.wl_machine.specs.States.{stretch_by}
use Rattle.wl_node.specs.declared.setup.NodeSetup.{NodeSetup}
use Rattle.wl_node.specs.History.{History, sampled_next}
use Rattle.wl_phase.specs.Clocks.{steady_tick}
use Rattle.wl_phase.specs.Ways.{ByTheBook, WayLaws}
use Rattle.wl_wire.specs.InStep.{is_fine}
use Rattle.wl_wire.specs.Wire.{sampled}
use Rattle.wl_buses.specs.OneFrame.Clocked.{BitIs}
use Rattle.wl_buses.specs.OneFrame.Course.{bus_bit}
use Rattle.wl_buses.specs.OneFrame.Expected.{HasSampled, IsOutset, Outset, SeesExpected, expected_bits, expected_drove, expected_sample, past_at, wants}
use Rattle.wl_buses.specs.OneFrame.Machines.{AreMachines, HasWon, bus_levels}
use Rattle.wl_buses.specs.OneFrame.Nodes.{IsInBit, IsRun, clock_sees}
use Rattle.wl_buses.specs.OneFrame.Starts.{Start}
use Rattle.wl_buses.specs.OneFrame.Stations.{AreStations, HaveRoom, Stations}
use Rattle.wl_buses.proofs.OneFrame.Expecting.{after_there, drives_are}
use Rattle.wl_buses.proofs.OneFrame.Machines.{goes, levels_length}
use Rattle.wl_buses.proofs.OneFrame.Nodes.{has_expected}
use Rattle.wl_buses.proofs.OneFrame.Seeing.{right_at}
use Rattle.wl_buses.proofs.OneFrame.TakenOn.{TakesOn}
use Rattle.wl_buses.specs.FrameEnd.Finds.{FindsTheEnd}
use Rattle.wl_buses.specs.FrameEnd.Asked.{EndAsAsked, begun_frame}
use Rattle.wl_buses.specs.FrameEnd.Clocks.{SeesEnd}
use Rattle.wl_buses.specs.FrameEnd.Ends.{GoesToEnd, end_bit, end_frame, end_levels, end_stretch}
use Rattle.wl_buses.specs.FrameEnd.Rests.{passing_bit}
use Rattle.wl_buses.proofs.FrameEnd.Below.{MachineLaws}
use Rattle.wl_buses.proofs.FrameEnd.Placing.{begins_after, found_was, samples_up}
use Rattle.wl_buses.specs.NextFrames.NextNodes.{GoesThrough}
use Rattle.wl_buses.proofs.FrameEnd.Sampling as sampling
use Rattle.wl_buses.proofs.PassedFrames.Between as between
use Rattle.wl_buses.proofs.PassedFrames.Judging.{ends_none, takes_stuffed, takes_third}
use Rattle.wl_buses.proofs.PassedFrames.Quanta.{IsCalm}
use Rattle.wl_buses.proofs.PassedFrames.Samples as samples

module _ (m : MachineLaws) (ways : WayLaws) (s : Stations) (are : AreStations s) (room : HaveRoom s) (o : Outset) (is : IsOutset s o) (end : ℕ) (some : 0 < end)
    (valid : (n : ℕ) → n < end → stuffed_end (bus_levels s (expected_bits s o) n) ≡ None)
    (over : stuffed_end (bus_levels s (expected_bits s o) end) ≡ Some end) (won : HasWon s (expected_bits s o) o.frames end)
    (asked : EndAsAsked s o end won.station won.frame) (i : ℕ) (inside : i < s.count) (hears : FindsTheEnd s o end i) where
  abbrev bits : ℕ → Start
  bits = expected_bits s o

  abbrev bus : ℕ → Bool
  bus = bus_bit s bits

  abbrev own : List Level
  own = bus_levels s bits end

  abbrev head : Option Content
  head = begun_frame s o end i

  abbrev S : ℕ → ℕ
  S n = expected_sample s o n i

  abbrev X : ℕ → Stretch
  X n = stretch_of (past_at s o n i)

  abbrev pub Early : Type 0
  Early = (n : ℕ) (seen : ℕ → Seen) → suc n < end → SeesExpected s o end i seen n → HasSampled s o i seen n
      → BitIs (s.lengths i) seen (S n) ((bits (suc n)).place i) ((bits (suc n)).from i) (level_of (bus (suc n)))

  abbrev pub Late : Type 0
  Late = (place n : ℕ) (seen : ℕ → Seen) → place ≤ 12 → end + place ≡ suc n → SeesEnd s o end i seen n → HasSampled s o i seen n
      → BitIs (s.lengths i) seen (S n) ((bits (suc n)).place i) ((bits (suc n)).from i) (level_of (bus (suc n)))

  abbrev pub Ends : Type 0
  Ends = (place : ℕ) (z : Sampled) → place < 12 → z.level ≡ level_of (end_bit place) → GoesToEnd head own place z

  machines : AreMachines s bits (expected_drove s o end) o.frames (past_at s o) end
  machines = record {
    earlier = is.earlier;
    handed = o.handed;
    reached = is.reached;
    begin = is.may;
    joins = is.joins;
    drives = λ n k less lt. drives_are m.steps m.errors m.winner m.stuffed m.six m.ten s are room o is n k;
    samples = λ n k less lt. ap (λ b. past_at s o n k ++ Given (sampled (level_of b) (o.frames k) (o.handed n k)) ∷ [])
        (any_same s.count (wants s o n) (bits n).drives (λ j there. sym (drives_are m.steps m.errors m.winner m.stuffed m.six m.ten s are room o is n j))
        ∙ sym (right_at m.steps m.errors m.winner m.stuffed m.six m.ten m.driven s are room o is end valid n k less lt));
  }

  -- it is in the frame
  pub framing_at : (n : ℕ) → n < end → (c : Option Content) × (X (suc n) ≡ stretch_by (Framing c) (bus_levels s bits (suc n)))
  framing_at n less =
      (goes m.steps m.errors m.winner m.stuffed m.six m.ten s bits (expected_drove s o end) o.frames (past_at s o) end is.frames machines is.some n less
      (λ k lt j below. right_at m.steps m.errors m.winner m.stuffed m.six m.ten m.driven s are room o is end valid j k (omega arith) lt) (valid n less)).framing i inside
      (λ j below. right_at m.steps m.errors m.winner m.stuffed m.six m.ten m.driven s are room o is end valid j i (omega arith) inside)

  -- its samples come one after another
  inner : (n : ℕ) → n < end + 12 → (S 0 ≤ S n) × (S (suc n) ≤ S (end + 12))
  inner n less = (
    samples_up m s are room o is end valid over won 0 n i inside (omega arith),
    samples_up m s are room o is end valid over won (suc n) (end + 12) i inside less,
  )

  module _ (setup : NodeSetup) (segments : setup.segments ≡ s.lengths i) (levels : ℕ → Level) (node : ℕ → History) (run : IsRun setup levels node) (since low : ℕ) (by_low : low ≤ S 0)
      (finds : (q : ℕ) → low < q → q ≤ S (end + 12) → levels q ≡ level_of (driven s.count s.delay (expected_drove s o (end + 13)) i (steady_tick (s.clocks i) q)))
      (early : Early) (late : Late) (ends : Ends) (x : GoesThrough s o end won.station i won.frame setup levels node since) where
    abbrev sees : ℕ → Seen
    sees = clock_sees levels node

    book : ByTheBook (s.lengths i)
    book = are.line.book i inside

    pub in_bit : (n : ℕ) → n < end + 12 → IsInBit s o i levels node n
    in_bit zero less = x.begins.bit
    in_bit (suc n) less = (x.next n less).bit

    pub clock_at : (n : ℕ) → n ≤ end + 12 → HasSampled s o i sees n
    clock_at n less = elim (cases_lt n (end + 12)) [
      | inl before ↦ (in_bit n before).clock
      | inr from ↦ (let e : end + 12 ≡ n = omega arith in subst (HasSampled s o i sees) e x.ends.rests.clock)
    ]

    pub counts_at : (n : ℕ) → n ≤ end + 12 → counts_of (node (suc (S n))).happened ≡ no_counts
    counts_at n less = elim (cases_lt n (end + 12)) [
      | inl before ↦ (in_bit n before).counts
      | inr from ↦ (let e : end + 12 ≡ n = omega arith in subst (λ k. counts_of (node (suc (S k))).happened ≡ no_counts) e x.ends.rests.counts)
    ]

    pub level_at : (n : ℕ) → n ≤ end + 12 → levels (S n) ≡ level_of (bus n)
    level_at n less = samples.level_there setup levels node run (s.lengths i) segments ways book (S n) (level_of (bus n)) (clock_at n less).sampled

    abbrev given : ℕ → Sampled
    given n = sampled_next setup (node (S n)) (levels (S n))

    -- from one bit to the next one
    pub record Goes (n : ℕ) : Type 0 where
      pub longer : S n < S (suc n)
      pub count : (p : Happened → Bool) → IsCalm p → count_by p (node (suc (S (suc n)))).happened ≡ count_by p (node (suc (S n))).happened
      pub until : (node (S (suc n))).frames ≡ (node (suc (S n))).frames
      pub frames : suc n ≢ passing_bit end i won.station → (node (suc (S (suc n)))).frames ≡ (node (suc (S n))).frames

    goes_by : (n : ℕ) → n < end + 12 → S n < S (suc n) → samples.NoneSamples (s.lengths i) sees (S n) (S (suc n))
        → (stretch_of (node (suc (S (suc n)))).inputs ≡ stretch_after (X (suc n)) (Given (given (suc n)))
        → (is_fine (judged (X (suc n)) (given (suc n))).happened ≡ true) × (suc n ≢ passing_bit end i won.station → (judged (X (suc n)) (given (suc n))).ended ≡ NoFrame)) → Goes n
    goes_by n less longer none found =
        let at = in_bit n less in
        let next = (clock_at (suc n) (omega arith)).sampled in
        let y = found (samples.stretch_then setup levels node run (s.lengths i) segments (S n) (S (suc n)) longer none (level_of (bus (suc n))) next (X (suc n)) at.stretch
        (counts_at n (omega arith)) (counts_at (suc n) (omega arith))) in
        record {
          longer = longer;
          count = λ p calm. samples.count_stays setup levels node run (s.lengths i) segments (S n) (S (suc n)) longer none (level_of (bus (suc n))) next (X (suc n)) at.stretch p
              (calm (judged (X (suc n)) (given (suc n))).happened y.0);
          until = (samples.stays setup levels node run (s.lengths i) segments (S n) (S (suc n)) longer none).frames;
          frames = λ other. samples.frames_stay setup levels node run (s.lengths i) segments (S n) (S (suc n)) longer none (level_of (bus (suc n))) next (X (suc n)) at.stretch (y.1 other);
        }

    -- in the stuffed part
    module _ (n : ℕ) (less : suc n < end) where
      at : IsInBit s o i levels node n
      at = in_bit n (omega arith)

      begins : S n < (bits (suc n)).from i
      begins = after_there m.steps m.errors m.winner m.stuffed m.six m.ten s are room o is end valid n i (omega arith) inside

      abbrev expects : ℕ → Seen
      expects = between.expects setup levels node run s o i n segments at begins

      no_start : awaits_start (X (suc n)) ≡ false
      no_start =
          let f = framing_at n (omega arith) in
          ap awaits_start f.1 ∙ ne_eqb (length (bus_levels s bits (suc n))) 0 (λ e. (let l = levels_length s bits (suc n) in omega (arith, e)))

      finds_early : (q : ℕ) → S n < q → q ≤ S (suc n) → levels q ≡ level_of (driven s.count s.delay (expected_drove s o end) i (steady_tick (s.clocks i) q))
      finds_early q a b =
          (let within = inner n (omega arith) in
          let low = within.0 in
          let high = within.1 in
          let stuffed = samples_up m s are room o is end valid over won (suc n) end i inside (omega arith) in
          finds q (omega arith) (omega arith) ∙ ap level_of (found_was m s are room o is end valid over won i inside hears.later q (omega arith)))

      sees_early : SeesExpected s o end i expects n
      sees_early = record {
        level = λ q a b. ap (λ y. y.level) (between.expects_there setup levels node run s o i n segments at begins q a) ∙ finds_early q a b;
        awaits = λ q a b. ap (λ y. y.awaits) (between.expects_there setup levels node run s o i n segments at begins q a) ∙ no_start;
        before = λ q a b. ap (λ y. y.driving) (between.expects_there setup levels node run s o i n segments at begins q a) ∙ sampling.before_start setup levels node run s o i n segments at begins q b;
        after = λ q a b. (let h = begins in
            ap (λ y. y.driving) (between.expects_there setup levels node run s o i n segments at begins q (omega arith)) ∙ sampling.after_start setup levels node run s o i n segments at begins q a);
      }

      bit : BitIs (s.lengths i) expects (S n) ((bits (suc n)).place i) ((bits (suc n)).from i) (level_of (bus (suc n)))
      bit = early n expects less sees_early (has_expected setup levels node run s o i n segments at begins)

      longer : S n < S (suc n)
      longer = let place = bit.samples.place in omega arith

      takes : stretch_of (node (suc (S (suc n)))).inputs ≡ stretch_after (X (suc n)) (Given (given (suc n))) → TakesOn (judged (X (suc n)) (given (suc n)))
      takes after =
          let f = framing_at n (omega arith) in
          let g = framing_at (suc n) less in
          takes_stuffed (X (suc n)) (given (suc n)) f.0 g.0 (bus_levels s bits (suc n)) f.1 (valid (suc n) less)
          (ap (λ y. y.sort) (sym after ∙ (in_bit (suc n) (omega arith)).stretch ∙ g.1))

      pub goes_early : Goes n
      goes_early =
          goes_by n (omega arith) longer (between.none_between setup levels node run s o i n segments at begins (level_of (bus (suc n))) bit longer)
          (λ after. (let t = takes after in (ap is_fine t.happened, λ other. t.ended)))

    -- and after it
    module _ (place n : ℕ) (small : place ≤ 12) (there : end + place ≡ suc n) where
      at_end : IsInBit s o i levels node n
      at_end = in_bit n (omega arith)

      begins_end : S n < (bits (suc n)).from i
      begins_end = begins_after m s are room o is end valid over won i inside hears.later place n small there

      abbrev expects_end : ℕ → Seen
      expects_end = between.expects setup levels node run s o i n segments at_end begins_end

      X_is : X (suc n) ≡ end_stretch head own place
      X_is = ap (λ k. X k) (sym there) ∙ asked.stretch place i small inside

      no_start_end : n ≡ end → awaits_start (X (suc n)) ≡ false
      no_start_end slot =
          let one : place ≡ 1 = omega (arith, there, slot) in
          ap awaits_start (X_is ∙ ap (end_stretch head own) one) ∙ ne_eqb (length (own ++ end_levels 1)) 0 (λ e. (let l = length_more own Recessive in omega (arith, e)))

      sees_late : SeesEnd s o end i expects_end n
      sees_late = record {
        level = λ q a b. (let within = inner n (omega arith) in
            let low = within.0 in
            let high = within.1 in
            ap (λ y. y.level) (between.expects_there setup levels node run s o i n segments at_end begins_end q a) ∙ finds q (omega arith) (omega arith));
        awaits = λ q slot a b. ap (λ y. y.awaits) (between.expects_there setup levels node run s o i n segments at_end begins_end q a) ∙ no_start_end slot;
        before = λ q slot a b. ap (λ y. y.driving) (between.expects_there setup levels node run s o i n segments at_end begins_end q a)
            ∙ sampling.before_start setup levels node run s o i n segments at_end begins_end q b;
        after = λ q slot a b. (let h = begins_end in
            ap (λ y. y.driving) (between.expects_there setup levels node run s o i n segments at_end begins_end q (omega arith))
            ∙ sampling.after_start setup levels node run s o i n segments at_end begins_end q a);
      }

      bit_end : BitIs (s.lengths i) expects_end (S n) ((bits (suc n)).place i) ((bits (suc n)).from i) (level_of (bus (suc n)))
      bit_end = late place n expects_end small there sees_late (has_expected setup levels node run s o i n segments at_end begins_end)

      longer_end : S n < S (suc n)
      longer_end = let p = bit_end.samples.place in omega arith

      level_end : levels (S (suc n)) ≡ level_of (end_bit place)
      level_end = level_at (suc n) (omega arith) ∙ ap (λ k. level_of (bus k)) (sym there) ∙ ap level_of (asked.bus place small)

      abbrev Finds : Type 0
      Finds = (is_fine (judged (X (suc n)) (given (suc n))).happened ≡ true) × (suc n ≢ passing_bit end i won.station → (judged (X (suc n)) (given (suc n))).ended ≡ NoFrame)

      finds_end : place < 12 → Finds
      finds_end below =
          let g = ends place (given (suc n)) below level_end in (
            ap (λ y. is_fine (judged y (given (suc n))).happened) X_is ∙ g.fine,
            λ other. ap (λ y. (judged y (given (suc n))).ended) X_is ∙ g.ended
                ∙ ap (λ r. end_frame r head (destuffed_bits own (length own)) place) (asked.role i inside)
                ∙ ends_none (i == won.station) head (destuffed_bits own (length own)) place (λ e. other (sym there ∙ ap (λ k. end + k) e)),
          )

      finds_third : place ≡ 12 → Finds
      finds_third last =
          let e : X (suc n) ≡ end_stretch head own 12 = X_is ∙ ap (end_stretch head own) last in
          let t = takes_third (frame_role head own) (given (suc n)) (level_end ∙ ap (λ k. level_of (end_bit k)) last) in
          (ap (λ y. is_fine (judged y (given (suc n))).happened) e ∙ ap is_fine t.happened, λ other. ap (λ y. (judged y (given (suc n))).ended) e ∙ t.ended)

      pub goes_late : Goes n
      goes_late =
          goes_by n (omega arith) longer_end (between.none_between setup levels node run s o i n segments at_end begins_end (level_of (bus (suc n))) bit_end longer_end)
          (λ after. elim (cases_lt place 12) [ inl below ↦ finds_end below | inr third ↦ finds_third (omega (arith, third, small)) ])

    pub goes_at : (n : ℕ) → n < end + 12 → Goes n
    goes_at n less = elim (cases_lt (suc n) end) [
      | inl inner ↦ goes_early n inner
      | inr outer ↦ goes_late (suc n - end) n (omega arith) (omega arith)
    ]
