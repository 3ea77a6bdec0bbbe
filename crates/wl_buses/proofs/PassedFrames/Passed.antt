-- One frame passes a node that goes through it, and nothing else.
use Rattle.std.proofs.Common.{◌≡◌, ◌∙◌, inl, inr, sym, ap, ℕ, zero, suc, ◌+◌, ◌-◌, ◌<◌, ◌≤◌, cond, Bool, true, false, List, [], ◌∷◌, ◌++◌, Option, Some, None, arith}
use Rattle.std.specs.Prelude.{◌==◌, count_by}
use Rattle.wl_level.specs.declared.Level.{Level}
use Rattle.wl_level.specs.declared.Level.TheVariants.{Recessive}
use Rattle.wl_level.specs.Levels.{level_of}
use Rattle.wl_confine.specs.declared.Happened.{Happened}
use Rattle.wl_confine.specs.Counts.{is_error}
use Rattle.wl_segments.specs.Lengths.{sample_at}
use Rattle.wl_sync.specs.declared.Seen.{Seen}
use Rattle.wl_topology.specs.Driven.{driven}
use Rattle.wl_frame.specs.Grammar.{Content}
use Rattle.wl_machine.specs.Stretch.{Sampled, Stretch}
use Rattle.wl_machine.specs.Stretch.Sort.{Framing}
use Rattle.wl_machine.specs.Stretch.Input.{Sample as Given}
use Rattle.wl_machine.specs.Frames.{stuffed_end}
use Rattle.wl_machine.specs.Judged.{judged, stretch_after, stretch_of}
use Rattle.wl_node.specs.declared.setup.NodeSetup.{NodeSetup}
use Rattle.wl_node.specs.declared.setup.Passed.{Passed}
use Rattle.wl_node.specs.History.{History, sampled_next}
use Rattle.wl_phase.specs.Clocks.{steady_tick}
use Rattle.wl_phase.specs.Ways.{ByTheBook, WayLaws}
use Rattle.wl_wire.specs.InStep.{is_fine}
use Rattle.wl_buses.specs.OneFrame.Clocked.{NoEdgeLaws}
use Rattle.wl_buses.specs.OneFrame.Course.{bus_bit}
use Rattle.wl_buses.specs.OneFrame.Expected.{IsOutset, Outset, expected_bits, expected_drove, expected_sample}
use Rattle.wl_buses.specs.OneFrame.Lines.{BeginsAfter}
use Rattle.wl_buses.specs.OneFrame.Machines.{HasWon, MayBeginOrJoin, bus_levels}
use Rattle.wl_buses.specs.OneFrame.Nodes.{IsRun, clock_sees}
use Rattle.wl_buses.specs.OneFrame.Starts.{Drives, reaches_at}
use Rattle.wl_buses.specs.OneFrame.Stations.{AreStations, HaveRoom, Stations}
use Rattle.wl_buses.proofs.OneFrame.Expecting.{from_sample}
use Rattle.wl_buses.proofs.OneFrame.TakenOn.{TakesOn}
use Rattle.wl_buses.specs.FirstFrame.Faults.{is_fault}
use Rattle.wl_buses.specs.FrameEnd.Finds.{FindsTheEnd}
use Rattle.wl_buses.specs.FrameEnd.Again.{RestsAgain}
use Rattle.wl_buses.specs.FrameEnd.Asked.{EndAsAsked}
use Rattle.wl_buses.specs.FrameEnd.Rests.{passed_frame, passing_bit}
use Rattle.wl_buses.proofs.FrameEnd.Below.{MachineLaws}
use Rattle.wl_buses.proofs.FrameEnd.Placing.{found_was, samples_up}
use Rattle.wl_buses.specs.NextFrames.NextNodes.{GoesThrough}
use Rattle.wl_buses.specs.PassedFrames.Passing.{PassesOne}
use Rattle.wl_buses.proofs.PassedFrames.Judging.{takes_idle, takes_stuffed}
use Rattle.wl_buses.proofs.PassedFrames.Quanta.{IsCalm, calm_error, calm_fault}
use Rattle.wl_buses.proofs.PassedFrames.Resting.{after_rest}
use Rattle.wl_buses.proofs.PassedFrames.Samples as samples
use Rattle.wl_buses.proofs.PassedFrames.Started.{none_first}
use Rattle.wl_buses.proofs.PassedFrames.Steps as steps

-- nothing is found before a frame
abbrev pub Nothing : Stations → Outset → (end i : ℕ) → Type 0
Nothing s o end i =
    (q : ℕ) → q ≤ o.start.from i → ((k : ℕ) → Drives s o.start i k → steady_tick (s.clocks i) q < reaches_at s o.start k i)
    → driven s.count s.delay (expected_drove s o end) i (steady_tick (s.clocks i) q) ≡ false

passing_place : (b : Bool) → (8 ≤ cond b 9 8) × (cond b 9 8 ≤ 9)
passing_place true = (omega arith, omega arith)
passing_place false = (omega arith, omega arith)

module _ (m : MachineLaws) (ways : WayLaws) (calm_clock : NoEdgeLaws) (s : Stations) (are : AreStations s) (room : HaveRoom s) (o : Outset) (is : IsOutset s o) (end : ℕ) (some : 0 < end)
    (valid : (n : ℕ) → n < end → stuffed_end (bus_levels s (expected_bits s o) n) ≡ None)
    (over : stuffed_end (bus_levels s (expected_bits s o) end) ≡ Some end) (won : HasWon s (expected_bits s o) o.frames end)
    (asked : EndAsAsked s o end won.station won.frame) (i : ℕ) (inside : i < s.count) (hears : FindsTheEnd s o end i)
    (setup : NodeSetup) (segments : setup.segments ≡ s.lengths i) (levels : ℕ → Level) (node : ℕ → History) (run : IsRun setup levels node) (since rest : ℕ)
    (after : BeginsAfter s o i rest) (rests : RestsAgain s (o.past i) i levels node rest since)
    (finds : (q : ℕ) → rest + sample_at (s.lengths i) < q → q ≤ expected_sample s o (end + 12) i
    → levels q ≡ level_of (driven s.count s.delay (expected_drove s o (end + 13)) i (steady_tick (s.clocks i) q)))
    (early : steps.Early m ways s are room o is end some valid over won asked i inside hears)
    (late : steps.Late m ways s are room o is end some valid over won asked i inside hears)
    (ends : steps.Ends m ways s are room o is end some valid over won asked i inside hears)
    (nothing : Nothing s o end i) (x : GoesThrough s o end won.station i won.frame setup levels node since) where
  abbrev R : ℕ
  R = rest + sample_at (s.lengths i)

  abbrev S : ℕ → ℕ
  S n = expected_sample s o n i

  abbrev sees : ℕ → Seen
  sees = clock_sees levels node

  abbrev first : Level
  first = level_of (bus_bit s (expected_bits s o) 0)

  abbrev X : Stretch
  X = stretch_of (o.past i)

  book : ByTheBook (s.lengths i)
  book = are.line.book i inside

  begins_later : R < o.start.from i
  begins_later = after_rest s o i rest book after (is.begin i inside)

  by_first : o.start.from i ≤ S 0
  by_first = from_sample m.steps m.errors m.winner m.stuffed m.six m.ten s are room o is end valid 0 i inside

  -- its start of frame
  silent : (q : ℕ) → R < q → q ≤ o.start.from i → ((k : ℕ) → Drives s o.start i k → steady_tick (s.clocks i) q < reaches_at s o.start k i) → levels q ≡ Recessive
  silent q more less unreached =
      let sample = by_first in
      let stuffed = samples_up m s are room o is end valid over won 0 end i inside (omega arith) in
      let third = samples_up m s are room o is end valid over won end (end + 12) i inside (omega arith) in
      finds q more (omega arith) ∙ ap level_of (found_was m s are room o is end valid over won i inside hears.later q (omega arith)) ∙ ap level_of (nothing q less unreached)

  none : samples.NoneSamples (s.lengths i) sees R (S 0)
  none = none_first ways calm_clock s are o i inside rest after sees Recessive first rests.sampled x.begins.bit.clock.sampled silent (is.begin i inside)

  longer : R < S 0
  longer = let a = begins_later in let b = by_first in omega arith

  abbrev given : Sampled
  given = sampled_next setup (node (S 0)) (levels (S 0))

  takes_by : MayBeginOrJoin o.frames i X → (next : Option Content) → (stretch_after X (Given given)).sort ≡ Framing next → TakesOn (judged X given)
  takes_by (inl (inl idle)) next e = takes_idle X given idle
  takes_by (inr two) next e = absurd (rests.over two)
  takes_by (inl (inr due)) next e = takes_stuffed X given (Some due.0) next [] due.2 (valid 0 some) e

  takes : TakesOn (judged X given)
  takes =
      let f = steps.framing_at m ways s are room o is end some valid over won asked i inside hears 0 some in
      let then = samples.stretch_then setup levels node run (s.lengths i) segments R (S 0) longer none first x.begins.bit.clock.sampled X rests.stretch rests.counts x.begins.bit.counts in
      takes_by (is.may i inside) f.0 (ap (λ y. y.sort) (sym then ∙ x.begins.bit.stretch ∙ f.1))

  frames_first : (node (suc (S 0))).frames ≡ (node (suc R)).frames
  frames_first = samples.frames_stay setup levels node run (s.lengths i) segments R (S 0) longer none first x.begins.bit.clock.sampled X rests.stretch takes.ended

  -- all bits
  by_low : R ≤ S 0
  by_low = let h = longer in omega arith

  goes_at : (n : ℕ) → n < end + 12
      → steps.Goes m ways s are room o is end some valid over won asked i inside hears setup segments levels node run since R by_low finds early late ends x n
  goes_at n less = steps.goes_at m ways s are room o is end some valid over won asked i inside hears setup segments levels node run since R by_low finds early late ends x n less

  count_at : (p : Happened → Bool) → IsCalm p → (n : ℕ) → n ≤ end + 12 → count_by p (node (suc (S n))).happened ≡ count_by p (node (suc R)).happened
  count_at p calm zero less =
      samples.count_stays setup levels node run (s.lengths i) segments R (S 0) longer none first x.begins.bit.clock.sampled X rests.stretch p
      (calm (judged X given).happened (ap is_fine takes.happened))
  count_at p calm (suc n) less = (goes_at n (omega arith)).count p calm ∙ count_at p calm n (omega arith)

  abbrev passing : ℕ
  passing = passing_bit end i won.station

  passing_low : end + 8 ≤ passing
  passing_low = let b = passing_place (i == won.station) in let low = b.0 in omega arith

  passing_high : passing ≤ end + 9
  passing_high = let b = passing_place (i == won.station) in let high = b.1 in omega arith

  abbrev old : List Passed
  old = (node (suc R)).frames

  abbrev all : List Passed
  all = old ++ passed_frame s o end i won.station won.frame ∷ []

  frames_before : (n : ℕ) → n < passing → (node (suc (S n))).frames ≡ old
  frames_before zero less = frames_first
  frames_before (suc n) less = (let high = passing_high in (goes_at n (omega arith)).frames (λ e. omega (arith, e)) ∙ frames_before n (omega arith))

  frames_there : (node (suc (S passing))).frames ≡ all
  frames_there =
      let low = passing_low in
      let high = passing_high in
      let e : suc (passing - 1) ≡ passing = omega arith in
      let until : (node (S passing)).frames ≡ old =
      ap (λ n. (node (S n)).frames) (sym e) ∙ (goes_at (passing - 1) (omega arith)).until ∙ frames_before (passing - 1) (omega arith) in
      x.ends.passes ∙ ap (λ f. f ++ passed_frame s o end i won.station won.frame ∷ []) until

  frames_after : (d : ℕ) → passing + d ≤ end + 12 → (node (suc (S (passing + d)))).frames ≡ all
  frames_after zero less = ap (λ n. (node (suc (S n))).frames) (let e : passing + 0 ≡ passing = omega arith in e) ∙ frames_there
  frames_after (suc d) less =
      (let e : passing + suc d ≡ suc (passing + d) = omega arith in
      ap (λ n. (node (suc (S n))).frames) e ∙ (goes_at (passing + d) (omega arith)).frames (λ f. omega (arith, f)) ∙ frames_after d (omega arith))

  frames_at : (n : ℕ) → passing ≤ n → n ≤ end + 12 → (node (suc (S n))).frames ≡ all
  frames_at n low high = (let e : n ≡ passing + (n - passing) = omega arith in ap (λ k. (node (suc (S k))).frames) e ∙ frames_after (n - passing) (omega arith))

  before_third : (node (S (end + 12))).frames ≡ all
  before_third =
      let high = passing_high in
      let e : end + 12 ≡ suc (end + 11) = omega arith in
      ap (λ k. (node (S k)).frames) e ∙ (goes_at (end + 11) (omega arith)).until ∙ frames_at (end + 11) (omega arith) (omega arith)

  pub passes_one : PassesOne s o end won.station i rest won.frame node
  passes_one =
      let high = passing_high in
      let there = frames_at (end + 12) (omega arith) (omega arith) in
      record {
        frames = there;
        before = before_third ∙ sym there;
        errors = count_at is_error calm_error (end + 12) (omega arith);
        faults = count_at is_fault calm_fault (end + 12) (omega arith);
      }
