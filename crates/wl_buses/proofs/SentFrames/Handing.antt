-- A node hands its frames by its queue, as they are counted.
use Rattle.std.proofs.Common.{◌≡◌, ◌∙◌, sym, ap, subst, ℕ, zero, suc, ◌+◌, ◌<◌, ◌≤◌, List, [], ◌∷◌, ◌++◌, arith}
use Rattle.std.specs.Prelude.{slice_get}
use Rattle.wl_level.specs.declared.Level.{Level}
use Rattle.wl_level.specs.declared.Level.TheVariants.{Recessive}
use Rattle.wl_level.specs.Levels.{level_of}
use Rattle.wl_confine.specs.Counts.{no_counts}
use Rattle.wl_confine.specs.declared.Mode.TheVariants.{Active}
use Rattle.wl_segments.specs.Lengths.{sample_at}
use Rattle.wl_topology.specs.Driven.{driven}
use Rattle.wl_machine.specs.Stretch.{Input}
use Rattle.wl_machine.specs.Stretch.Input.{Sample}
use Rattle.wl_node.specs.declared.setup.NodeSetup.{NodeSetup}
use Rattle.wl_node.specs.declared.setup.Passed.{Passed}
use Rattle.wl_node.specs.History.{History, counters_of, error_count, unsent_of}
use Rattle.wl_phase.specs.Clocks.{steady_tick}
use Rattle.wl_wire.specs.Wire.{Handed, sampled}
use Rattle.wl_buses.specs.OneFrame.Expected.{IsOutset, Outset, expected_bits, expected_drove, expected_sample, past_at}
use Rattle.wl_buses.specs.OneFrame.Lines.{BeginsAfter}
use Rattle.wl_buses.specs.OneFrame.Machines.{HasWon}
use Rattle.wl_buses.specs.OneFrame.Nodes.{IsRun}
use Rattle.wl_buses.specs.OneFrame.Stations.{AreOnALine, AreStations, HaveRoom, Stations}
use Rattle.wl_buses.specs.FirstFrame.Faults.{fault_count}
use Rattle.wl_buses.specs.FrameEnd.Again.{RestsAgain}
use Rattle.wl_buses.specs.FrameEnd.Asked.{CanBeAnswered, EndsBefore}
use Rattle.wl_buses.specs.FrameEnd.Rests.{passed_frame, waiting_frame}
use Rattle.wl_buses.proofs.FrameEnd.Below.{MachineLaws}
use Rattle.wl_buses.specs.NextFrames.Frames.{FollowOneAnother, Frame, IsBegun, frames_drove, frames_in_order, resting_of, third_sample}
use Rattle.wl_buses.specs.NextFrames.NextNodes.{HandsNext}
use Rattle.wl_buses.specs.NextFrames.NextStarts.{AreFreeNext, AreResting, Resting, rest_next, rested, start_next}
use Rattle.wl_buses.specs.NextFrames.Runs.{GoesThroughOne}
use Rattle.wl_buses.proofs.NextFrames.Chaining.{FreeLaw, GoesOn, RestsLaw, ThroughLaw, WaitLaw, finds_alone, goes_first, goes_on}
use Rattle.wl_buses.proofs.NextFrames.Windows.{NothingFound, RestAfter, resting}
use Rattle.wl_buses.proofs.NextFrames.Queueing.{hands_one}
use Rattle.wl_buses.specs.PassedFrames.Passing.{PassesOne}
use Rattle.wl_buses.specs.SentFrames.Sending.{ByQueues, PassesAll}
use Rattle.wl_buses.specs.SentFrames.Winners.{passed_with}
use Rattle.wl_buses.specs.BothProofs.Queues.{head_at, unsent_after}
use Rattle.wl_buses.specs.NextFrames.Queues.{DecidesByQueue}

-- the laws that this rests on
abbrev pub PassLaw : Type 0
PassLaw = (s : Stations) (o : Outset) (end : ℕ) (chase : ℕ → ℕ) → AreStations s → HaveRoom s → IsOutset s o → 0 < end → EndsBefore s o end
    → (won : HasWon s (expected_bits s o) o.frames end) → CanBeAnswered s won.station chase
    → (i rest since : ℕ) (setup : NodeSetup) (levels : ℕ → Level) (node : ℕ → History) → i < s.count → setup.segments ≡ s.lengths i → IsRun setup levels node → BeginsAfter s o i rest
    → RestsAgain s (o.past i) i levels node rest since → since ≤ rest + sample_at (s.lengths i)
    → ((q : ℕ) → rest + sample_at (s.lengths i) < q → q ≤ expected_sample s o (end + 12) i
    → levels q ≡ level_of (driven s.count s.delay (expected_drove s o (end + 13)) i (steady_tick (s.clocks i) q)))
    → PassesOne s o end won.station i rest won.frame node

abbrev pub WaitFine : Type 0
WaitFine = (r : Resting) (before : ℕ → List Input) → AreOnALine r.stations → AreResting r → AreFreeNext r.stations.count r.frames before → (i : ℕ) → i < r.stations.count
    → (setup : NodeSetup) → setup.segments ≡ r.stations.lengths i → (levels : ℕ → Level) (node : ℕ → History) → IsRun setup levels node → (handed : Handed) → handed.mode ≡ Active → (since : ℕ)
    → since ≤ rested r i → RestsAgain r.stations (before i ++ Sample (sampled Recessive (r.frames i) handed) ∷ []) i levels node (r.place i) since
    → ((q : ℕ) → rested r i < q → q < (start_next r).from i → levels q ≡ Recessive)
    → HandsNext r i (slice_get (r.frames i) handed.which) (head_at setup (unsent_of setup (node (suc (rested r i)))))
    → (error_count (node (suc (rest_next r i + sample_at (r.stations.lengths i)))) ≡ error_count (node (suc (rested r i))))
    × (fault_count (node (suc (rest_next r i + sample_at (r.stations.lengths i)))) ≡ fault_count (node (suc (rested r i))))

abbrev pub FoundLaw : Type 0
FoundLaw = (h : History) → fault_count h ≡ 0 → (error_count h ≡ 0) × (counters_of h ≡ no_counts)

module _ (m : MachineLaws) (nothing : NothingFound) (rest_after : RestAfter) (rests : RestsLaw) (free : FreeLaw) (wait : WaitLaw) (through : ThroughLaw) (pass : PassLaw)
    (wait_fine : WaitFine) (found : FoundLaw) (s : Stations) (are : AreStations s) (room : HaveRoom s) (setups : ℕ → NodeSetup) (fs : ℕ → Frame) (count : ℕ) (frames : FollowOneAnother s fs count)
    (by : ByQueues s setups fs count frames) (i : ℕ) (inside : i < s.count) (segments : (setups i).segments ≡ s.lengths i) (levels : ℕ → Level) (node : ℕ → History)
    (run : IsRun (setups i) levels node)
    (finds : (n q : ℕ) → n < count → q ≤ third_sample s (fs n) i → levels q ≡ level_of (driven s.count s.delay (frames_drove s fs count) i (steady_tick (s.clocks i) q)))
    (first_rest first_since : ℕ) (begins : BeginsAfter s (fs 0).outset i first_rest) (first : RestsAgain s ((fs 0).outset.past i) i levels node first_rest first_since)
    (early : first_since ≤ first_rest + sample_at (s.lengths i)) (none : (node (suc (first_rest + sample_at (s.lengths i)))).frames ≡ [])
    (fine : fault_count (node (suc (first_rest + sample_at (s.lengths i)))) ≡ 0) where
  abbrev T : ℕ → ℕ
  T n = third_sample s (fs n) i

  abbrev S : ℕ
  S = sample_at (s.lengths i)

  abbrev all : ℕ → List Passed
  all n = passed_with s fs by.winner by.content i n

  -- after a frame
  record Stage (n : ℕ) (less : n < count) : Type 0 where
    goes : GoesThroughOne s fs count frames i first_since (setups i) levels node n less
    third : (node (T n)).frames ≡ all (suc n)
    passed : (node (suc (T n))).frames ≡ all (suc n)
    clean : fault_count (node (suc (T n))) ≡ 0

  stage : (n : ℕ) (less : n < count) (rest since : ℕ) → BeginsAfter s (fs n).outset i rest → RestsAgain s ((fs n).outset.past i) i levels node rest since → since ≤ rest + S
      → ((j : ℕ) → suc j ≡ n → T j ≤ rest + S) → GoesThroughOne s fs count frames i first_since (setups i) levels node n less → (node (suc (rest + S))).frames ≡ all n → fault_count (node (suc (rest + S))) ≡ 0 → Stage n less
  stage n less rest since after at by_then last goes frames_before fine_before =
      let f : IsBegun s (fs n) = frames.each n less in
      let p : PassesOne s (fs n).outset (fs n).bits (frames.each n less).won.station i rest (frames.each n less).won.frame node =
      pass s (fs n).outset (fs n).bits f.chase are room f.outset f.some f.ends f.won f.answer i rest since (setups i) levels node inside segments run after at by_then
      (λ q more up. finds_alone m nothing rest_after rests free wait through s are room fs count frames i inside (setups i) segments levels node run finds first_rest first_since begins first early
      n q less (λ j e. (let low = last j e in omega arith)) up) in
      let now : (node (suc (T n))).frames ≡ all (suc n) =
      p.frames ∙ ap (λ x. x ++ passed_frame s (fs n).outset (fs n).bits i (frames.each n less).won.station (frames.each n less).won.frame ∷ []) frames_before
      ∙ ap (λ w. all n ++ passed_frame s (fs n).outset (fs n).bits i w (frames.each n less).won.frame ∷ []) (by.wins n less)
      ∙ ap (λ c. all n ++ passed_frame s (fs n).outset (fs n).bits i (by.winner n) c ∷ []) (by.wins_with n less) in
      record { goes = goes; third = p.before ∙ now; passed = now; clean = p.faults ∙ fine_before }

  -- what it is handed after a frame
  hand : (n : ℕ) (less : suc n < count) → Stage n (omega arith)
      → HandsNext (resting_of s (fs n) (fs (suc n)) (frames.next n less)) i (waiting_frame (setups i) (node (T n))) (head_at (setups i) (unsent_of (setups i) (node (suc (T n)))))
  hand n less x =
      hands_one s fs count frames i (setups i) levels node run (omega arith) n less
      (subst (DecidesByQueue (resting_of s (fs n) (fs (suc n)) (frames.next n less)) i (setups i)) (sym (ap (unsent_after (setups i)) x.third)) (by.queues i n less inside))
      (ap (unsent_after (setups i)) x.passed ∙ sym (ap (unsent_after (setups i)) x.third))

  goes_over : (n : ℕ) (less : suc n < count) → Stage n (omega arith) → GoesOn s fs count (frames_in_order s fs count frames) i first_since (setups i) levels node n less
  goes_over n less x =
      goes_on m nothing rest_after rests free wait through s are room fs count frames i inside (setups i) segments levels node run finds first_rest first_since begins first early n less x.goes
      (hand n less x)

  step : (n : ℕ) (less : suc n < count) → Stage n (omega arith) → Stage (suc n) less
  step n less x =
      let f : IsBegun s (fs n) = frames.each n (omega arith) in
      let g : GoesOn s fs count (frames_in_order s fs count frames) i first_since (setups i) levels node n less = goes_over n less x in
      let r : Resting = resting_of s (fs n) (fs (suc n)) (frames.next n less) in
      let clean_then =
      wait_fine (resting_of s (fs n) (fs (suc n)) (frames.next n less)) (past_at s (fs n).outset ((fs n).bits + 12)) are.line
      (resting m nothing rest_after s are room fs count frames n less) (free s (fs n).outset (fs n).bits are room f.outset f.ends f.won) i inside (setups i) segments levels node run g.handed
      g.active g.since g.early g.rests g.silent g.hands in
      stage (suc n) less (rest_next (resting_of s (fs n) (fs (suc n)) (frames.next n less)) i) (T n) g.begins g.again (omega arith)
      (λ j e. (let same : j ≡ n = omega (arith, e) in let h : T j ≡ T n = ap T same in omega arith)) g.goes (g.same ∙ x.passed) (clean_then.1 ∙ x.clean)

  stages : (n : ℕ) (less : n < count) → Stage n less
  stages zero less =
      stage 0 less first_rest first_since begins first early (λ j e. absurd (omega (arith, e)))
      (goes_first m nothing rest_after rests free wait through s are room fs count frames i inside (setups i) segments levels node run finds first_rest first_since begins first early less) none fine
  stages (suc n) less = step n less (stages n (omega arith))

  pub all_passed : PassesAll s setups fs count frames by i node
  all_passed = record {
    hands = λ n less. hand n less (stages n (omega arith));
    third = λ n less. (stages n less).third;
    passed = λ n less. (stages n less).passed;
    fine = λ n less. (found (node (suc (T n))) (stages n less).clean).0;
    faults = λ n less. (stages n less).clean;
  }

-- as a law
abbrev pub HandLaw : Type 0
HandLaw = (s : Stations) (setups : ℕ → NodeSetup) (frames : ℕ → Frame) (count : ℕ) → AreStations s → HaveRoom s → (are : FollowOneAnother s frames count) → (by : ByQueues s setups frames count are)
    → (i : ℕ) → i < s.count → (setups i).segments ≡ s.lengths i → (levels : ℕ → Level) (node : ℕ → History) → IsRun (setups i) levels node
    → ((n q : ℕ) → n < count → q ≤ third_sample s (frames n) i → levels q ≡ level_of (driven s.count s.delay (frames_drove s frames count) i (steady_tick (s.clocks i) q)))
    → (rest since : ℕ) → BeginsAfter s (frames 0).outset i rest → RestsAgain s ((frames 0).outset.past i) i levels node rest since → since ≤ rest + sample_at (s.lengths i)
    → (node (suc (rest + sample_at (s.lengths i)))).frames ≡ [] → fault_count (node (suc (rest + sample_at (s.lengths i)))) ≡ 0 → PassesAll s setups frames count are by i node
