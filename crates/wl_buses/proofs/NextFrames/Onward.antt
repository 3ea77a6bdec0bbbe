-- A node goes from frame to frame, if it finds the end of each and all rest between them.
use Rattle.std.proofs.Common.{◌≡◌, ◌∙◌, inl, inr, refl, sym, ap, subst, ℕ, zero, suc, ◌+◌, ◌<◌, ◌≤◌, List, [], ◌∷◌, ◌++◌, length, Option, arith}
use Rattle.std.specs.Prelude.{slice_get}
use Rattle.std.proofs.lemmas.Bool.{cases_Bool, cases_eq}
use Rattle.std.proofs.lemmas.Option.{slice_get_past}
use Rattle.wl_level.specs.declared.Level.{Level}
use Rattle.wl_level.specs.declared.Level.TheVariants.{Recessive}
use Rattle.wl_level.specs.Levels.{level_of}
use Rattle.wl_confine.specs.declared.Mode.TheVariants.{Active}
use Rattle.wl_segments.specs.Lengths.{sample_at}
use Rattle.wl_topology.specs.Driven.{driven}
use Rattle.wl_frame.specs.Grammar.{Content}
use Rattle.wl_machine.specs.Stretch.{Input}
use Rattle.wl_machine.specs.Stretch.Input.{Sample}
use Rattle.wl_node.specs.declared.setup.NodeSetup.{NodeSetup}
use Rattle.wl_node.specs.History.{History, unsent_of}
use Rattle.wl_phase.specs.Clocks.{steady_tick}
use Rattle.wl_wire.specs.Wire.{Handed, sampled}
use Rattle.wl_buses.specs.OneFrame.Expected.{IsOutset, Outset, expected_bits, expected_sample, past_at}
use Rattle.wl_buses.specs.OneFrame.Lines.{BeginsAfter}
use Rattle.wl_buses.specs.OneFrame.Machines.{HasWon}
use Rattle.wl_buses.specs.OneFrame.Nodes.{IsRun}
use Rattle.wl_buses.specs.OneFrame.Stations.{AreOnALine, AreStations, HaveRoom, Stations}
use Rattle.wl_buses.specs.FrameEnd.Again.{RestsAgain, past_end}
use Rattle.wl_buses.specs.FrameEnd.Asked.{EndsBefore}
use Rattle.wl_buses.specs.FrameEnd.Finds.{FindsTheEnd, finds_at}
use Rattle.wl_buses.specs.FrameEnd.Rests.{NodeEnds, waiting_frame}
use Rattle.wl_buses.proofs.FrameEnd.Below.{MachineLaws}
use Rattle.wl_buses.specs.NextFrames.Frames.{AreInOrder, IsBegunAfter, Frame, IsOneFrame, frame_drove, frames_drove, resting_of, third_sample}
use Rattle.wl_buses.specs.NextFrames.NextNodes.{GoesThrough, HandsNext, head_after}
use Rattle.wl_buses.specs.NextFrames.NextStarts.{AreFreeNext, AreResting, Resting, has_next, outset_next, rest_next, rested, start_next}
use Rattle.wl_buses.specs.NextFrames.Runs.{GoesThroughInOrder, HandsInOrder, quiet_by}
use Rattle.wl_buses.proofs.NextFrames.Found as windows
use Rattle.wl_buses.proofs.NextFrames.Found.{NothingFound}
use Rattle.wl_buses.specs.BothProofs.Queues.{head_at}

-- the laws that this rests on
abbrev pub RestsLaw : Type 0
RestsLaw = (s : Stations) (o : Outset) (end : ℕ) → AreStations s → HaveRoom s → IsOutset s o → EndsBefore s o end → (won : HasWon s (expected_bits s o) o.frames end) → (handed : ℕ → Handed)
    → ((k : ℕ) → k < s.count → (handed k).mode ≡ Active) → (i : ℕ) (setup : NodeSetup) (levels : ℕ → Level) (node : ℕ → History) → i < s.count
    → NodeEnds s o end won.station i won.frame setup levels node → slice_get (o.frames i) (handed i).which ≡ waiting_frame setup (node (expected_sample s o (end + 12) i))
    → RestsAgain s (past_end s o end handed i) i levels node ((expected_bits s o (end + 12)).place i) ((expected_bits s o (suc (suc end))).from i)

abbrev pub FreeLaw : Type 0
FreeLaw = (s : Stations) (o : Outset) (end : ℕ) → AreStations s → HaveRoom s → IsOutset s o → EndsBefore s o end → HasWon s (expected_bits s o) o.frames end
    → AreFreeNext s.count o.frames (past_at s o (end + 12))

abbrev pub WaitLaw : Type 0
WaitLaw = (r : Resting) (before : ℕ → List Input) → AreOnALine r.stations → AreResting r → AreFreeNext r.stations.count r.frames before → (i : ℕ) → i < r.stations.count
    → (setup : NodeSetup) → setup.segments ≡ r.stations.lengths i → (levels : ℕ → Level) (node : ℕ → History) → IsRun setup levels node → (handed : Handed) → handed.mode ≡ Active → (since : ℕ)
    → since ≤ rested r i → RestsAgain r.stations (before i ++ Sample (sampled Recessive (r.frames i) handed) ∷ []) i levels node (r.place i) since
    → ((q : ℕ) → rested r i < q → q < (start_next r).from i → levels q ≡ Recessive)
    → HandsNext r i (slice_get (r.frames i) handed.which) (head_at setup (unsent_of setup (node (suc (rested r i)))))
    → RestsAgain r.stations ((outset_next r before).past i) i levels node (rest_next r i) since
    × ((node (suc (rest_next r i + sample_at (r.stations.lengths i)))).frames ≡ (node (suc (rested r i))).frames)

abbrev pub ThroughLaw : Type 0
ThroughLaw = (s : Stations) (o : Outset) (end : ℕ) → AreStations s → HaveRoom s → IsOutset s o → 0 < end → EndsBefore s o end → (won : HasWon s (expected_bits s o) o.frames end)
    → (i rest since : ℕ) (setup : NodeSetup) (levels : ℕ → Level) (node : ℕ → History) → i < s.count → FindsTheEnd s o end i → setup.segments ≡ s.lengths i → IsRun setup levels node
    → BeginsAfter s o i rest → RestsAgain s (o.past i) i levels node rest since → since ≤ rest + sample_at (s.lengths i)
    → ((q : ℕ) → rest + sample_at (s.lengths i) < q → q ≤ expected_sample s o (end + 12) i → levels q ≡ level_of (finds_at s o end i q)) → GoesThrough s o end won.station i won.frame setup levels node since

-- Which of its frames a node is handed with the third bit of the intermission: the next one or none.
given : (r : Resting) (i : ℕ) (first : Option Content) (later : ℕ → Option Content) → HandsNext r i first later → (which : ℕ) × (slice_get (r.frames i) which ≡ first)
given r i first later hands = elim (cases_eq (r.decides i) 0) [
  | inl now ↦ elim (cases_Bool (has_next r i)) [
    | inl own ↦ (r.which i, sym (hands.ready own) ∙ at_zero (r.decides i) now)
    | inr none ↦ (length (r.frames i), slice_get_past (r.frames i) (length (r.frames i)) (omega arith) ∙ sym (hands.none 0 none))
  ]
  | inr not_yet ↦ (length (r.frames i), slice_get_past (r.frames i) (length (r.frames i)) (omega arith) ∙ sym (hands.unready 0 (omega (arith, not_yet))))
]
  where
    at_zero : (n : ℕ) → n ≡ 0 → head_after r i first later n ≡ first
    at_zero n e = ap (head_after r i first later) e

-- How a node goes from one frame to the next: it rests with the third bit of the intermission, handed a frame or none, goes on to rest on a silent line, and then goes through the next frame.
pub record GoesOn (s : Stations) (fs : ℕ → Frame) (count : ℕ) (frames : AreInOrder s fs count) (i first_since : ℕ) (setup : NodeSetup) (levels : ℕ → Level) (node : ℕ → History) (n : ℕ)
    (less : suc n < count) : Type 0 where
  pub handed : Handed
  pub active : handed.mode ≡ Active
  pub since : ℕ
  pub early : since ≤ third_sample s (fs n) i
  pub rests : RestsAgain s (past_at s (fs n).outset ((fs n).bits + 12) i ++ Sample (sampled Recessive ((fs n).outset.frames i) handed) ∷ []) i levels node
      ((resting_of s (fs n) (fs (suc n)) (frames.next n less)).place i) since
  pub silent : (q : ℕ) → third_sample s (fs n) i < q → q < (start_next (resting_of s (fs n) (fs (suc n)) (frames.next n less))).from i → levels q ≡ Recessive
  pub hands : HandsNext (resting_of s (fs n) (fs (suc n)) (frames.next n less)) i (slice_get ((fs n).outset.frames i) handed.which) (head_at setup (unsent_of setup (node (suc (third_sample s (fs n) i)))))
  pub begins : BeginsAfter s (fs (suc n)).outset i (rest_next (resting_of s (fs n) (fs (suc n)) (frames.next n less)) i)
  pub again : RestsAgain s ((fs (suc n)).outset.past i) i levels node (rest_next (resting_of s (fs n) (fs (suc n)) (frames.next n less)) i) (third_sample s (fs n) i)
  pub same : (node (suc (rest_next (resting_of s (fs n) (fs (suc n)) (frames.next n less)) i + sample_at (s.lengths i)))).frames ≡ (node (suc (third_sample s (fs n) i))).frames
  pub goes : GoesThroughInOrder s fs count frames i first_since setup levels node (suc n) less

module _ (m : MachineLaws) (nothing : NothingFound) (rests : RestsLaw) (free : FreeLaw) (wait : WaitLaw) (through : ThroughLaw)
    (s : Stations) (are : AreStations s) (room : HaveRoom s) (fs : ℕ → Frame) (count : ℕ) (frames : AreInOrder s fs count)
    (i : ℕ) (inside : i < s.count) (hears : (n : ℕ) → n < count → FindsTheEnd s (fs n).outset (fs n).bits i)
    (resting : (n : ℕ) (less : suc n < count) → AreResting (resting_of s (fs n) (fs (suc n)) (frames.next n less))) (setup : NodeSetup) (segments : setup.segments ≡ s.lengths i) (levels : ℕ → Level) (node : ℕ → History) (run : IsRun setup levels node)
    (finds : (n q : ℕ) → n < count → q ≤ third_sample s (fs n) i → levels q ≡ level_of (driven s.count s.delay (frames_drove s fs count) i (steady_tick (s.clocks i) q)))
    (first_rest first_since : ℕ) (begins : BeginsAfter s (fs 0).outset i first_rest) (first : RestsAgain s ((fs 0).outset.past i) i levels node first_rest first_since)
    (early : first_since ≤ first_rest + sample_at (s.lengths i)) where
  abbrev T : ℕ → ℕ
  T n = third_sample s (fs n) i

  -- in the time of a frame it finds that
  pub finds_alone : (n q : ℕ) → n < count → ((j : ℕ) → suc j ≡ n → T j < q) → q ≤ T n
      → levels q ≡ level_of (driven s.count s.delay (frame_drove s (fs n)) i (steady_tick (s.clocks i) q))
  finds_alone n q less after by = finds n q less by ∙ ap level_of (windows.alone m nothing s are room fs count frames i inside hears resting n q less after by)

  abbrev Goes : (n : ℕ) → n < count → Type 0
  Goes n less = GoesThroughInOrder s fs count frames i first_since setup levels node n less

  abbrev quiet : ℕ → ℕ
  quiet n = quiet_by s fs i first_since n

  go : (n : ℕ) (less : n < count) (rest : ℕ) → BeginsAfter s (fs n).outset i rest → RestsAgain s ((fs n).outset.past i) i levels node rest (quiet n) → quiet n ≤ rest + sample_at (s.lengths i)
      → ((j : ℕ) → suc j ≡ n → T j ≤ rest + sample_at (s.lengths i)) → Goes n less
  go n less rest after at by last =
      let f = frames.each n less in
      through s (fs n).outset (fs n).bits are room f.outset f.some f.ends f.won i rest (quiet n) setup levels node inside (hears n less) segments run after at by
      (λ q more up. finds_alone n q less (λ j e. (let low = last j e in omega arith)) up)

  -- from one frame to the next, if the node is handed what that asks
  module _ (n : ℕ) (less : suc n < count) (x : Goes n (omega arith))
      (hands : HandsNext (resting_of s (fs n) (fs (suc n)) (frames.next n less)) i (waiting_frame setup (node (T n))) (head_at setup (unsent_of setup (node (suc (T n)))))) where
    abbrev f : IsOneFrame s (fs n)
    f = frames.each n (omega arith)

    abbrev next : IsBegunAfter s (fs n) (fs (suc n))
    next = frames.next n less

    abbrev r : Resting
    r = resting_of s (fs n) (fs (suc n)) next

    abbrev before : ℕ → List Input
    before = past_at s (fs n).outset ((fs n).bits + 12)

    abbrev which : (w : ℕ) × (slice_get (r.frames i) w ≡ waiting_frame setup (node (T n)))
    which = given r i (waiting_frame setup (node (T n))) (head_at setup (unsent_of setup (node (suc (T n))))) hands

    abbrev handed : Handed
    handed = record { which = which.0; mode = Active }

    abbrev since : ℕ
    since = (expected_bits s (fs n).outset (suc (suc (fs n).bits))).from i

    since_by : since ≤ T n
    since_by = let over = windows.over_by_third m nothing s are room fs count frames i inside hears resting n (omega arith) in omega arith

    rests_then : RestsAgain s (before i ++ Sample (sampled Recessive ((fs n).outset.frames i) handed) ∷ []) i levels node (r.place i) since
    rests_then = rests s (fs n).outset (fs n).bits are room f.outset f.ends f.won (λ k. handed) (λ k lt. refl) i setup levels node inside x.ends which.1

    silent : (q : ℕ) → rested r i < q → q < (start_next r).from i → levels q ≡ Recessive
    silent q more below =
        finds_alone (suc n) q less (λ j e. (let same : j ≡ n = omega (arith, e) in let f : T j ≡ T n = ap T same in omega arith)) (windows.by_third m nothing s are room fs count frames i inside hears resting n less q below)
        ∙ ap level_of (windows.silent_before m nothing s are room fs count frames i inside hears resting n less q below)

    hands_then : HandsNext r i (slice_get (r.frames i) which.0) (head_at setup (unsent_of setup (node (suc (T n)))))
    hands_then = subst (λ h. HandsNext r i h (head_at setup (unsent_of setup (node (suc (T n)))))) (sym which.1) hands

    waits : RestsAgain s ((outset_next r before).past i) i levels node (rest_next r i) since × ((node (suc (rest_next r i + sample_at (s.lengths i)))).frames ≡ (node (suc (T n))).frames)
    waits =
        wait r before are.line (resting n less) (free s (fs n).outset (fs n).bits are room f.outset f.ends f.won) i inside setup segments levels node run
        handed refl since since_by rests_then silent hands_then

    -- it has driven nothing since the third bit of the intermission
    waits_quiet : RestsAgain s ((outset_next r before).past i) i levels node (rest_next r i) (T n)
    waits_quiet =
        let w = waits.0 in
        let by = since_by in
        record { sampled = w.sampled; clock = w.clock; stretch = w.stretch; over = w.over; counts = w.counts; drive = λ q low high. w.drive q (omega arith) high }

    next_rests : RestsAgain s ((fs (suc n)).outset.past i) i levels node (rest_next r i) (T n)
    next_rests = subst (λ o. RestsAgain s (o.past i) i levels node (rest_next r i) (T n)) (sym next.is) waits_quiet

    pub goes_on : GoesOn s fs count frames i first_since setup levels node n less
    goes_on = record {
      handed = handed;
      active = refl;
      since = since;
      early = since_by;
      rests = rests_then;
      silent = silent;
      hands = hands_then;
      begins = windows.begins_after m nothing s are room fs count frames i inside hears resting n less;
      again = next_rests;
      same = waits.1;
      goes =
          go (suc n) less (rest_next r i) (windows.begins_after m nothing s are room fs count frames i inside hears resting n less) next_rests (omega arith)
          (λ j e. (let same : j ≡ n = omega (arith, e) in let f : T j ≡ T n = ap T same in omega arith));
    }

  pub goes_first : (less : 0 < count) → Goes 0 less
  goes_first less = go 0 less first_rest begins first early (λ j e. absurd (omega (arith, e)))

  pub chained : HandsInOrder s fs count frames i setup node → (n : ℕ) (less : n < count) → Goes n less
  chained hands zero less = goes_first less
  chained hands (suc n) less = (goes_on n less (chained hands n (omega arith)) (hands n less)).goes
