-- The nodes of a line rest for ever after the last frame.
use Rattle.std.proofs.Common.{◌≡◌, ◌∙◌, inl, inr, refl, sym, ap, ℕ, suc, ◌+◌, ◌-◌, ◌<◌, ◌≤◌, Bool, false, List, [], length, None, arith}
use Rattle.std.specs.Prelude.{slice_get}
use Rattle.std.proofs.lemmas.Bool.{cases_lt}
use Rattle.std.proofs.lemmas.Option.{slice_get_past}
use Rattle.wl_level.specs.declared.Level.{Level}
use Rattle.wl_level.specs.declared.Level.TheVariants.{Recessive}
use Rattle.wl_level.specs.Levels.{is_dominant, level_of}
use Rattle.wl_confine.specs.declared.Mode.TheVariants.{Active}
use Rattle.wl_segments.specs.Lengths.{sample_at}
use Rattle.wl_topology.proofs.Callers.{any_none}
use Rattle.wl_machine.specs.Stretch.{Input, free}
use Rattle.wl_machine.specs.Judged.{stretch_of}
use Rattle.wl_machine.specs.States.{stretch_by}
use Rattle.wl_node.specs.declared.setup.NodeSetup.{NodeSetup}
use Rattle.wl_node.specs.History.{History, staying_history, unsent_of}
use Rattle.wl_phase.specs.Clocks.{steady_tick}
use Rattle.wl_plan.specs.Line.{Line}
use Rattle.wl_wire.specs.Wire.{Handed}
use Rattle.wl_buses.specs.BothProofs.Expected.{IsExpected}
use Rattle.wl_buses.specs.BothProofs.Levels.{levels_before}
use Rattle.wl_buses.specs.OneFrame.Expected.{expected_bits}
use Rattle.wl_buses.specs.OneFrame.Lines.{IsLineOf, node_after}
use Rattle.wl_buses.specs.OneFrame.Nodes.{IsRun}
use Rattle.wl_buses.specs.OneFrame.Stations.{AreOnALine, AreStations, HaveRoom, Stations}
use Rattle.wl_buses.proofs.OneFrame.Lines.{finds_driven, run_of}
use Rattle.wl_buses.proofs.OneFrame.Measures.{tick_next}
use Rattle.wl_buses.specs.FrameEnd.Again.{RestsAgain, past_end}
use Rattle.wl_buses.specs.FrameEnd.Rests.{waiting_frame}
use Rattle.wl_buses.proofs.FrameEnd.LineEnds.{DriveExpected, FindLevels}
use Rattle.wl_buses.proofs.FrameEnd.Below.{MachineLaws}
use Rattle.wl_buses.specs.NextFrames.Frames.{FollowOneAnother, Frame, IsBegun, frame_drove, frames_drove, third_sample}
use Rattle.wl_buses.specs.NextFrames.Lines.{BeginFrames, finds_frames}
use Rattle.wl_buses.specs.NextFrames.Silence.{AllAreSent, LineFallsSilent, StillRests}
use Rattle.wl_buses.proofs.NextFrames.Chaining.{FreeLaw, RestsLaw}
use Rattle.wl_buses.proofs.NextFrames.LineGoing as going
use Rattle.wl_buses.proofs.NextFrames.DrivingOn.{AskedLaw}
use Rattle.wl_buses.proofs.NextFrames.LineGoing.{NodeLaw}
use Rattle.wl_buses.proofs.NextFrames.Windows as windows
use Rattle.wl_buses.proofs.NextFrames.Windows.{NothingFound, RestAfter}
use Rattle.wl_buses.specs.BothProofs.Queues.{head_at}
use Rattle.wl_buses.proofs.BothProofs.Heads.{head_none}

-- the law that this rests on
abbrev pub QuietLaw : Type 0
QuietLaw = (s : Stations) (past : List Input) (i : ℕ) (setup : NodeSetup) (levels : ℕ → Level) (node : ℕ → History) (rest since : ℕ) → AreOnALine s → i < s.count
    → setup.segments ≡ s.lengths i → IsRun setup levels node → RestsAgain s past i levels node rest since → since ≤ rest + sample_at (s.lengths i) → stretch_of past ≡ stretch_by (free None) []
    → unsent_of setup (node (suc (rest + sample_at (s.lengths i)))) ≡ [] → (q : ℕ) → rest + sample_at (s.lengths i) < q
    → ((j : ℕ) → rest + sample_at (s.lengths i) < j → j < q → levels j ≡ Recessive) → StillRests node (suc (rest + sample_at (s.lengths i))) q

module _ (m : MachineLaws) (nothing : NothingFound) (rest_after : RestAfter) (asked : AskedLaw) (node_law : NodeLaw) (rests : RestsLaw) (free_law : FreeLaw) (quiet : QuietLaw)
    (l : Line) (setups : ℕ → NodeSetup) (s : Stations) (line : IsLineOf l setups s) (are : AreStations s) (room : HaveRoom s) (fs : ℕ → Frame) (count : ℕ) (frames : FollowOneAnother s fs count)
    (some : 0 < count) (begin : BeginFrames l setups s fs count frames) (sent : AllAreSent l setups s fs count) where
  abbrev drove : ℕ → ℕ → Bool
  drove = frames_drove s fs count

  abbrev tick : ℕ → ℕ → ℕ
  tick k q = steady_tick (s.clocks k) q

  abbrev T : ℕ → ℕ → ℕ
  T n i = third_sample s (fs n) i

  abbrev levels : ℕ → ℕ → Level
  levels i = finds_frames l s fs count i

  abbrev node : ℕ → ℕ → History
  node i = node_after (setups i) (levels i)

  -- with its third bit of the last intermission a node rests
  module _ (n i : ℕ) (is : suc n ≡ count) (inside : i < s.count) where
    less : n < count
    less = omega arith

    abbrev f : IsBegun s (fs n)
    f = frames.each n less

    abbrev which : ℕ
    which = length ((fs n).outset.frames i)

    abbrev handed : Handed
    handed = record { which = which; mode = Active }

    none : slice_get ((fs n).outset.frames i) which ≡ None
    none = slice_get_past ((fs n).outset.frames i) which (omega arith)

    waits_none : waiting_frame (setups i) (node i (T n i)) ≡ None
    waits_none = ap (λ v. head_at (setups i) v (length (node i (T n i)).seen)) (sent.before i n inside is) ∙ head_none (setups i) (length (node i (T n i)).seen)

    abbrev since : ℕ
    since = (expected_bits s (fs n).outset (suc (suc (fs n).bits))).from i

    abbrev past : List Input
    past = past_end s (fs n).outset (fs n).bits (λ k. handed) i

    at_rest : RestsAgain s past i (levels i) (node i) ((expected_bits s (fs n).outset ((fs n).bits + 12)).place i) since
    at_rest =
        rests s (fs n).outset (fs n).bits are room f.outset f.ends f.won (λ k. handed) (λ k lt. refl) i (setups i) (levels i) (node i) inside
        (going.goes m nothing rest_after asked node_law l setups s line are room fs count frames some begin i n less inside).ends (none ∙ sym waits_none)

    is_free : stretch_of past ≡ stretch_by (free None) []
    is_free = (free_law s (fs n).outset (fs n).bits are room f.outset f.ends f.won).free i handed inside refl ∙ ap (λ h. stretch_by (free h) []) none

    silent : (q : ℕ) → T n i < q → levels i q ≡ Recessive
    silent q more =
        finds_driven l setups s line drove i q inside
        ∙ ap level_of
        (windows.silent_after m nothing rest_after s are room fs count frames i q inside
        (λ g in_count. (let mono = windows.thirds_up m nothing rest_after s are room fs count frames g n i (omega arith) less inside in omega arith)))

    early : since ≤ T n i
    early = let over = windows.over_by_third m nothing rest_after s are room fs count frames n i less inside in omega arith

    pub still : (q : ℕ) → T n i < q → StillRests (node i) (suc (T n i)) q
    still q more =
        quiet s past i (setups i) (levels i) (node i) ((expected_bits s (fs n).outset ((fs n).bits + 12)).place i) since are.line inside (line.segments i (let e = line.nodes in omega arith))
        (run_of (setups i) (levels i)) at_rest early is_free (sent.after i n inside is) q more
        (λ j low high. silent j low)

    -- and it drives nothing from then on
    none_driven : (t : ℕ) → tick i (suc (T n i)) ≤ t → drove i t ≡ false
    none_driven t low =
        any_none count (λ g. frame_drove s (fs g) i t) (λ g in_count. (let mono = windows.thirds_up m nothing rest_after s are room fs count frames g n i (omega arith) less inside in
        let time = tick_next s are i inside (suc (T g i)) (suc (T n i)) (omega arith) in
        going.none_after m nothing rest_after asked node_law l setups s line are room fs count frames some begin g in_count i inside t (omega arith)))

    pub drives_then : (k t : ℕ) → T n i < k → tick i k ≤ t → drove i t ≡ is_dominant (node i (suc k)).drive
    drives_then k t more low =
        (let time = tick_next s are i inside (suc (T n i)) k more in none_driven t (omega arith)) ∙ sym (ap is_dominant (still (suc k) (omega arith)).drive)

  module _ (stop : ℕ) (in_line : stop ≤ l.stop) where
    drives_at : (i k t : ℕ) → i < s.count → tick i k ≤ t → t < tick i (suc k) → drove i t ≡ is_dominant (node i (suc k)).drive
    drives_at i k t inside low high = elim (cases_lt (T (count - 1) i) k) [
      | inl more ↦ drives_then (count - 1) i (omega arith) inside k t more low
      | inr few ↦ going.drives_there m nothing rest_after asked node_law l setups s line are room fs count frames some begin i k t inside few low high
    ]

    is_expected : IsExpected l (λ i. stop) drove
    is_expected = record {
      near = λ i j ni nj. omega arith;
      inside = λ i ni. in_line;
      before = λ i t ni less early. (let e = line.nodes in
          going.none_at_first m nothing rest_after asked node_law l setups s line are room fs count frames some begin i t (omega arith) (let first = line.ticks i 0 ni in omega arith));
      drives = λ i k t ni less low high. (let e = line.nodes in
          let one = line.ticks i k ni in
          let two = line.ticks i (suc k) ni in
          drives_at i k t (omega arith) (omega arith) (omega arith) ∙ sym (line.drives i (levels_before (levels i) (suc k)) ni));
    }

    pub falls_silent : DriveExpected → FindLevels → LineFallsSilent l setups s fs count frames stop
    falls_silent driven_is seen_is = record {
      goes = record {
        drives = driven_is l (λ i. stop) drove line.causal is_expected;
        node = λ i k ni less. ap (staying_history (setups i)) (seen_is l (λ i. stop) drove line.causal is_expected i k ni less);
        goes = going.goes m nothing rest_after asked node_law l setups s line are room fs count frames some begin;
      };
      rests = λ i n q inside is more. still n i is inside q more;
    }
