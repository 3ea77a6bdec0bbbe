-- A node that only listens on a line whose other nodes go from frame to frame.
use Rattle.std.proofs.Common.{◌≡◌, ◌≢◌, ◌∙◌, inl, inr, refl, sym, ap, subst, cond, ℕ, zero, suc, ◌+◌, ◌-◌, ◌<◌, ◌≤◌, ◌&&◌, ◌==◌, Bool, false, List, [], ◌∷◌, ◌++◌, length, None, arith, append-nil}
use Rattle.std.specs.Prelude.{nat_le, slice_get}
use Rattle.std.proofs.lemmas.Bool.{cases_eq, cases_lt, ne_eqb}
use Rattle.std.proofs.lemmas.List.{length-append}
use Rattle.std.proofs.lemmas.Option.{slice_get_past}
use Rattle.wl_level.specs.declared.Level.{Level}
use Rattle.wl_level.specs.declared.Level.TheVariants.{Recessive}
use Rattle.wl_level.specs.Levels.{is_dominant, level_of}
use Rattle.wl_confine.specs.declared.Mode.TheVariants.{Active}
use Rattle.wl_topology.specs.Driven.{driven}
use Rattle.wl_topology.proofs.Callers.{any_same}
use Rattle.wl_frame.specs.Grammar.{Content}
use Rattle.wl_machine.specs.Stretch.{Input, free}
use Rattle.wl_machine.specs.Judged.{stretch_of}
use Rattle.wl_machine.specs.States.{stretch_by}
use Rattle.wl_node.specs.declared.setup.NodeSetup.{NodeSetup}
use Rattle.wl_node.specs.declared.setup.Passed.{Passed}
use Rattle.wl_node.specs.Queues.{unsent_by}
use Rattle.wl_node.specs.History.{History, staying_history, unsent_of}
use Rattle.wl_phase.specs.Clocks.{steady_tick}
use Rattle.wl_plan.specs.Line.{Line}
use Rattle.wl_plan.specs.Simulation.{AreInside, level}
use Rattle.wl_plan.specs.SimulationLaws.{SimulationLaws}
use Rattle.wl_wire.specs.Wire.{Handed}
use Rattle.wl_buses.specs.BothProofs.Expected.{levels_found}
use Rattle.wl_buses.specs.BothProofs.Levels.{levels_before}
use Rattle.wl_buses.specs.OneFrame.Expected.{expected_bits, expected_sample}
use Rattle.wl_buses.specs.OneFrame.Lines.{node_after}
use Rattle.wl_buses.specs.OneFrame.Nodes.{IsRun}
use Rattle.wl_buses.specs.OneFrame.Stations.{AreStations, HaveRoom, Stations}
use Rattle.wl_buses.specs.FirstFrame.Faults.{fault_count}
use Rattle.wl_buses.specs.FrameEnd.Again.{RestsAgain, past_end}
use Rattle.wl_buses.specs.FrameEnd.Finds.{FindsTheEnd}
use Rattle.wl_buses.specs.FrameEnd.Rests.{passed_frame}
use Rattle.wl_buses.specs.HeardFrames.Listening.{IsListenerOf, ReceivesEach, listener_history}
use Rattle.wl_buses.specs.NextFrames.Frames.{AreInOrder, Frame, IsOneFrame, frames_drove, resting_of, third_sample}
use Rattle.wl_buses.specs.NextFrames.NextStarts.{AreResting}
use Rattle.wl_buses.specs.NextFrames.Silence.{StillRests}
use Rattle.wl_buses.specs.SentFrames.Winners.{passed_with}
use Rattle.wl_buses.specs.OneListener.Beside.{hears, with_listener}
use Rattle.wl_buses.specs.OneListener.Frames.{CanAllBeHeard, ReceivesFromPowerUp, received_with}
use Rattle.wl_buses.proofs.BothProofs.Expecting.{last_quantum, level_first, level_then, levels_same, seen_by_quanta}
use Rattle.wl_buses.proofs.BothProofs.Orders.{left_none}
use Rattle.wl_buses.proofs.OneFrame.Expecting.{from_sample}
use Rattle.wl_buses.proofs.OneFrame.Lines.{no_or, run_of}
use Rattle.wl_buses.proofs.OneFrame.Measures.{tick_next}
use Rattle.wl_buses.proofs.FrameEnd.Below.{MachineLaws}
use Rattle.wl_buses.proofs.NextFrames.DrivingOn as driving
use Rattle.wl_buses.proofs.NextFrames.DrivingOn.{AskedLaw}
use Rattle.wl_buses.proofs.NextFrames.Falling.{QuietLaw}
use Rattle.wl_buses.proofs.NextFrames.Found as windows
use Rattle.wl_buses.proofs.NextFrames.Found.{NothingFound}
use Rattle.wl_buses.proofs.NextFrames.Onward.{FreeLaw, RestsLaw, ThroughLaw, WaitLaw}
use Rattle.wl_buses.proofs.SentFrames.Handing.{WaitFine}
use Rattle.wl_buses.proofs.CleanLines.Through.{AllFine}
use Rattle.wl_buses.proofs.CleanPlans.Nodes.{FaultsStay, FramesStay}
use Rattle.wl_buses.proofs.CleanPlans.Passed as passed
use Rattle.wl_buses.proofs.OneListener.Frames as listener
use Rattle.wl_buses.proofs.OneListener.Frames.{PassFound}

-- what it finds if all drive what is expected in these frames, and the node after that
abbrev pub heard_levels : Stations → (ℕ → Frame) → (count : ℕ) → ℕ → Level
heard_levels s fs count q = level_of (hears s (frames_drove (with_listener s) fs count) (steady_tick (s.clocks s.count) q))

abbrev pub heard_node : NodeSetup → Stations → (ℕ → Frame) → (count : ℕ) → ℕ → History
heard_node setup s fs count = node_after setup (heard_levels s fs count)

module _ (m : MachineLaws) (nothing : NothingFound) (rests : RestsLaw) (free_law : FreeLaw) (wait : WaitLaw) (through : ThroughLaw) (pass : PassFound) (wait_fine : WaitFine) (asked : AskedLaw) (quiet : QuietLaw)
    (sim : SimulationLaws) (faults : FaultsStay) (stay : FramesStay) (all_fine : AllFine)
    (ln : Line) (s : Stations) (setup : NodeSetup) (on : IsListenerOf ln setup s) (are : AreStations (with_listener s)) (room : HaveRoom (with_listener s)) (mute : s.may_send s.count ≡ false) (two : 1 < s.count)
    (fs : ℕ → Frame) (count : ℕ) (some : 0 < count) (in_order : AreInOrder (with_listener s) fs count) (way : ℕ → ℕ → ℕ) (chase : ℕ → ℕ) (more : ℕ → ℕ → ℕ) (can : CanAllBeHeard s fs count in_order way chase more)
    (content : ℕ → Content) (wins : (n : ℕ) (less : n < count) → (in_order.each n less).won.frame ≡ content n)
    (got : ReceivesFromPowerUp s fs count in_order content setup (heard_levels s fs count) (heard_node setup s fs count)) (others : (i t : ℕ) → i < s.count → t < ln.stop → level ln i t ≡ frames_drove (with_listener s) fs count i t) where
  abbrev l : ℕ
  l = s.count

  abbrev x : Stations
  x = with_listener s

  abbrev levels : ℕ → Level
  levels = heard_levels s fs count

  abbrev node : ℕ → History
  node = heard_node setup s fs count

  abbrev tick : ℕ → ℕ
  tick q = steady_tick (s.clocks s.count) q

  abbrev T : ℕ → ℕ
  T n = third_sample x (fs n) l

  abbrev drove : ℕ → ℕ → Bool
  drove = frames_drove x fs count

  inside_l : l < x.count
  inside_l = omega arith

  run : IsRun setup levels node
  run = run_of setup levels

  finds_end : (n : ℕ) → n < count → FindsTheEnd x (fs n).outset (fs n).bits l
  finds_end = listener.hears m nothing rests free_law wait through pass wait_fine s are room mute fs count in_order way chase more can content wins setup on.segments on.queue levels node run (λ n q less by. refl)

  resting : (n : ℕ) (less : suc n < count) → AreResting (resting_of x (fs n) (fs (suc n)) (in_order.next n less))
  resting = listener.resting m nothing rests free_law wait through pass wait_fine s are room mute fs count in_order way chase more can content wins setup on.segments on.queue levels node run (λ n q less by. refl)

  -- with the third bit of the last intermission it rests for ever
  abbrev z : ℕ
  z = count - 1

  z_is : suc z ≡ count
  z_is = omega arith

  less_z : z < count
  less_z = omega arith

  abbrev f : IsOneFrame x (fs z)
  f = in_order.each z less_z

  abbrev which : ℕ
  which = length ((fs z).outset.frames l)

  abbrev handed : Handed
  handed = record { which = which; mode = Active }

  none : slice_get ((fs z).outset.frames l) which ≡ None
  none = slice_get_past ((fs z).outset.frames l) which (omega arith)

  abbrev since : ℕ
  since = (expected_bits x (fs z).outset (suc (suc (fs z).bits))).from l

  abbrev past : List Input
  past = past_end x (fs z).outset (fs z).bits (λ k. handed) l

  at_rest : RestsAgain x past l levels node ((expected_bits x (fs z).outset ((fs z).bits + 12)).place l) since
  at_rest =
      rests x (fs z).outset (fs z).bits are room f.outset f.ends f.won (λ k. handed) (λ k lt. refl) l setup levels node inside_l (got.goes z less_z).ends
      (none ∙ sym (listener.none_head m nothing rests free_law wait through pass wait_fine s are room mute fs count in_order way chase more can content wins setup on.segments on.queue levels node run (λ n q less by. refl)
      (node (T z)) (length (node (T z)).seen)))

  is_free : stretch_of past ≡ stretch_by (free None) []
  is_free = (free_law x (fs z).outset (fs z).bits are room f.outset f.ends f.won).free l handed inside_l refl ∙ ap (λ h. stretch_by (free h) []) none

  unsent_none : (h : History) → unsent_of setup h ≡ []
  unsent_none h = ap (λ v. unsent_by setup.order v h.frames) on.queue ∙ left_none setup.order h.frames

  silent : (q : ℕ) → T z < q → levels q ≡ Recessive
  silent q late =
      ap level_of (windows.silent_after m nothing x are room fs count in_order l inside_l finds_end resting q
      (λ g in_count. (let mono = windows.thirds_up m nothing x are room fs count in_order l inside_l finds_end resting g z (omega arith) less_z in omega arith)))

  early : since ≤ T z
  early = let over = windows.over_by_third m nothing x are room fs count in_order l inside_l finds_end resting z less_z in omega arith

  still : (q : ℕ) → T z < q → StillRests node (suc (T z)) q
  still q late =
      quiet x past l setup levels node ((expected_bits x (fs z).outset ((fs z).bits + 12)).place l) since are.line inside_l on.segments run at_rest early is_free (unsent_none (node (suc (T z)))) q late
      (λ j low high. silent j low)

  -- what it drives then
  drives : (k t : ℕ) → tick k ≤ t → t < tick (suc k) → drove l t ≡ is_dominant (node (suc k)).drive
  drives k t low high = elim (cases_lt (T z) k) [
    | inl late ↦
        (let time = tick_next x are l inside_l (suc (T z)) k late in
        driving.none_at_last m nothing asked x are room fs count in_order l inside_l finds_end resting setup levels node got.goes z t z_is (omega arith)
        ∙ sym (ap is_dominant (still (suc k) (omega arith)).drive))
    | inr few ↦ driving.drives_on m nothing asked x are room fs count in_order l inside_l finds_end resting setup levels node got.goes some k t few low high
  ]

  -- so it does on the line
  inside_line : l < ln.nodes
  inside_line = let e = on.nodes in omega arith

  level_found : (j : ℕ) → levels_found ln drove l j ≡ levels j
  level_found j =
      ap level_of (no_or (driven ln.nodes ln.delay drove l (ln.instant l j)) (ln.disturbed l (ln.instant l j)) (on.undisturbed (ln.instant l j))
      ∙ ap (λ c. driven c ln.delay drove l (ln.instant l j)) on.nodes ∙ delays (ln.instant l j) ∙ ap (driven (suc s.count) s.delay drove l) (on.ticks j))
    where
      delays : (t : ℕ) → driven (suc s.count) ln.delay drove l t ≡ driven (suc s.count) s.delay drove l t
      delays t =
          any_same (suc s.count) (λ k. nat_le (ln.delay k l) t && drove k (t - ln.delay k l)) (λ k. nat_le (s.delay k l) t && drove k (t - s.delay k l))
          (λ k lt. ap (λ d. nat_le d t && drove k (t - d)) (on.delays k lt))

  module _ (n : ℕ) (below : (t : ℕ) → t < n → t < ln.stop → level ln l t ≡ drove l t) where
    found_there : (j : ℕ) → ln.instant l j ≤ n → ln.instant l j < ln.stop → levels_found ln (level ln) l j ≡ levels j
    found_there j by before =
        ap level_of (sim.found_same ln (level ln) drove l (ln.instant l j) (λ i there come. elim (cases_lt i l) [
          | inl other ↦ others i (ln.instant l j - ln.delay i l) other (omega arith)
          | inr own ↦
              (let same : l ≡ i = (let e = on.nodes in omega arith) in
              let later = on.causal.delays i l there inside_line in
              subst (λ k. level ln k (ln.instant l j - ln.delay i l) ≡ drove k (ln.instant l j - ln.delay i l)) same (below (ln.instant l j - ln.delay i l) (omega arith) (omega arith)))
        ]))
        ∙ level_found j

    here : n < ln.stop → level ln l n ≡ drove l n
    here before = elim (cases_lt n (ln.instant l 0)) [
      | inl first ↦
          (let at = on.ticks 0 in
          level_first sim ln on.causal l n inside_line first
          ∙ sym (driving.none_at_first m nothing asked x are room fs count in_order l inside_l finds_end resting setup levels node got.goes n (omega arith)))
      | inr late ↦
          (let q = last_quantum ln on.causal l n inside_line late in
          let begun = q.begun in
          let next = q.next in
          let one = on.ticks q.quantum in
          let two = on.ticks (suc q.quantum) in
          level_then sim ln on.causal l q.quantum n inside_line before q.begun q.next
          ∙ ap (ln.drives l) (levels_same (levels_found ln (level ln) l) levels (suc q.quantum) (λ j less.
          (let up = sim.clock_later ln l j q.quantum on.causal inside_line (omega arith) in found_there j (omega arith) (omega arith))))
          ∙ on.drives (levels_before levels (suc q.quantum))
          ∙ sym (drives q.quantum n (omega arith) (omega arith)))
    ]

  agrees : (n t : ℕ) → t < n → t < ln.stop → level ln l t ≡ drove l t
  agrees zero t less before = absurd (omega arith)
  agrees (suc n) t less before = elim (cases_eq t n) [
    | inl same ↦ subst (λ u. level ln l u ≡ drove l u) (sym same) (here n (λ u low by_end. agrees n u low by_end) (let e = same in omega arith))
    | inr apart ↦ agrees n t (omega arith) before
  ]

  history_is : (k : ℕ) → AreInside ln l k → listener_history ln setup s k ≡ node k
  history_is k by_end =
      ap (staying_history setup) (seen_by_quanta ln l k
      ∙ levels_same (levels_found ln (level ln) l) levels k (λ j less. found_there (ln.instant l j) (λ t low before. agrees (suc t) t (omega arith) before) j (omega arith) (by_end j less)))

  -- what has passed it is a first part of all frames
  abbrev R : ℕ → List Passed
  R n = received_with s fs content n

  other_first : l ≢ 0
  other_first e = omega (arith, e, two)

  same_list : (n : ℕ) → passed_with x fs (λ k. 0) content l n ≡ R n
  same_list zero = refl
  same_list (suc n) =
      ap (λ v. v ++ passed_frame x (fs n).outset (fs n).bits l 0 (content n) ∷ []) (same_list n)
      ∙ ap (λ b. R n ++ record { sent = b; quantum = expected_sample x (fs n).outset ((fs n).bits + cond b 9 8) l; frame = content n } ∷ []) (ne_eqb l 0 other_first)

  many : (n : ℕ) → length (R n) ≡ n
  many n = ap length (sym (same_list n)) ∙ passed.many x fs (λ k. 0) content l n

  all_got : (node (suc (T z))).frames ≡ R count
  all_got = got.received z less_z ∙ ap R z_is

  record IsKnown (k : ℕ) : Type 0 where
    rest : List Passed
    frames_are : R count ≡ (node k).frames ++ rest
    fine : fault_count (node k) ≡ 0

  known : (k : ℕ) → IsKnown k
  known k = elim (cases_lt (suc (T z)) k) [
    | inl late ↦
        (let r = still k (omega arith) in
        record { rest = []; frames_are = sym all_got ∙ sym r.frames ∙ sym (append-nil (node k).frames); fine = r.faults ∙ got.faults z less_z })
    | inr soon ↦
        (let y = stay setup levels node k (suc (T z)) run soon in
        let grows = faults setup levels node k (suc (T z)) run soon in
        let zero_then = got.faults z less_z in
        record { rest = y.0; frames_are = sym all_got ∙ y.1; fine = omega arith })
  ]

  first_part : (k : ℕ) → (n : ℕ) × (n ≤ count) × ((node k).frames ≡ R n)
  first_part k =
      (let y = known k in
      let p = passed.part x fs (λ j. 0) content l count (node k).frames y.rest (same_list count ∙ y.frames_are) in
      (p.0, p.1, p.2 ∙ same_list p.0))

  -- each with the sample that is computed
  abbrev at : ℕ → ℕ
  at n = expected_sample x (fs n).outset ((fs n).bits + 8) l

  length_up : (k q : ℕ) → k ≤ q → length (node k).frames ≤ length (node q).frames
  length_up k q few = let y = stay setup levels node k q run few in let e = ap length y.1 in let both = length-append (node k).frames y.0 in omega arith

  before : (n : ℕ) → n < count → n ≤ length (node (at n)).frames
  before zero less = omega arith
  before (suc n) less =
      (let g = in_order.each (suc n) less in
      let first = windows.third_before m nothing x are room fs count in_order l inside_l finds_end resting n less in
      let begun = from_sample m.steps m.errors m.winner m.stuffed m.six m.ten x are room (fs (suc n)).outset g.outset (fs (suc n)).bits g.ends.none 0 l inside_l in
      let mono = windows.up m nothing x are room fs count in_order l inside_l finds_end resting (suc n) 0 ((fs (suc n)).bits + 8) less (omega arith) in
      let up = length_up (suc (T n)) (at (suc n)) (omega arith) in
      let e = ap length (got.received n (omega arith)) in
      let c = many (suc n) in
      omega arith)

  passes_at : (n : ℕ) → n < count → suc n ≤ length (node (suc (at n))).frames
  passes_at n less =
      (let w = (in_order.each n less).won.station in
      let apart : l ≢ (in_order.each n less).won.station =
      listener.other m nothing rests free_law wait through pass wait_fine s are room mute fs count in_order way chase more can content wins setup on.segments on.queue levels node run (λ j q low by. refl) n less in
      let bit : expected_sample x (fs n).outset ((fs n).bits + cond (l == (in_order.each n less).won.station) 9 8) l ≡ at n =
      ap (λ b. expected_sample x (fs n).outset ((fs n).bits + cond b 9 8) l) (ne_eqb l (in_order.each n less).won.station apart) in
      let e = ap length (got.goes n less).ends.passes in
      let both =
      length-append (node (expected_sample x (fs n).outset ((fs n).bits + cond (l == (in_order.each n less).won.station) 9 8) l)).frames
      (passed_frame x (fs n).outset (fs n).bits l (in_order.each n less).won.station (in_order.each n less).won.frame ∷ []) in
      let was = before n less in
      let one : length (node (expected_sample x (fs n).outset ((fs n).bits + cond (l == (in_order.each n less).won.station) 9 8) l)).frames ≡ length (node (at n)).frames = ap (λ q. length (node q).frames) bit in
      let after_it : length (node (suc (expected_sample x (fs n).outset ((fs n).bits + cond (l == (in_order.each n less).won.station) 9 8) l))).frames ≡ length (node (suc (at n))).frames = ap (λ q. length (node (suc q)).frames) bit in
      omega arith)

  in_time : (n k : ℕ) → n < count → at n < k → n < length (node k).frames
  in_time n k less late = let own = passes_at n less in let up = length_up (suc (at n)) k late in omega arith

  pub receives_each : ReceivesEach ln setup s fs count content
  receives_each = record {
    fine = λ k by_end. (all_fine (listener_history ln setup s k) (ap fault_count (history_is k by_end) ∙ (known k).fine)).0;
    counters = λ k by_end. (all_fine (listener_history ln setup s k) (ap fault_count (history_is k by_end) ∙ (known k).fine)).1;
    received = λ k by_end. (let p = first_part k in (p.0, p.1, ap (λ h. h.frames) (history_is k by_end) ∙ p.2));
    in_time = λ k n by_end less late. subst (λ h. n < length h.frames) (sym (history_is k by_end)) (in_time n k less late);
  }
