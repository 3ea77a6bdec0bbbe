-- Each node rests before the first frame.
use Rattle.std.proofs.Common.{◌≡◌, ◌∙◌, ◌⊎◌, inl, inr, refl, sym, ap, ℕ, suc, ◌+◌, ◌<◌, ◌≤◌, max, Bool, true, false, ◌++◌, ◌∷◌, [], replicate, Option, Some, None, arith}
use Rattle.std.proofs.lemmas.Bool.{cases_Bool}
use Rattle.wl_level.specs.declared.Level.{Level}
use Rattle.wl_level.specs.declared.Level.TheVariants.{Recessive}
use Rattle.wl_level.specs.Levels.{level_of}
use Rattle.wl_confine.specs.declared.Mode.TheVariants.{Active}
use Rattle.wl_segments.specs.Lengths.{sample_at}
use Rattle.wl_topology.specs.Driven.{driven}
use Rattle.wl_machine.specs.Stretch.Input.{Sample}
use Rattle.wl_machine.specs.Frames.{stuffed_end}
use Rattle.wl_machine.specs.Judged.{stretch_of}
use Rattle.wl_machine.proofs.Callers.{stretch_next}
use Rattle.wl_machine.specs.States.{sample_of}
use Rattle.wl_node.specs.declared.setup.NodeSetup.{NodeSetup}
use Rattle.wl_node.specs.History.{History}
use Rattle.wl_phase.specs.Clocks.{steady_tick}
use Rattle.wl_phase.specs.Ways.{WayLaws}
use Rattle.wl_buses.specs.OneFrame.Stations.{AreStations, HaveRoom, Stations}
use Rattle.wl_buses.specs.OneFrame.Starts.{Drives, reaches_at}
use Rattle.wl_buses.specs.OneFrame.Clocked.{EdgeLaws, NoEdgeLaws}
use Rattle.wl_buses.specs.OneFrame.Expected.{IsOutset, Outset, expected_bits, expected_drove}
use Rattle.wl_buses.specs.OneFrame.Lines.{RestsBefore}
use Rattle.wl_buses.specs.OneFrame.Machines.{bus_levels, no_frame_sample}
use Rattle.wl_buses.specs.OneFrame.Nodes.{IsRun}
use Rattle.wl_buses.specs.FirstFrame.FirstStarts.{AreIdle, HandTheFirst, Waiting, begins_first, due_first, edge_first, first_outset, hard_from, has_first, is_reached_first, last_before, rest_first, silent_past}
use Rattle.wl_buses.proofs.FirstFrame.Beginning.{IsLast, MayTogether, decided, first_some, last_at, many, over_first, silence_of, silent_of}
use Rattle.wl_buses.proofs.FirstFrame.Reaching as reaching
use Rattle.wl_buses.proofs.FirstFrame.Silent as silence
use Rattle.wl_buses.proofs.FirstFrame.Waits.{head_by, next_after, rests_then}

-- a later law, of stations
abbrev pub NothingFound : Type 0
NothingFound = (s : Stations) (o : Outset) (length i q : ℕ) → AreStations s → HaveRoom s → IsOutset s o
    → ((n : ℕ) → n < length → stuffed_end (bus_levels s (expected_bits s o) n) ≡ None) → i < s.count → q ≤ o.start.from i
    → ((k : ℕ) → Drives s o.start i k → steady_tick (s.clocks i) q < reaches_at s o.start k i)
    → driven s.count s.delay (expected_drove s o length) i (steady_tick (s.clocks i) q) ≡ false

module _ (together : MayTogether) (nothing : NothingFound) (ways : WayLaws) (calm : NoEdgeLaws) (edges : EdgeLaws) (setups : ℕ → NodeSetup) (w : Waiting)
    (on : AreStations w.stations) (room : HaveRoom w.stations) (are : AreIdle w) (hand : HandTheFirst w setups) (outset : IsOutset w.stations (first_outset w))
    (total : ℕ) (valid : (n : ℕ) → n < total → stuffed_end (bus_levels w.stations (expected_bits w.stations (first_outset w)) n) ≡ None) (i : ℕ) (inside : i < w.stations.count)
    (segments : (setups i).segments ≡ w.stations.lengths i) (levels : ℕ → Level) (node : ℕ → History) (run : IsRun (setups i) levels node)
    (finds : (q : ℕ) → q < (first_outset w).start.from i
    → levels q ≡ level_of (driven w.stations.count w.stations.delay (expected_drove w.stations (first_outset w) total) i (steady_tick (w.stations.clocks i) q))) where
  abbrev s : Stations
  s = w.stations

  abbrev o : Outset
  o = first_outset w

  abbrev S : ℕ
  S = sample_at (s.lengths i)

  abbrev m : ℕ
  m = last_before w i

  last : IsLast w on.line are i
  last = last_at w on.line are i inside

  -- no other start of frame has reached it by then
  unreached : (q : ℕ) → q < o.start.from i → (op : Option ℕ) → edge_first w i ≡ op → is_reached_first w i q ≡ false
  unreached q less None e =
      (let from : o.start.from i ≡ due_first w i = ap (hard_from (due_first w i)) e in
      reaching.alone_early (silence_of w) on.line (silent_of w on.line are) i q inside e (omega arith))
  unreached q less (Some f) e = (let from : o.start.from i ≡ f = ap (hard_from (due_first w i)) e in (reaching.found_is (silence_of w) on.line (silent_of w on.line are) i f e).before q (omega arith))

  due_or_none : (q : ℕ) → q < o.start.from i → (op : Option ℕ) → edge_first w i ≡ op → (q ≤ due_first w i) ⊎ (has_first w i ≡ false)
  due_or_none q less None e = inl (let from : o.start.from i ≡ due_first w i = ap (hard_from (due_first w i)) e in omega arith)
  due_or_none q less (Some f) e = elim (cases_Bool (has_first w i)) [
    | inl own ↦
        inl (let from : o.start.from i ≡ f = ap (hard_from (due_first w i)) e in let by = reaching.by_due (silence_of w) on.line (silent_of w on.line are) i f own (reaching.found_is (silence_of w) on.line (silent_of w on.line are) i f e) in omega arith)
    | inr none ↦ inr none
  ]

  silent : (q : ℕ) → q < o.start.from i → levels q ≡ Recessive
  silent q less =
      finds q less
      ∙ ap level_of
      (nothing s o total i q on room outset valid inside (omega arith)
      (reaching.unfound_before (silence_of w) on.line (silent_of w on.line are) i q inside (unreached q less (edge_first w i) refl) (due_or_none q less (edge_first w i) refl)))

  past_is : (c : Bool) → begins_first w i ≡ c → next_after m (head_by (w.frames i) (w.which i) c) ≡ stretch_of (o.past i)
  past_is true e =
      let c = first_some (w.frames i) (w.which i) (reaching.begins_has (silence_of w) on.line (silent_of w on.line are) i e) in
      ap (next_after m) c.1 ∙ decided together m c.0 (many w on.line are i inside)
      ∙ sym (ap (λ b. stretch_of (silent_past b (w.frames i) (w.which i) m)) e
      ∙ ap (λ h. stretch_of (replicate (max 11 m) no_frame_sample ++ Sample (sample_of Recessive h Active) ∷ [])) c.1
      ∙ stretch_next (replicate (max 11 m) no_frame_sample) (Sample (sample_of Recessive (Some c.0) Active))
      ∙ decided together (max 11 m) c.0 (omega arith))
  past_is false e = silence.next_of m ∙ sym (ap (λ b. stretch_of (silent_past b (w.frames i) (w.which i) m)) e)

  pub rests_first : RestsBefore s o i levels node (rest_first w i)
  rests_first =
      let r = rests_then ways calm edges setups w on.line are hand i inside segments levels node run silent in
      record {
        sampled = r.sampled;
        clock = r.clock;
        stretch = r.stretch ∙ past_is (begins_first w i) refl;
        over = over_first together w on.line are i inside;
        counts = r.counts;
        drive = r.drive;
      }

  pub nothing_first : (q : ℕ) → q ≤ suc (rest_first w i + S) → silence.IsUntouched (node q)
  nothing_first = (rests_then ways calm edges setups w on.line are hand i inside segments levels node run silent).nothing
