-- After a frame all machines may begin the next one, and each node rests.
use Rattle.std.proofs.Common.{◌≡◌, ◌∙◌, inl, inr, refl, sym, ap, subst, ℕ, zero, suc, ◌+◌, ◌-◌, ◌<◌, ◌≤◌, ◌&&◌, not, false, List, [], ◌∷◌, ◌++◌, Option, Some, None, is_some, arith}
use Rattle.std.specs.Prelude.{◌==◌, slice_get}
use Rattle.std.proofs.lemmas.Bool.{cases_lt, ne_eqb}
use Rattle.wl_level.specs.declared.Level.{Level}
use Rattle.wl_level.specs.declared.Level.TheVariants.{Recessive}
use Rattle.wl_level.specs.Levels.{is_dominant, level_of}
use Rattle.wl_level.specs.Places.{first_place}
use Rattle.wl_confine.specs.declared.Mode.TheVariants.{Active}
use Rattle.wl_topology.proofs.Callers.{any_none}
use Rattle.wl_frame.specs.Grammar.{Content}
use Rattle.wl_machine.specs.Stretch.{Sampled, free}
use Rattle.wl_machine.specs.Stretch.Input.{Sample}
use Rattle.wl_machine.specs.Frames.{stuffed_end}
use Rattle.wl_machine.specs.Judged.{drive_of, stretch_after, stretch_of}
use Rattle.wl_machine.specs.States.{stretch_by}
use Rattle.wl_machine.proofs.Callers.{stretch_next}
use Rattle.wl_wire.specs.Wire.{Event, Handed, Wire, bus, drives_dominant, idle_wire, sampled, wire_after}
use Rattle.wl_wire.specs.Wire.Event.{Bit as BusBit}
use Rattle.wl_node.specs.declared.setup.NodeSetup.{NodeSetup}
use Rattle.wl_node.specs.History.{History}
use Rattle.wl_buses.specs.OneFrame.Stations.{AreStations, HaveRoom, Stations}
use Rattle.wl_buses.specs.OneFrame.Starts.{Start}
use Rattle.wl_buses.specs.OneFrame.Machines.{HasWon, MayBegin, MayBeginTogether, bus_levels}
use Rattle.wl_buses.specs.OneFrame.Expected.{IsOutset, Outset, expected_bits, expected_sample, past_at, wants}
use Rattle.wl_buses.specs.OneFrame.Nodes.{clock_sees}
use Rattle.wl_buses.specs.OneFrame.Clocked.{SamplesBy}
use Rattle.wl_buses.proofs.OneFrame.Machines.{first_any}
use Rattle.wl_buses.specs.FrameEnd.Again.{RestsAgain, past_end}
use Rattle.wl_buses.specs.FrameEnd.Asked.{EndAsAsked, begun_frame}
use Rattle.wl_buses.specs.FrameEnd.Rests.{NodeEnds, waiting_frame}
use Rattle.wl_buses.proofs.OneFrame.Joining.{over_by}
use Rattle.wl_buses.proofs.FrameEnd.Asked.{agrees, as_asked, count_there, crc_all, events, length_is, reached_with, wire}
use Rattle.wl_buses.proofs.FrameEnd.Below.{MachineLaws}
use Rattle.wl_buses.proofs.FrameEnd.Ends as machine
use Rattle.wl_buses.proofs.FrameEnd.Second.{quiet_second}

module _ (m : MachineLaws) (s : Stations) (are : AreStations s) (room : HaveRoom s) (o : Outset) (is : IsOutset s o) (end : ℕ)
    (valid : (n : ℕ) → n < end → stuffed_end (bus_levels s (expected_bits s o) n) ≡ None)
    (over : stuffed_end (bus_levels s (expected_bits s o) end) ≡ Some end) (won : HasWon s (expected_bits s o) o.frames end)
    (handed : ℕ → Handed) where
  abbrev bits : ℕ → Start
  bits = expected_bits s o

  abbrev own : List Level
  own = bus_levels s bits end

  asked : EndAsAsked s o end won.station won.frame
  asked = as_asked m s are room o is end valid over won

  abbrev before : Wire
  before = wire m s are room o is end valid over won (end + 12)

  agrees_there : (k : ℕ) → k < s.count → before.past k ≡ past_at s o (end + 12) k
  agrees_there k lt = agrees m s are room o is end valid over won (end + 12) k lt

  silent : bus before ≡ Recessive
  silent =
      ap (λ c. level_of (is_some (first_place (drives_dominant before) c))) (sym (count_there m s are room o is end valid over won (end + 12)))
      ∙ ap level_of (first_any s.count (drives_dominant before)
      ∙ any_none s.count (drives_dominant before)
      (λ k lt. ap (λ p. is_dominant (drive_of (stretch_of p))) (agrees_there k lt) ∙ asked.drives 12 k (omega arith) lt))

  abbrev all_events : List Event
  all_events = events m s are room o is end valid over won (end + 12) ++ BusBit handed ∷ []

  reached : (k : ℕ) → k < s.count → past_end s o end handed k ≡ (wire_after (idle_wire s.count o.frames) all_events).past k
  reached k lt =
      ap (λ p. p ++ Sample (sampled Recessive (o.frames k) (handed k)) ∷ []) (sym (agrees_there k lt))
      ∙ ap (λ l. before.past k ++ Sample (sampled l (o.frames k) (handed k)) ∷ []) (sym silent)
      ∙ sym (reached_with m s are room o is end valid over won (end + 12) handed k)

  module _ (active : (k : ℕ) → k < s.count → (handed k).mode ≡ Active) where
    pub stretch_end : (k : ℕ) → k < s.count → stretch_of (past_end s o end handed k) ≡ stretch_by (free (slice_get (o.frames k) (handed k).which)) []
    stretch_end k lt =
        let x : Sampled = sampled Recessive (o.frames k) (handed k) in
        stretch_next (past_at s o (end + 12) k) (Sample x) ∙ ap (λ y. stretch_after y (Sample x)) (asked.stretch 12 k (omega arith) lt)
        ∙ machine.third (begun_frame s o end k) own (length_is m s are room o is end valid over won) (crc_all m s are room o is end valid over won) x refl (active k lt)

    may_by : (k : ℕ) (h : Option Content) → slice_get (o.frames k) (handed k).which ≡ h → stretch_of (past_end s o end handed k) ≡ stretch_by (free h) [] → MayBegin o.frames k (stretch_of (past_end s o end handed k))
    may_by k None e stretch = inl (ap (λ y. y.sort) stretch)
    may_by k (Some h) e stretch = inr (h, ((handed k).which, e), stretch)

    pub may_begin : MayBeginTogether s.count o.frames (past_end s o end handed)
    may_begin = record {
      earlier = all_events;
      reached = reached;
      may = λ k lt. may_by k (slice_get (o.frames k) (handed k).which) refl (stretch_end k lt);
    }

    -- a node
    module _ (i : ℕ) (inside : i < s.count) (setup : NodeSetup) (levels : ℕ → Level) (node : ℕ → History) (ends : NodeEnds s o end won.station i won.frame setup levels node)
        (waits : slice_get (o.frames i) (handed i).which ≡ waiting_frame setup (node (expected_sample s o (end + 12) i))) where
      abbrev S : ℕ → ℕ
      S n = expected_sample s o n i

      abbrev since : ℕ
      since = (bits (suc (suc end))).from i

      pub rests_again : RestsAgain s (past_end s o end handed i) i levels node ((bits (end + 12)).place i) since
      rests_again =
          let recessive = asked.bus 12 (omega arith) in
          record {
            sampled = subst (λ b. SamplesBy (s.lengths i) (clock_sees levels node) (S (end + 12)) (level_of b)) recessive ends.rests.clock.sampled;
            clock = ends.rests.clock.steady recessive;
            stretch = ends.rests.stretch ∙ ap (λ h. stretch_by (free h) []) (sym waits) ∙ sym (stretch_end i inside);
            over = over_by o.frames i (stretch_of (past_end s o end handed i)) (may_by i (slice_get (o.frames i) (handed i).which) refl (stretch_end i inside));
            counts = ends.rests.counts;
            drive = λ q a b. elim (cases_lt (S (end + 11)) q) [
              | inl later ↦ ends.rests.drive q later b
              | inr sooner ↦ quiet_second m s are room o is end valid over won i inside levels node ends.next q a (omega arith)
            ];
          }
