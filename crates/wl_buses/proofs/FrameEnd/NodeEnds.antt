-- A node that finds what is expected goes to the end of a frame as is expected.
use Rattle.std.proofs.Common.{◌≡◌, ◌≢◌, ◌∙◌, inl, inr, refl, sym, ap, subst, ℕ, zero, suc, ◌+◌, ◌<◌, ◌≤◌, ◌&&◌, not, cond, Bool, true, false, List, [], ◌∷◌, ◌++◌, length, Option, Some, None, arith}
use Rattle.std.specs.Prelude.{◌==◌}
use Rattle.std.proofs.lemmas.Bool.{cases_eq, cases_lt, eq-eqb, ne_eqb}
use Rattle.wl_level.specs.declared.Level.{Level}
use Rattle.wl_level.specs.declared.Level.TheVariants.{Recessive}
use Rattle.wl_level.specs.Levels.{level_of}
use Rattle.wl_confine.specs.Counts.{counts_of, no_counts}
use Rattle.wl_sync.specs.declared.Seen.{Seen}
use Rattle.wl_topology.specs.Driven.{driven}
use Rattle.wl_frame.specs.Grammar.{Content, content_of}
use Rattle.wl_frame.specs.Stuffing.{destuffed_bits}
use Rattle.wl_frame.proofs.Callers.{length_more}
use Rattle.wl_machine.specs.declared.state.Role.TheVariants.{Rx, Tx}
use Rattle.wl_machine.specs.Stretch.{Sampled, Stretch, free}
use Rattle.wl_machine.specs.Stretch.Ended.{Received}
use Rattle.wl_machine.specs.Stretch.Input.{Sample as Given}
use Rattle.wl_machine.specs.Frames.{frame_role, stuffed_end}
use Rattle.wl_machine.specs.Judged.{awaits_start, judged, stretch_after, stretch_of}
use Rattle.wl_machine.specs.States.{stretch_by}
use Rattle.wl_node.specs.declared.setup.NodeSetup.{NodeSetup}
use Rattle.wl_node.specs.History.{History, passed_frames, sampled_next}
use Rattle.wl_phase.specs.Clocks.{steady_tick}
use Rattle.wl_wire.specs.InStep.{is_fine}
use Rattle.wl_buses.specs.OneFrame.Stations.{AreStations, HaveRoom, Stations}
use Rattle.wl_buses.specs.OneFrame.Starts.{Start}
use Rattle.wl_buses.specs.OneFrame.Course.{bus_bit}
use Rattle.wl_buses.specs.OneFrame.Clocked.{BitIs}
use Rattle.wl_buses.specs.OneFrame.Machines.{HasWon, bus_levels}
use Rattle.wl_buses.specs.OneFrame.Expected.{HasSampled, IsOutset, Outset, expected_bits, expected_drove, expected_sample, past_at, wants}
use Rattle.wl_buses.specs.OneFrame.Nodes.{GoesToNext, IsInBit, IsRun, clock_sees}
use Rattle.wl_buses.proofs.OneFrame.Nodes.{has_expected, sees_in}
use Rattle.wl_buses.proofs.OneFrame.Machines.{levels_length}
use Rattle.wl_buses.specs.FrameEnd.Ends.{GoesToEnd, end_bit, end_frame, end_levels, end_stretch}
use Rattle.wl_buses.specs.FrameEnd.Asked.{EndAsAsked, begun_frame}
use Rattle.wl_buses.specs.FrameEnd.Clocks.{SeesEnd}
use Rattle.wl_buses.specs.FrameEnd.Finds.{FindsTheEnd}
use Rattle.wl_buses.specs.FrameEnd.Rests.{NodeEnds, RestsAfter, waiting_frame}
use Rattle.wl_buses.proofs.FrameEnd.Asked.{as_asked, crc_all, length_is}
use Rattle.wl_buses.proofs.FrameEnd.Below.{ClockLaws, MachineLaws}
use Rattle.wl_buses.proofs.FrameEnd.Ends as machine
use Rattle.wl_buses.proofs.FrameEnd.Placing as placing
use Rattle.wl_buses.proofs.FrameEnd.Sampling as sampling
use Rattle.wl_buses.proofs.FrameEnd.Ticking as ticking

module _ (m : MachineLaws) (s : Stations) (are : AreStations s) (room : HaveRoom s) (o : Outset) (is : IsOutset s o) (end : ℕ)
    (valid : (n : ℕ) → n < end → stuffed_end (bus_levels s (expected_bits s o) n) ≡ None)
    (over : stuffed_end (bus_levels s (expected_bits s o) end) ≡ Some end) (won : HasWon s (expected_bits s o) o.frames end)
    (clocks : ClockLaws) (i : ℕ) (inside : i < s.count) (hears : FindsTheEnd s o end i) (setup : NodeSetup) (segments : setup.segments ≡ s.lengths i) (levels : ℕ → Level) (node : ℕ → History) (run : IsRun setup levels node)
    (upto : ℕ) (in_end : upto ≤ 12) (finds : (n q : ℕ) → suc n ≡ end → expected_sample s o n i < q → q ≤ expected_sample s o (end + upto) i → levels q ≡ level_of (driven s.count s.delay (expected_drove s o (end + 13)) i (steady_tick (s.clocks i) q))) where
  abbrev bits : ℕ → Start
  bits = expected_bits s o

  abbrev own : List Level
  own = bus_levels s bits end

  abbrev bus : ℕ → Bool
  bus = bus_bit s bits

  abbrev S : ℕ → ℕ
  S n = expected_sample s o n i

  abbrev head : Option Content
  head = begun_frame s o end i

  asked : EndAsAsked s o end won.station won.frame
  asked = as_asked m s are room o is end valid over won

  abbrev z : ℕ
  z = placing.z m s are room o is end valid over won

  z_is : suc z ≡ end
  z_is = placing.z_is m s are room o is end valid over won

  -- one bit
  module _ (place n : ℕ) (found_to : place ≤ upto) (at : end + place ≡ suc n) (in_bit : IsInBit s o i levels node n) where
    small : place ≤ 12
    small = omega arith

    abbrev X : Stretch
    X = stretch_of (past_at s o (suc n) i)

    X_is : X ≡ end_stretch head own place
    X_is = ap (λ k. stretch_of (past_at s o k i)) (sym at) ∙ asked.stretch place i small inside

    after : S n < (bits (suc n)).from i
    after = placing.begins_after m s are room o is end valid over won i inside hears.later place n small at

    longer : S n < S (suc n)
    longer = placing.sample_more m s are room o is end valid over won n i inside

    after_z : S z ≤ S n
    after_z = let e = z_is in placing.samples_up m s are room o is end valid over won z n i inside (omega arith)

    by_end : S (suc n) ≤ S (end + upto)
    by_end = placing.samples_up m s are room o is end valid over won (suc n) (end + upto) i inside (omega arith)

    bus_is : level_of (bus (suc n)) ≡ level_of (end_bit place)
    bus_is = ap level_of (placing.bus_at m s are room o is end valid over won place (suc n) small at)

    abbrev sees : ℕ → Seen
    sees = sees_in setup levels node run s o i n segments in_bit after

    no_start : n ≡ end → awaits_start X ≡ false
    no_start slot =
        let one : place ≡ 1 = omega (arith, at, slot) in
        ap awaits_start (X_is ∙ ap (end_stretch head own) one) ∙ ne_eqb (length (own ++ end_levels 1)) 0 (λ e. (let l = length_more own Recessive in omega (arith, e)))

    sees_end : SeesEnd s o end i sees n
    sees_end = record {
      level = λ q a b. ap (λ x. x.level) (sampling.new_there setup levels node run s o i n segments in_bit after q a) ∙ finds z q z_is (let low = after_z in omega arith) (let e = by_end in omega arith);
      awaits = λ q slot a b. ap (λ x. x.awaits) (sampling.new_there setup levels node run s o i n segments in_bit after q a) ∙ no_start slot;
      before = λ q slot a b. ap (λ x. x.driving) (sampling.new_there setup levels node run s o i n segments in_bit after q a)
          ∙ sampling.before_start setup levels node run s o i n segments in_bit after q b;
      after = λ q slot a b. (let f = after in
          ap (λ x. x.driving) (sampling.new_there setup levels node run s o i n segments in_bit after q (omega arith))
          ∙ sampling.after_start setup levels node run s o i n segments in_bit after q a);
    }

    has : HasSampled s o i sees n
    has = has_expected setup levels node run s o i n segments in_bit after

    bit : BitIs (s.lengths i) sees (S n) ((bits (suc n)).place i) ((bits (suc n)).from i) (level_of (bus (suc n)))
    bit = ticking.bit_goes m s are room o is end valid over won clocks place n i small at inside hears sees sees_end has

    has_after : HasSampled s o i sees (suc n)
    has_after = ticking.has_next m s are room o is end valid over won clocks place n i small at inside hears sees sees_end has

    found : levels (S (suc n)) ≡ level_of (bus (suc n))
    found = finds z (S (suc n)) z_is (let low = after_z in let more = longer in omega arith) by_end ∙ ap level_of (ticking.right_all m s are room o is end valid over won clocks place n i small at inside hears sees sees_end has)

    fine : (z : Sampled) → z.level ≡ level_of (bus (suc n)) → is_fine (judged X z).happened ≡ true
    fine z e = elim (cases_lt place 12) [
      | inl below ↦ ap (λ y. is_fine (judged y z).happened) X_is ∙ (machine.goes head own (length_is m s are room o is end valid over won) (crc_all m s are room o is end valid over won) place z below (e ∙ bus_is)).fine
      | inr third ↦
          (let last : place ≡ 12 = omega (arith, third, small) in
          ap (λ y. is_fine (judged y z).happened) (X_is ∙ ap (end_stretch head own) last)
          ∙ machine.third_fine head own (length_is m s are room o is end valid over won) (crc_all m s are room o is end valid over won) z (e ∙ bus_is ∙ ap (λ p. level_of (end_bit p)) last))
    ]

    abbrev given : Sampled
    given = sampled_next setup (node (S (suc n))) (levels (S (suc n)))

    pub stretch_then : stretch_of (node (suc (S (suc n)))).inputs ≡ stretch_after X (Given given)
    stretch_then = sampling.stretch_then setup levels node run s o i n segments in_bit after bit longer found fine

    pub clock_then : HasSampled s o i (clock_sees levels node) (suc n)
    clock_then = sampling.clock_there setup levels node run s o i n segments in_bit after bit longer found fine has_after

    -- up to the second bit of the intermission
    module _ (below : place < 12) where
      goes : GoesToEnd head own place given
      goes = machine.goes head own (length_is m s are room o is end valid over won) (crc_all m s are room o is end valid over won) place given below (found ∙ bus_is)

      next_is : stretch_of (past_at s o (suc (suc n)) i) ≡ end_stretch head own (suc place)
      next_is = (let e : end + suc place ≡ suc (suc n) = omega (arith, at) in ap (λ k. stretch_of (past_at s o k i)) (sym e) ∙ asked.stretch (suc place) i (omega arith) inside)

      pub goes_to_next : GoesToNext s o i levels node n
      goes_to_next = record {
        bit = record {
          clock = clock_then;
          stretch = stretch_then ∙ ap (λ y. stretch_after y (Given given)) X_is ∙ goes.next ∙ sym next_is;
          counts = (sampling.quiet_there setup levels node run s o i n segments in_bit after bit longer found fine).0;
          drive = (sampling.quiet_there setup levels node run s o i n segments in_bit after bit longer found fine).1;
        };
        before = sampling.driven_before setup levels node run s o i n segments in_bit after bit longer found fine;
        after = sampling.driven_after setup levels node run s o i n segments in_bit after bit longer found fine;
      }

      pub frames_then : (node (suc (S (suc n)))).frames ≡ (node (S (suc n))).frames ++ passed_frames (S (suc n)) (end_frame (frame_role head own) head (destuffed_bits own (length own)) place)
      frames_then =
          sampling.frames_there setup levels node run s o i n segments in_bit after bit longer found fine
          ∙ ap (λ y. (node (S (suc n))).frames ++ passed_frames (S (suc n)) (judged y given).ended) X_is
          ∙ ap (λ x. (node (S (suc n))).frames ++ passed_frames (S (suc n)) x) goes.ended

    -- the third one
    pub rests_by : place ≡ 12 → RestsAfter s o end i setup levels node
    rests_by last =
        let e : suc n ≡ end + 12 = sym at ∙ ap (λ p. end + p) last in
        let recessive : levels (S (suc n)) ≡ Recessive = found ∙ bus_is ∙ ap (λ p. level_of (end_bit p)) last in
        let waits : given.head ≡ waiting_frame setup (node (S (suc n))) = ap (λ l. (sampled_next setup (node (S (suc n))) l).head) recessive in
        let stretch = stretch_then ∙ ap (λ y. stretch_after y (Given given)) (X_is ∙ ap (end_stretch head own) last)
        ∙ machine.third head own (length_is m s are room o is end valid over won) (crc_all m s are room o is end valid over won) given recessive (sampling.mode_then setup levels node run s o i n segments in_bit after bit longer found fine)
        ∙ ap (λ h. stretch_by (free h) []) waits in
        let e_n : n ≡ end + 11 = omega (arith, e) in
        let none : wants s o (suc n) i ≡ false = ap (λ k. wants s o k i) (sym at) ∙ asked.drives place i small inside ∙ ap (λ p. end_bit p && not (i == won.station)) last in
        let none_before : wants s o n i ≡ false = ap (λ k. wants s o k i) e_n ∙ asked.drives 11 i (omega arith) inside in
        record {
          clock = subst (HasSampled s o i (clock_sees levels node)) e clock_then;
          stretch = subst (λ k. stretch_of (node (suc (S k))).inputs ≡ stretch_by (free (waiting_frame setup (node (S k)))) []) e stretch;
          counts = subst (λ k. counts_of (node (suc (S k))).happened ≡ no_counts) e ((sampling.quiet_there setup levels node run s o i n segments in_bit after bit longer found fine).0);
          drive = λ q a b. (let low : S n ≡ S (end + 11) = ap S e_n in
              let high : S (suc n) ≡ S (end + 12) = ap S e in
              elim (cases_lt ((bits (suc n)).from i) q) [
                | inl more ↦ sampling.driven_after setup levels node run s o i n segments in_bit after bit longer found fine q more (omega arith) ∙ ap level_of none
                | inr few ↦ sampling.driven_before setup levels node run s o i n segments in_bit after bit longer found fine q (omega arith) few ∙ ap level_of none_before
              ]);
        }

  -- all bits
  module _ (first : (n : ℕ) → suc n ≡ end → IsInBit s o i levels node n) where
    in_bit_at : (place n : ℕ) → place ≤ upto → end + place ≡ suc n → IsInBit s o i levels node n
    in_bit_at zero n small at = first n (omega (arith, at))
    in_bit_at (suc place) n small at =
        (let e = z_is in
        let before : end + place ≡ suc (z + place) = omega arith in
        let same : suc (z + place) ≡ n = omega (arith, at) in
        subst (IsInBit s o i levels node) same (goes_to_next place (z + place) (omega arith) before (in_bit_at place (z + place) (omega arith) before) (omega arith)).bit)

  -- up to the second bit of the intermission
  module _ (first : (n : ℕ) → suc n ≡ end → IsInBit s o i levels node n) (second : 11 ≤ upto) where
    pub next_at : (place n : ℕ) → place ≤ 11 → end + place ≡ suc n → GoesToNext s o i levels node n
    next_at place n small at = goes_to_next place n (omega arith) at (in_bit_at first place n (omega arith) at) (omega arith)

    frames_at : (place : ℕ) → place ≤ 11 → (node (suc (S (end + place)))).frames
        ≡ (node (S (end + place))).frames ++ passed_frames (S (end + place)) (end_frame (frame_role head own) head (destuffed_bits own (length own)) place)
    frames_at place small =
        (let e = z_is in
        let before : end + place ≡ suc (z + place) = omega arith in
        subst (λ k. (node (suc (S k))).frames ≡ (node (S k)).frames ++ passed_frames (S k) (end_frame (frame_role head own) head (destuffed_bits own (length own)) place)) (sym before)
        (frames_then place (z + place) (omega arith) before (in_bit_at first place (z + place) (omega arith) before) (omega arith)))

    abbrev pub Passes : Bool → Type 0
    Passes b = (node (suc (S (end + cond b 9 8)))).frames ≡ (node (S (end + cond b 9 8))).frames ++ record { sent = b; quantum = S (end + cond b 9 8); frame = won.frame } ∷ []

    passes_sent : i ≡ won.station → Passes true
    passes_sent same =
        frames_at 9 (omega arith)
        ∙ ap (λ r. (node (S (end + 9))).frames ++ passed_frames (S (end + 9)) (end_frame r head (destuffed_bits own (length own)) 9)) (asked.role i inside ∙ ap (λ b. cond b Tx Rx) (eq-eqb i won.station same))
        ∙ ap (λ h. (node (S (end + 9))).frames ++ passed_frames (S (end + 9)) (end_frame Tx h (destuffed_bits own (length own)) 9)) (ap (begun_frame s o end) same ∙ asked.own)

    passes_received : i ≢ won.station → Passes false
    passes_received other =
        frames_at 8 (omega arith)
        ∙ ap (λ r. (node (S (end + 8))).frames ++ passed_frames (S (end + 8)) (end_frame r head (destuffed_bits own (length own)) 8)) (asked.role i inside ∙ ap (λ b. cond b Tx Rx) (ne_eqb i won.station other))
        ∙ ap (λ n. (node (S (end + 8))).frames ++ passed_frames (S (end + 8)) (Received (content_of (destuffed_bits own n)))) (levels_length s bits end)
        ∙ ap (λ c. (node (S (end + 8))).frames ++ passed_frames (S (end + 8)) (Received c)) asked.read

    pub passes_all : Passes (i == won.station)
    passes_all = elim (cases_eq i won.station) [
      | inl same ↦ subst Passes (sym (eq-eqb i won.station same)) (passes_sent same)
      | inr other ↦ subst Passes (sym (ne_eqb i won.station other)) (passes_received other)
    ]

    pub node_ends : 12 ≤ upto → NodeEnds s o end won.station i won.frame setup levels node
    node_ends third = record {
      next = next_at;
      passes = passes_all;
      rests = (let e = z_is in let before : end + 12 ≡ suc (z + 12) = omega arith in rests_by 12 (z + 12) (omega arith) before (in_bit_at first 12 (z + 12) (omega arith) before) refl);
    }
