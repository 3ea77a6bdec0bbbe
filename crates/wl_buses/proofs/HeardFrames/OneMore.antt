-- One frame of some stations, and the same with a listener among them.
use Rattle.std.proofs.Common.{◌≡◌, ◌≢◌, ◌∙◌, inl, inr, refl, sym, ap, ℕ, zero, suc, ◌+◌, ◌<◌, ◌≤◌, true, false, [], ◌∷◌, ◌++◌, Some, None, arith}
use Rattle.std.proofs.lemmas.Bool.{cases_lt}
use Rattle.wl_level.specs.Levels.{level_of}
use Rattle.wl_segments.specs.Lengths.{bit_quanta}
use Rattle.wl_topology.proofs.Callers.{any_same}
use Rattle.wl_frame.specs.Grammar.{content_of}
use Rattle.wl_frame.specs.Stuffing.{destuffed_bits}
use Rattle.wl_machine.specs.Frames.{stuffed_end}
use Rattle.wl_phase.specs.Clocks.{steady_tick}
use Rattle.wl_buses.specs.OneFrame.Stations.{AreStations, HaveRoom, Stations}
use Rattle.wl_buses.specs.OneFrame.Starts.{Start}
use Rattle.wl_buses.specs.OneFrame.Course.{bus_bit}
use Rattle.wl_buses.specs.OneFrame.Ends.{HasStuffedBits}
use Rattle.wl_buses.specs.OneFrame.Machines.{HasWon, bus_levels}
use Rattle.wl_buses.specs.OneFrame.Expected.{IsOutset, Outset, expected_bits, expected_drove, past_at, wants}
use Rattle.wl_buses.specs.FrameEnd.Asked.{EndAsAsked, EndsBefore}
use Rattle.wl_buses.specs.HeardFrames.Joined.{IsFarFrom, on_line}
use Rattle.wl_buses.specs.NextFrames.Frames.{Frame}
use Rattle.wl_buses.specs.OneListener.Beside.{with_listener}
use Rattle.wl_buses.specs.OneListener.Ends.{IsUnheard}
use Rattle.wl_buses.proofs.OneFrame.Passing.{still_allowed}
use Rattle.wl_buses.proofs.FrameEnd.Asked.{as_asked}
use Rattle.wl_buses.proofs.FrameEnd.Below.{MachineLaws}
use Rattle.wl_buses.proofs.NextFrames.Winning.{PartEnds}
use Rattle.wl_buses.proofs.OneListener.Same as same
use Rattle.wl_buses.proofs.HeardFrames.Alike as alike
use Rattle.wl_buses.proofs.HeardFrames.Alike.{AreAlike, drives_want}

-- the law that this rests on
abbrev pub WinsLaw : Type 0
WinsLaw = (s : Stations) (o : Outset) (end : ℕ) → AreStations s → HaveRoom s → IsOutset s o → EndsBefore s o end → HasWon s (expected_bits s o) o.frames end

-- stations without the last one
pub without_last : (a : Stations) → AreStations (with_listener a) → AreStations a
without_last a are = record {
  line = record {
    steady = λ i inside. are.line.steady i (omega arith);
    book = λ i inside. are.line.book i (omega arith);
    later = λ i k inside there. are.line.later i k (omega arith) (omega arith);
    detours = λ i j k inside third there. are.line.detours i j k (omega arith) (omega arith) (omega arith);
  };
  ways = record {
    there_and_back = λ i k inside there pair own. are.ways.there_and_back i k (omega arith) (omega arith) pair own;
    over = λ i k j inside there third pair apart other own. are.ways.over i k j (omega arith) (omega arith) (omega arith) pair apart other own;
    straight = λ i k inside there pair own. are.ways.straight i k (omega arith) (omega arith) pair own;
  };
}

module _ (m : MachineLaws) (parts : PartEnds) (wins : WinsLaw) (s : Stations) (delay way : ℕ → ℕ → ℕ) (same_delay : (i k : ℕ) → i < s.count → k < s.count → delay i k ≡ s.delay i k)
    (are : AreStations (with_listener (on_line s delay way))) (room : HaveRoom (with_listener (on_line s delay way))) (are_s : AreStations s) (room_s : HaveRoom s) (two : 1 < s.count)
    (mute : s.may_send s.count ≡ false) (p : Outset) (f : Frame) (begins : AreAlike s.count p f.outset) (is_x : IsOutset (with_listener (on_line s delay way)) p) (is_s : IsOutset s f.outset)
    (ends : EndsBefore s f.outset f.bits) (won : HasWon s (expected_bits s f.outset) f.outset.frames f.bits) where
  abbrev l : ℕ
  l = s.count

  abbrev a : Stations
  a = on_line s delay way

  abbrev x : Stations
  x = with_listener a

  abbrev o : Outset
  o = f.outset

  abbrev end : ℕ
  end = f.bits

  abbrev X : ℕ → Start
  X = expected_bits x p

  abbrev F : ℕ → Start
  F = expected_bits s o

  -- the same is on the bus, up to wherever its stuffed part ends with the listener
  module _ (last : ℕ) (valid : (n : ℕ) → n < last → stuffed_end (bus_levels x X n) ≡ None) (over : stuffed_end (bus_levels x X last) ≡ Some last) (won_x : HasWon x X p.frames last) where
    bus_at : (n : ℕ) → n ≤ last + 12 → bus_bit x X n ≡ bus_bit s F n
    bus_at n small =
        any_same x.count (X n).drives (wants x p n) (λ k there. drives_want x p is_x.drives n k)
        ∙ same.same_bus m a are room (without_last a are) two mute p is_x last valid over won_x n small
        ∙ alike.same_any s delay way same_delay p o begins n
        ∙ sym (any_same s.count (F n).drives (wants s o n) (λ k there. drives_want s o is_s.drives n k))

    pub levels_at : (n : ℕ) → n ≤ last + 12 → bus_levels x X n ≡ bus_levels s F n
    levels_at zero small = refl
    levels_at (suc n) small =
        ap (λ v. v ++ level_of (bus_bit x X n) ∷ []) (levels_at n (omega arith)) ∙ ap (λ b. bus_levels s F n ++ level_of b ∷ []) (bus_at n (omega arith))

  abbrev last : ℕ
  last = (parts x p are room is_x).0

  has : HasStuffedBits x p last
  has = (parts x p are room is_x).1

  won_last : HasWon x X p.frames last
  won_last = wins x p last are room is_x (record { none = has.going; there = has.over })

  levels_last : (n : ℕ) → n ≤ last + 12 → bus_levels x X n ≡ bus_levels s F n
  levels_last = levels_at last has.going has.over won_last

  last_is : last ≡ end
  last_is = elim (cases_lt last end) [
    | inl less ↦
        (let none : stuffed_end (bus_levels s F last) ≡ None = ends.none last less in
        let some : stuffed_end (bus_levels s F last) ≡ Some last = sym (ap stuffed_end (levels_last last (omega arith))) ∙ has.over in
        cc)
    | inr more ↦ elim (cases_lt end last) [
      | inl less ↦
          (let none : stuffed_end (bus_levels x X end) ≡ None = has.going end less in
          let some : stuffed_end (bus_levels x X end) ≡ Some end = ap stuffed_end (levels_last end (omega arith)) ∙ ends.there in
          cc)
      | inr few ↦ omega arith
    ]
  ]

  pub ends_x : EndsBefore x p end
  ends_x = record {
    none = λ n less. has.going n (let e = last_is in omega arith);
    there = ap stuffed_end (levels_last end (let e = last_is in omega arith)) ∙ ends.there;
  }

  pub won_x : HasWon x X p.frames end
  won_x = wins x p end are room is_x ends_x

  -- the same one has won
  pub winner_may : s.may_send won_x.station ≡ true
  winner_may = still_allowed x X is_x.allowed end won_x.station won_x.inside won_x.sends

  pub winner_inside : won_x.station < s.count
  winner_inside =
      (let low : won_x.station < suc s.count = won_x.inside in
      let other : won_x.station ≢ l = (λ e. (let same : s.may_send won_x.station ≡ s.may_send l = ap s.may_send e in let may = winner_may in cc)) in
      omega (arith, low, other))

  asked_x : EndAsAsked x p end won_x.station won_x.frame
  asked_x = as_asked m x are room p is_x end ends_x.none ends_x.there won_x

  asked_s : EndAsAsked s o end won.station won.frame
  asked_s = as_asked m s are_s room_s o is_s end ends.none ends.there won

  pub frame_is : won_x.frame ≡ won.frame
  frame_is =
      sym asked_x.read ∙ ap (λ v. content_of (destuffed_bits v end)) (levels_at end ends_x.none ends_x.there won_x end (omega arith)) ∙ asked_s.read

  -- what reaches the machines
  pub past_is : (n k : ℕ) → n ≤ end + 13 → k < s.count → past_at x p n k ≡ past_at s o n k
  past_is n k small there =
      same.same_past m a are room (without_last a are) two mute p is_x end ends_x.none ends_x.there won_x n small k ∙ alike.same_past s delay way same_delay p o begins n k there

  -- when each bit begins, if the listener's acknowledgement comes too late
  module _ (far : IsFarFrom s delay f) where
    unheard_by : ((i : ℕ) → i < s.count → (X end).place i ≡ (expected_bits a p end).place i) → IsUnheard a p end
    unheard_by at i k inside there =
        (let e : steady_tick (s.clocks k) ((X end).place k + bit_quanta (s.lengths k)) ≡ steady_tick (s.clocks k) ((F end).place k + bit_quanta (s.lengths k)) =
        ap (λ q. steady_tick (s.clocks k) (q + bit_quanta (s.lengths k))) (at k there ∙ (alike.begin_alike s delay way same_delay p o begins end).place k there) in
        let d = same_delay k i there inside in
        let h = far i k inside there in
        omega arith)

    pub place_is : (n i : ℕ) → n ≤ end + 12 → i < s.count → (X n).place i ≡ (F n).place i
    place_is n i small inside =
        (same.same_at m a are room (without_last a are) two mute p is_x end ends_x.none ends_x.there won_x unheard_by n small).place i inside
        ∙ (alike.begin_alike s delay way same_delay p o begins n).place i inside

    pub unheard : IsUnheard a p end
    unheard =
        unheard_by (λ i inside. (same.same_at m a are room (without_last a are) two mute p is_x end ends_x.none ends_x.there won_x unheard_by end (omega arith)).place i inside)

    pub drove_is : (i t : ℕ) → i < s.count → expected_drove x p (end + 13) i t ≡ expected_drove s o (end + 13) i t
    drove_is i t inside =
        (same.expects_the_same m a are room (without_last a are) two mute p is_x end ends_x.none ends_x.there won_x unheard_by).drove i t inside
        ∙ alike.same_drove s delay way same_delay p o begins (end + 13) i t inside
