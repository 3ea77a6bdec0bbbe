-- The machines of stations after the stuffed part of a frame: they are those of a wire.
use Rattle.std.proofs.Common.{◌≡◌, ◌≢◌, ◌∙◌, inl, inr, refl, sym, ap, subst, ℕ, zero, suc, ◌+◌, ◌<◌, ◌≤◌, ◌&&◌, not, cond, Bool, true, false, List, [], ◌∷◌, ◌++◌, length, Option, Some, None, is_some, append-nil, arith}
use Rattle.std.specs.Prelude.{◌==◌}
use Rattle.std.proofs.lemmas.Bool.{and_right, cases_Bool, cases_eq, eq-eqb, ne_eqb}
use Rattle.std.proofs.lemmas.List.Sums.{fold-append}
use Rattle.wl_level.specs.declared.Level.{Level}
use Rattle.wl_level.specs.Levels.{is_dominant, level_of}
use Rattle.wl_level.specs.Places.{first_place}
use Rattle.wl_topology.specs.Driven.{any_below}
use Rattle.wl_topology.proofs.Callers.{any_from, any_none, any_same}
use Rattle.wl_frame.specs.Grammar.{Content, IsContent, bits_of, content_of, is_crc_right}
use Rattle.wl_frame.specs.Header.{sent_free}
use Rattle.wl_frame.specs.Stuffing.{destuffed_bits}
use Rattle.wl_frame.proofs.Callers.{frame_is_read}
use Rattle.wl_machine.specs.declared.state.Role.TheVariants.{Rx, Tx}
use Rattle.wl_machine.specs.Stretch.{Sampled}
use Rattle.wl_machine.specs.Stretch.Sort.{Framing}
use Rattle.wl_machine.specs.Stretch.Input.{Sample}
use Rattle.wl_machine.specs.Frames.{frame_role, stuffed_end}
use Rattle.wl_machine.specs.Judged.{drive_of, head_of, stretch_after, stretch_of}
use Rattle.wl_machine.specs.Laws.{FoundSent}
use Rattle.wl_machine.specs.States.{stretch_by}
use Rattle.wl_machine.proofs.Callers.{kept_is_all, stretch_next}
use Rattle.wl_wire.specs.Wire.{Event, Handed, Wire, bus, drives_dominant, idle_wire, is_between, next_wire, sampled, stretch_at, wire_after}
use Rattle.wl_wire.specs.Wire.Event.{Bit as BusBit}
use Rattle.wl_wire.specs.InStep.{AreInFrame, AreInStep, Has, IsSender, or_all}
use Rattle.wl_wire.specs.Winner.{HasOneWinner}
use Rattle.wl_wire.proofs.Callers.{count_after, role_cases}
use Rattle.wl_buses.specs.OneFrame.Stations.{AreStations, HaveRoom, Stations}
use Rattle.wl_buses.specs.OneFrame.Starts.{Start}
use Rattle.wl_buses.specs.OneFrame.OneBit.{IsRight}
use Rattle.wl_buses.specs.OneFrame.Course.{bus_bit, still_sends}
use Rattle.wl_buses.specs.OneFrame.Machines.{AreMachines, GoesByMachines, HasWon, bus_levels}
use Rattle.wl_buses.specs.OneFrame.Expected.{IsOutset, Outset, expected_bits, expected_drove, past_at, wants}
use Rattle.wl_buses.proofs.OneFrame.Acks.{another}
use Rattle.wl_buses.proofs.OneFrame.Expecting.{drives_are}
use Rattle.wl_buses.proofs.OneFrame.Machines.{first_any, frames_after, goes, no_intermission, not_between, levels_length}
use Rattle.wl_buses.proofs.OneFrame.Seeing.{right_at}
use Rattle.wl_buses.specs.FrameEnd.Ends.{end_bit, end_drive, end_stretch}
use Rattle.wl_buses.specs.FrameEnd.Asked.{EndAsAsked, begun_frame}
use Rattle.wl_buses.proofs.FrameEnd.Below.{MachineLaws}
use Rattle.wl_buses.proofs.FrameEnd.Ends as machine

read_there : (c : Content) → IsContent c → (is_crc_right (bits_of c) ≡ true) × (content_of (bits_of c) ≡ c)
unfolding bits_of
read_there c is = let x = (frame_is_read (bits_of c) c).0 (is, sent_free, refl) in (x.crc, x.content)

-- what is tested with what holds
pub and_yes : (b : Bool) → (b && true) ≡ b
and_yes true = refl
and_yes false = refl

no_tx : frame_role None [] ≡ Tx → ⊥
no_tx e = cc

pub not_first : (s : Stations) (o : Outset) (end : ℕ) → stuffed_end (bus_levels s (expected_bits s o) end) ≡ Some end → (n : ℕ) × (suc n ≡ end)
not_first s o zero over = (let none : false ≡ true = ap is_some over in cc)
not_first s o (suc n) over = (n, refl)

module _ (m : MachineLaws) (s : Stations) (are : AreStations s) (room : HaveRoom s) (o : Outset) (is : IsOutset s o) (end : ℕ)
    (valid : (n : ℕ) → n < end → stuffed_end (bus_levels s (expected_bits s o) n) ≡ None)
    (over : stuffed_end (bus_levels s (expected_bits s o) end) ≡ Some end) (won : HasWon s (expected_bits s o) o.frames end) where
  abbrev bits : ℕ → Start
  bits = expected_bits s o

  abbrev own : List Level
  own = bus_levels s bits end

  -- the wire that these machines are on
  pub events : ℕ → List Event
  events zero = is.earlier
  events (suc n) = events n ++ BusBit (o.handed n) ∷ []

  pub wire : ℕ → Wire
  wire n = wire_after (idle_wire s.count o.frames) (events n)

  wire_next : (n : ℕ) → wire (suc n) ≡ next_wire (wire n) (BusBit (o.handed n))
  unfolding wire events
  wire_next n = fold-append next_wire (idle_wire s.count o.frames) (events n) (BusBit (o.handed n) ∷ [])

  pub count_there : (n : ℕ) → s.count ≡ (wire n).count
  unfolding wire
  count_there n = sym (count_after (idle_wire s.count o.frames) (events n))

  pub frames_are : (n : ℕ) → (wire n).frames ≡ o.frames
  unfolding wire
  frames_are n = frames_after (idle_wire s.count o.frames) (events n)

  past_next : (n k : ℕ) → (wire (suc n)).past k ≡ (wire n).past k ++ Sample (sampled (bus (wire n)) (o.frames k) (o.handed n k)) ∷ []
  past_next n k =
      ap (λ w. w.past k) (wire_next n)
      ∙ ap (λ f. (wire n).past k ++ Sample (sampled (bus (wire n)) (f k) (o.handed n k)) ∷ []) (frames_are n)

  first_agrees : (k : ℕ) → k < s.count → (wire 0).past k ≡ past_at s o 0 k
  unfolding wire events
  first_agrees k lt = sym (is.reached k lt)

  pub agrees : (n k : ℕ) → k < s.count → (wire n).past k ≡ past_at s o n k
  agrees zero k lt = first_agrees k lt
  agrees (suc n) k lt =
      past_next n k
      ∙ ap (λ l. (wire n).past k ++ Sample (sampled l (o.frames k) (o.handed n k)) ∷ []) (bus_is n (λ j inside. agrees n j inside))
      ∙ ap (λ p. p ++ Sample (sampled (level_of (any_below s.count (wants s o n))) (o.frames k) (o.handed n k)) ∷ []) (agrees n k lt)
    where
      bus_is : (n : ℕ) → ((j : ℕ) → j < s.count → (wire n).past j ≡ past_at s o n j) → bus (wire n) ≡ level_of (any_below s.count (wants s o n))
      bus_is n all =
          ap (λ c. level_of (is_some (first_place (drives_dominant (wire n)) c))) (sym (count_there n))
          ∙ ap level_of (first_any s.count (drives_dominant (wire n))
          ∙ any_same s.count (drives_dominant (wire n)) (wants s o n) (λ j inside. ap (λ p. is_dominant (drive_of (stretch_of p))) (all j inside)))

  pub reached_after : (n k : ℕ) → k < s.count → (wire_after (idle_wire s.count o.frames) (events n)).past k ≡ past_at s o n k
  unfolding wire
  reached_after n k lt = agrees n k lt

  -- with a bit more, whatever is handed with it
  pub reached_with : (n : ℕ) (handed : ℕ → Handed) (k : ℕ)
      → (wire_after (idle_wire s.count o.frames) (events n ++ BusBit handed ∷ [])).past k ≡ (wire n).past k ++ Sample (sampled (bus (wire n)) (o.frames k) (handed k)) ∷ []
  unfolding wire
  reached_with n handed k =
      ap (λ w. w.past k) (fold-append next_wire (idle_wire s.count o.frames) (events n) (BusBit handed ∷ []))
      ∙ ap (λ f. (wire n).past k ++ Sample (sampled (bus (wire n)) (f k) (handed k)) ∷ []) (frames_are n)

  -- at the end of the stuffed part
  pub begin : (n : ℕ) × (suc n ≡ end)
  begin = not_first s o end over

  machines : AreMachines s bits (expected_drove s o end) o.frames (past_at s o) end
  machines = record {
    earlier = is.earlier;
    handed = o.handed;
    reached = is.reached;
    begin = is.may;
    joins = is.joins;
    drives = λ n k less lt. drives_are m.steps m.errors m.winner m.stuffed m.six m.ten s are room o is n k;
    samples = λ n k less lt. ap (λ b. past_at s o n k ++ Sample (sampled (level_of b) (o.frames k) (o.handed n k)) ∷ [])
        (any_same s.count (wants s o n) (bits n).drives (λ j inside. sym (drives_are m.steps m.errors m.winner m.stuffed m.six m.ten s are room o is n j))
        ∙ sym (right_at m.steps m.errors m.winner m.stuffed m.six m.ten m.driven s are room o is end valid n k less lt));
  }

  pub last : GoesByMachines s bits (expected_drove s o end) o.frames (past_at s o) begin.0
  last =
      let e = begin.1 in
      goes m.steps m.errors m.winner m.stuffed m.six m.ten s bits (expected_drove s o end) o.frames (past_at s o) end is.frames machines is.some begin.0 (omega arith)
      (λ k lt n below. right_at m.steps m.errors m.winner m.stuffed m.six m.ten m.driven s are room o is end valid n k (omega arith) lt) (valid begin.0 (omega arith))

  good : (k : ℕ) → k < s.count → (n : ℕ) → n < suc begin.0 → IsRight s (bits n) (expected_drove s o end) k
  good k lt n below = let e = begin.1 in right_at m.steps m.errors m.winner m.stuffed m.six m.ten m.driven s are room o is end valid n k (omega arith) lt

  framing : (k : ℕ) → k < s.count → (head : Option Content) × (stretch_of (past_at s o end k) ≡ stretch_by (Framing head) own)
  framing k lt = subst (λ n. (head : Option Content) × (stretch_of (past_at s o n k) ≡ stretch_by (Framing head) (bus_levels s bits n))) begin.1 (last.framing k lt (good k lt))

  there : (k : ℕ) → k < s.count → stretch_of (past_at s o end k) ≡ stretch_by (Framing (begun_frame s o end k)) own
  there k lt = let f = framing k lt in f.1 ∙ ap (λ h. stretch_by (Framing h) own) (sym (ap (λ y. head_of y.sort) f.1))

  wire_there : (k : ℕ) → k < s.count → stretch_at (wire end) k ≡ stretch_by (Framing (begun_frame s o end k)) own
  wire_there k lt = ap stretch_of (agrees end k lt) ∙ there k lt

  in_step : AreInStep (wire end)
  unfolding wire
  in_step = m.steps s.count o.frames (events end) is.frames

  pub one_winner : HasOneWinner (wire end)
  unfolding wire
  one_winner = m.winner s.count o.frames (events end) is.frames

  two : 2 ≤ s.count
  two = is.frames.two

  in_frame : AreInFrame (wire end) own
  in_frame = by in_step
    where
      count : 0 < (wire end).count
      count = let c = count_there end in let t = two in omega arith

      by : AreInStep (wire end) → AreInFrame (wire end) own
      by (inl between) =
          absurd (not_between (begun_frame s o end 0) own (let l = levels_length s bits end in let b = begin.1 in omega arith) (sym (ap is_between (wire_there 0 (let t = two in omega arith))) ∙ between 0 count))
      by (inr (inl pause)) =
          absurd (no_intermission (begun_frame s o end 0) (pause.1.each 0 count).0 (ap (λ y. y.sort) (sym (wire_there 0 (let t = two in omega arith)) ∙ (pause.1.each 0 count).1)))
      by (inr (inr frame)) =
          subst (AreInFrame (wire end)) (ap (λ y. y.own) (sym (frame.1.each 0 count).1 ∙ wire_there 0 (let t = two in omega arith))) frame.1

  inside : won.station < s.count
  inside = won.inside

  -- the one that is left
  record Sends (k : ℕ) : Type 0 where
    head : Content
    own_frame : Has o.frames k head
    sends : IsSender (wire end) own k head

  station_sends : Sends won.station
  station_sends =
      let e = begin.1 in
      let x = last.sends won.station inside (good won.station inside) (subst (λ n. still_sends s bits n won.station ≡ true) (sym e) won.sends) in
      record {
        head = x.0;
        own_frame = x.1;
        sends = record {
          framing = ap stretch_of (agrees end won.station inside) ∙ subst (λ n. stretch_of (past_at s o n won.station) ≡ stretch_by (Framing (Some x.0)) (bus_levels s bits n)) e x.2;
          role = subst (λ n. frame_role (Some x.0) (bus_levels s bits n) ≡ Tx) e x.3;
        };
      }

  -- its frame is what was on the bus
  pub length_is : stuffed_end own ≡ Some (length own)
  length_is = over ∙ ap Some (sym (levels_length s bits end))

  kept_frame : destuffed_bits own end ≡ bits_of won.frame
  kept_frame =
      let content = is.frames.content won.station won.frame inside won.own in
      kept_is_all won.frame own end content over (subst (FoundSent won.frame own) (levels_length s bits end) (m.found won.frame own content won.stuffs))

  kept_head : destuffed_bits own end ≡ bits_of station_sends.head
  kept_head =
      let x = station_sends in
      let c = count_there end in
      kept_is_all x.head own end (is.frames.content won.station x.head inside x.own_frame) over
      (subst (FoundSent x.head own) (ap (λ e. or_all e (length own)) over) (in_frame.found won.station x.head (let i = inside in omega arith) x.sends))

  same_frame : station_sends.head ≡ won.frame
  same_frame =
      let x = station_sends in
      sym (read_there x.head (is.frames.content won.station x.head inside x.own_frame)).1 ∙ ap content_of (sym kept_head ∙ kept_frame)
      ∙ (read_there won.frame (is.frames.content won.station won.frame inside won.own)).1

  begun : begun_frame s o end won.station ≡ Some won.frame
  begun = ap (λ y. head_of y.sort) (sym (ap stretch_of (agrees end won.station inside)) ∙ station_sends.sends.framing) ∙ ap Some same_frame

  crc_there : is_crc_right (destuffed_bits own end) ≡ true
  crc_there = ap is_crc_right kept_frame ∙ (read_there won.frame (is.frames.content won.station won.frame inside won.own)).0

  pub crc_all : is_crc_right (destuffed_bits own (length own)) ≡ true
  crc_all = ap (λ n. is_crc_right (destuffed_bits own n)) (levels_length s bits end) ∙ crc_there

  sends_by : (k : ℕ) (o' : Option Content) → frame_role o' own ≡ Tx → (h : Content) × (o' ≡ Some h)
  sends_by k None e = absurd (no_tx e)
  sends_by k (Some h) e = (h, refl)

  receives : (k : ℕ) → k < s.count → k ≢ won.station → frame_role (begun_frame s o end k) own ≡ Rx
  receives k lt other = elim (role_cases (frame_role (begun_frame s o end k) own)) [
    | inl sends ↦
        (let h = sends_by k (begun_frame s o end k) sends in
        let c = count_there end in
        let x = station_sends in
        absurd (other (one_winner.alone own end k won.station h.0 x.head (omega arith) (let i = inside in omega arith) over
        (record { framing = wire_there k lt ∙ ap (λ b. stretch_by (Framing b) own) h.1; role = ap (λ b. frame_role b own) (sym h.1) ∙ sends }) x.sends)))
    | inr r ↦ r
  ]

  role_of_sender : frame_role (begun_frame s o end won.station) own ≡ Tx
  role_of_sender = ap (λ b. frame_role b own) (begun ∙ ap Some (sym same_frame)) ∙ station_sends.sends.role

  roles : (k : ℕ) → k < s.count → frame_role (begun_frame s o end k) own ≡ cond (k == won.station) Tx Rx
  roles k lt = elim (cases_eq k won.station) [
    | inl same ↦ ap (λ j. frame_role (begun_frame s o end j) own) same ∙ role_of_sender ∙ ap (λ b. cond b Tx Rx) (sym (eq-eqb k won.station same))
    | inr other ↦ receives k lt other ∙ ap (λ b. cond b Tx Rx) (sym (ne_eqb k won.station other))
  ]

  drive_by : (b : Bool) (place : ℕ) → end_drive (cond b Tx Rx) place ≡ (end_bit place && not b)
  drive_by true place = sym (and_right (end_bit place) false refl)
  drive_by false place = sym (and_yes (end_bit place))

  -- place by place
  abbrev Stage : ℕ → Type 0
  Stage place = (k : ℕ) → k < s.count → stretch_of (past_at s o (end + place) k) ≡ end_stretch (begun_frame s o end k) own place

  wants_by : (place k : ℕ) → k < s.count → Stage place → wants s o (end + place) k ≡ (end_bit place && not (k == won.station))
  wants_by place k lt stage =
      ap (λ y. is_dominant (drive_of y)) (stage k lt) ∙ machine.drives (begun_frame s o end k) own length_is crc_all place
      ∙ ap (λ r. end_drive r place) (roles k lt) ∙ drive_by (k == won.station) place

  any_by : (place : ℕ) → Stage place → any_below s.count (wants s o (end + place)) ≡ end_bit place
  any_by place stage = elim (cases_Bool (end_bit place)) [
    | inl slot ↦
        (let k = another won.station in
        let lt : k.0 < s.count = (let t = two in let h = k.1 in omega arith) in
        any_from s.count k.0 (wants s o (end + place)) lt
        (wants_by place k.0 lt stage ∙ ap (λ b. b && not (k.0 == won.station)) slot ∙ ap not (ne_eqb k.0 won.station k.2))
        ∙ sym slot)
    | inr none ↦ any_none s.count (wants s o (end + place)) (λ k lt. wants_by place k lt stage ∙ ap (λ b. b && not (k == won.station)) none) ∙ sym none
  ]

  stage_next : (place : ℕ) → place < 12 → Stage place → Stage (suc place)
  stage_next place below stage k lt =
      let e : end + suc place ≡ suc (end + place) = omega arith in
      let x : Sampled = sampled (level_of (any_below s.count (wants s o (end + place)))) (o.frames k) (o.handed (end + place) k) in
      ap (λ n. stretch_of (past_at s o n k)) e ∙ stretch_next (past_at s o (end + place) k) (Sample x) ∙ ap (λ y. stretch_after y (Sample x)) (stage k lt)
      ∙ (machine.goes (begun_frame s o end k) own length_is crc_all place x below (ap level_of (any_by place stage))).next

  first_stage : Stage 0
  first_stage k lt =
      let e : end + 0 ≡ end = omega arith in
      ap (λ n. stretch_of (past_at s o n k)) e ∙ there k lt ∙ ap (stretch_by (Framing (begun_frame s o end k))) (sym (append-nil own))

  stages : (place : ℕ) → place ≤ 12 → Stage place
  stages zero below = first_stage
  stages (suc place) below = stage_next place (omega arith) (stages place (omega arith))

  bus_by : (place : ℕ) → Stage place → bus_bit s bits (end + place) ≡ end_bit place
  bus_by place stage =
      any_same s.count (bits (end + place)).drives (wants s o (end + place)) (λ k lt. drives_are m.steps m.errors m.winner m.stuffed m.six m.ten s are room o is (end + place) k)
      ∙ any_by place stage

  pub as_asked : EndAsAsked s o end won.station won.frame
  as_asked = record {
    own = begun;
    role = roles;
    crc = crc_there;
    read = ap content_of kept_frame ∙ (read_there won.frame (is.frames.content won.station won.frame inside won.own)).1;
    stretch = λ place k below lt. stages place below k lt;
    drives = λ place k below lt. wants_by place k lt (stages place below);
    bus = λ place below. bus_by place (stages place below);
  }
