use Rattle.std.proofs.Common.{◌≡◌, ◌∙◌, sym, ap, subst, cond, ℕ, suc, ◌+◌, ◌*◌, ◌<◌, ◌≤◌, true, [], arith}
use Rattle.std.proofs.lemmas.Bool.{lt-ltb, ne_eqb}
use Rattle.wl_segments.specs.Lengths.{bit_quanta, sample_at}
use Rattle.wl_buses.specs.OneFrame.Expected.{IsOutset, Outset, expected_bits, expected_sample, past_at}
use Rattle.wl_buses.specs.OneFrame.Lines.{BeginsAfter}
use Rattle.wl_buses.specs.OneFrame.Machines.{HasWon}
use Rattle.wl_buses.specs.OneFrame.Stations.{AreStations, HaveRoom, Stations}
use Rattle.wl_buses.specs.FrameEnd.Asked.{EndsBefore}
use Rattle.wl_buses.specs.FrameEnd.Third.{RestsInThird}
use Rattle.wl_buses.specs.NextFrames.Frames.{Frame}
use Rattle.wl_buses.specs.NextFrames.NextStarts.{past_next, rest_next}
use Rattle.wl_buses.specs.ThirdBit.ThirdFrames.{FollowsFromThird}
use Rattle.wl_buses.specs.ThirdBit.ThirdStarts.{is_in_third, outset_third, past_from_third, resting_from_second}
use Rattle.wl_buses.proofs.FrameEnd.Below.{MachineLaws}
use Rattle.wl_buses.proofs.FrameEnd.Placing.{bus_at, plain_from, second_place}
use Rattle.wl_buses.proofs.third_bit.laws.a_node_goes_on_from_its_third_bit.Goals as goal

-- it drives nothing from before its sample of the second bit on
quiet_early : MachineLaws → (s : Stations) (o : Outset) (end : ℕ) → AreStations s → HaveRoom s → IsOutset s o → EndsBefore s o end → HasWon s (expected_bits s o) o.frames end → (i : ℕ)
    → (expected_bits s o (suc (suc end))).from i ≤ expected_sample s o (end + 11) i
quiet_early m s o end are room is ends won i =
    let none = bus_at m s are room o is end ends.none ends.there won 2 (suc (suc end)) (omega arith) (omega arith) ∙ ne_eqb 2 1 (λ f. omega (arith, f)) in
    let from = plain_from m s are room o is end ends.none ends.there won (suc end) i none in
    let place = second_place m s are room o is end ends.none ends.there won i in
    omega arith

-- nothing has reached its machine since
past_there : (s : Stations) (a b : Frame) (next : FollowsFromThird s a b) (i : ℕ) → i < s.count → is_in_third s a.outset a.bits next.which next.decides i ≡ true
    → b.outset.past i ≡ past_at s a.outset (a.bits + 12) i
past_there s a b next i inside e =
    ap (λ o. o.past i) next.is
    ∙ ap (λ c. cond c (past_from_third (resting_from_second s a.outset a.bits next.which next.decides) (is_in_third s a.outset a.bits next.which next.decides) (past_at s a.outset (a.bits + 12)) i) [])
    (lt-ltb i s.count inside)
    ∙ ap (λ c. cond c (past_at s a.outset (a.bits + 12) i) (past_next (resting_from_second s a.outset a.bits next.which next.decides) (past_at s a.outset (a.bits + 12)) i)) e

place_there : (s : Stations) (a b : Frame) (next : FollowsFromThird s a b) (i : ℕ) → is_in_third s a.outset a.bits next.which next.decides i ≡ true
    → (resting_from_second s a.outset a.bits next.which next.decides).place i ≡ (expected_bits s a.outset (a.bits + 11)).place i
place_there s a b next i e = ap (λ c. cond c ((expected_bits s a.outset (a.bits + 11)).place i) ((expected_bits s a.outset (a.bits + 12)).place i)) e

pub returns : goal.returns
returns c = λ s a b are room was is next i setup levels node inside third hears segments run rests hands finds.
    (let m : MachineLaws = record {
      steps = c.machines_stay_in_step.ensures.step;
      errors = c.machines_stay_in_step.ensures.errors;
      winner = c.the_least_field_wins.ensures;
      stuffed = c.a_transmitter_sends_its_head_stuffed.ensures.sent;
      found = c.a_transmitter_sends_its_head_stuffed.ensures.found;
      six = c.a_front_of_no_stuffing_ends_six_equal_bits.ensures;
      ten = c.ten_bits_have_an_edge.ensures.ten;
      driven = c.driven_laws.ensures;
    } in
    let resting = c.stations_are_in_the_third_bit_or_rest_after_a_frame.ensures.rest s a.outset a.bits was.chase next.which next.decides are room was.outset was.ends was.won was.answer next.more in
    let free = c.stations_are_in_the_third_bit_or_rest_after_a_frame.ensures.free s a.outset a.bits was.chase next.which next.decides are room was.outset was.ends was.won was.answer next.more in
    let begun =
    c.stations_begin_or_join_the_next_frame.ensures.after (resting_from_second s a.outset a.bits next.which next.decides) (is_in_third s a.outset a.bits next.which next.decides)
    (past_at s a.outset (a.bits + 12)) next.given are.line resting i inside in
    let last =
    c.stations_begin_or_join_the_next_frame.ensures.third (resting_from_second s a.outset a.bits next.which next.decides) (is_in_third s a.outset a.bits next.which next.decides)
    (past_at s a.outset (a.bits + 12)) are.line resting free i third ∙ place_there s a b next i third in
    let after : BeginsAfter s b.outset i ((expected_bits s a.outset (a.bits + 11)).place i) =
    subst (λ q. BeginsAfter s b.outset i q) last
    (subst (λ o. BeginsAfter s o i (rest_next (resting_from_second s a.outset a.bits next.which next.decides) i)) (sym next.is) begun) in
    let there : RestsInThird s (b.outset.past i) i levels node ((expected_bits s a.outset (a.bits + 11)).place i) ((expected_bits s a.outset (suc (suc a.bits))).from i) =
    subst (λ p. RestsInThird s p i levels node ((expected_bits s a.outset (a.bits + 11)).place i) ((expected_bits s a.outset (suc (suc a.bits))).from i))
    (sym (past_there s a b next i inside third)) rests in
    c.a_node_goes_from_third_bit_to_third_bit.ensures.third s b.outset b.bits are room is.outset is.some is.ends is.won i ((expected_bits s a.outset (a.bits + 11)).place i)
    ((expected_bits s a.outset (suc (suc a.bits))).from i) setup levels node inside hears segments run after there
    (quiet_early m s a.outset a.bits are room was.outset was.ends was.won i) hands finds)
