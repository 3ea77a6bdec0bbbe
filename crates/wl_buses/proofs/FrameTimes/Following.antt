-- When the next frame begins at a station that has one ready.
use Rattle.std.proofs.Common.{◌≡◌, ◌∙◌, refl, sym, ap, ℕ, suc, ◌+◌, ◌*◌, ◌≤◌, cond, not, Bool, true, Option, Some, None, arith}
use Rattle.std.proofs.lemmas.Bool.{and_parts}
use Rattle.wl_level.specs.Places.{first_place}
use Rattle.wl_level.proofs.Callers.{first_is}
use Rattle.wl_segments.specs.Lengths.{bit_quanta}
use Rattle.wl_phase.specs.Clocks.{steady_tick}
use Rattle.wl_buses.specs.OneFrame.Expected.{expected_bits, most}
use Rattle.wl_buses.specs.OneFrame.Stations.{Stations}
use Rattle.wl_buses.specs.FirstFrame.FirstStarts.{Waiting, due_first, edge_first, first_outset, hard_place, has_first, is_reached_first, looks_first}
use Rattle.wl_buses.specs.NextFrames.Frames.{Frame, IsBegun, IsBegunAfter, resting_of}
use Rattle.wl_buses.specs.NextFrames.NextStarts.{begins_next, decision_next, due_next, edge_next, has_next, is_reached_next, looks_next}
use Rattle.wl_buses.proofs.NextFrames.Winning.{has_driven}
use Rattle.wl_buses.specs.FrameTimes.Times.{start_place, following_place}

-- an edge that is found by the quantum with which a start of frame is due makes it no later
hard_by_due : (test : ℕ → Bool) (n due : ℕ) (found : Option ℕ) → first_place test n ≡ found → n ≡ suc due → hard_place due found ≤ due
hard_by_due test n due None e same = omega arith
hard_by_due test n due (Some q) e same = (let inside = (first_is test n q e).inside in omega arith)

-- who wins has a frame
pub winner_has : (s : Stations) (a b : Frame) (next : IsBegunAfter s a b) (is : IsBegun s b) → has_next (resting_of s a b next) is.won.station ≡ true
winner_has s a b next is =
    let drives : (expected_bits s b.outset 0).drives is.won.station ≡ true = has_driven s (expected_bits s b.outset) b.bits is.won.station (ap (λ o. o.start.joins is.won.station) next.is) is.won.sends in
    let begins : begins_next (resting_of s a b next) is.won.station ≡ true = sym (ap (λ o. (expected_bits s o 0).drives is.won.station) next.is) ∙ drives in
    (and_parts (has_next (resting_of s a b next) is.won.station) (not (is_reached_next (resting_of s a b next) is.won.station (decision_next (resting_of s a b next) is.won.station))) begins).0

pub begins_by_due : (s : Stations) (a b : Frame) (next : IsBegunAfter s a b) (i : ℕ) → has_next (resting_of s a b next) i ≡ true
    → start_place s b i ≤ following_place s a i + next.decides i * bit_quanta (s.lengths i)
begins_by_due s a b next i has =
    let start : start_place s b i ≡ hard_place (due_next (resting_of s a b next) i) (edge_next (resting_of s a b next) i) = ap (λ o. (expected_bits s o 0).place i) next.is in
    let looks : suc (looks_next (resting_of s a b next) i) ≡ suc (due_next (resting_of s a b next) i) =
    ap (λ c. suc (cond c (due_next (resting_of s a b next) i) (most s.count (λ k. steady_tick (s.clocks k) (due_next (resting_of s a b next) k) + s.delay k i)))) has in
    let low = hard_by_due (is_reached_next (resting_of s a b next) i) (suc (looks_next (resting_of s a b next) i)) (due_next (resting_of s a b next) i) (edge_next (resting_of s a b next) i) refl looks in
    omega arith

-- and the first frame of all
pub first_by_due : (w : Waiting) (f : Frame) → f.outset ≡ first_outset w → (i : ℕ) → has_first w i ≡ true → start_place w.stations f i ≤ due_first w i
first_by_due w f is i has =
    let start : start_place w.stations f i ≡ hard_place (due_first w i) (edge_first w i) = ap (λ o. (expected_bits w.stations o 0).place i) is in
    let looks : suc (looks_first w i) ≡ suc (due_first w i) =
    ap (λ c. suc (cond c (due_first w i) (most w.stations.count (λ k. steady_tick (w.stations.clocks k) (due_first w k) + w.stations.delay k i)))) has in
    let low = hard_by_due (is_reached_first w i) (suc (looks_first w i)) (due_first w i) (edge_first w i) refl looks in
    omega arith
