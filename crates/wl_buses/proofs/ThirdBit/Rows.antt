-- Worked stations of which one is in the third bit of its intermission when the next frame begins, by computation.
use Rattle.std.proofs.Common.{◌≡◌, ℕ, zero, suc, ◌+◌, Bool, true, false, [], ◌∷◌, Some, refl}
use Rattle.wl_confine.specs.declared.Mode.TheVariants.{Active}
use Rattle.wl_phase.specs.Clocks.{steady_tick}
use Rattle.wl_wire.specs.Wire.{Handed}
use Rattle.wl_buses.specs.NextFrames.NextStarts.{Resting, begins_next, due_next, edge_next, handed_next, is_reached_next, last_next, rest_next, rested}
use Rattle.wl_buses.specs.ThirdBit.ThirdStarts.{handed_third, past_from_third, start_third}
use Rattle.wl_buses.proofs.BothProofs.Rows.{c, s}

-- Place 0 of the third bit of the intermission is at quantum 100 of station 0, and place 0 of the second one at quantum 90 of station 1. Station 0 has a frame that is ready by its third bit, and station 1
-- would decide with the bit after its third one.
abbrev places : ℕ → ℕ
places zero = 100
places (suc k) = 90

abbrev decide : ℕ → ℕ
decide zero = 0
decide (suc k) = 2

abbrev third : ℕ → Bool
third zero = false
third (suc k) = true

abbrev r : Resting
r = record { stations = s; frames = λ k. c ∷ []; which = λ k. 0; place = places; decides = decide }

abbrev given : ℕ → Handed
given k = record { which = 0; mode = Active }

-- it has sampled the second bit by quantum 97, and would sample the third one by quantum 107
second_by : rested r 1 ≡ 97
second_by = refl

due_then : due_next r 1 ≡ 120
due_then = refl

-- Station 0 begins at tick 1100. That reaches station 1 at tick 1109, which its quantum 105 finds: after the sample of its second bit, and before that of its third one.
unreached : is_reached_next r 1 97 ≡ false
unfolding steady_tick
unreached = refl

reached : is_reached_next r 1 107 ≡ true
unfolding steady_tick
reached = refl

edge_there : edge_next r 1 ≡ Some 105
unfolding steady_tick
edge_there = refl

none_begun : begins_next r 1 ≡ false
unfolding steady_tick
none_begun = refl

-- so its last bit before is the second one, and place 0 of its start of frame is a quantum before that
last_second : last_next r 1 ≡ 0
unfolding steady_tick
last_second = refl

rest_second : rest_next r 1 ≡ 90
unfolding steady_tick
rest_second = refl

synchronised : (start_third r third (λ k. []) given).place 1 ≡ 104
unfolding steady_tick
synchronised = refl

-- who is handed what, and what has reached whom: a station in its third bit nothing more
handed_other : handed_third r third (λ k. record { which = 7; mode = Active }) 0 ≡ handed_next 0
handed_other = refl

handed_it : handed_third r third (λ k. record { which = 7; mode = Active }) 1 ≡ handed_next 7
handed_it = refl

past_it : past_from_third r third (λ k. []) 1 ≡ []
past_it = refl
