-- Worked stations that begin a first frame, by computation.
use Rattle.std.proofs.Common.{◌≡◌, ℕ, zero, suc, true, false, List, [], ◌∷◌, None, Some, refl}
use Rattle.wl_phase.specs.Clocks.{steady_tick}
use Rattle.wl_frame.specs.Grammar.{Content}
use Rattle.wl_machine.specs.Stretch.Sort.{Framing}
use Rattle.wl_machine.specs.Judged.{stretch_of}
use Rattle.wl_machine.specs.States.{stretch_by}
use Rattle.wl_buses.specs.FirstFrame.FirstStarts.{Waiting, begins_first, decision_quantum, due_first, edge_first, eleventh, first_start, last_before, rest_first, silent_past}
use Rattle.wl_buses.proofs.BothProofs.Rows.{c, s}

-- Station 1 decides with the sample of its bit 11. Its start of frame is due with its quantum 120, at tick 1267, and reaches station 0 at tick 1276.
abbrev decide : ℕ → ℕ → ℕ
decide n zero = n
decide n (suc k) = 11

abbrev both : ℕ → Waiting
both n = record { stations = s; frames = λ k. c ∷ []; which = λ k. 0; decides = decide n }

due_there : due_first (both 12) 1 ≡ 120
due_there = refl

-- Station 0 decides with the sample of its bit 12, by its quantum 127 at tick 1270, and is due with its quantum 130. It finds the edge by its quantum 128 at tick 1280, and begins with it.
decides_before : decision_quantum (both 12) 0 ≡ 127
decides_before = refl

finds_edge : edge_first (both 12) 0 ≡ Some 128
unfolding steady_tick
finds_edge = refl

begins_with_it : begins_first (both 12) 0 ≡ true
unfolding steady_tick
begins_with_it = refl

placed : (first_start (both 12)).place 0 ≡ 127
unfolding steady_tick
placed = refl

rests : rest_first (both 12) 0 ≡ 120
unfolding steady_tick
rests = refl

-- station 1 begins by itself: that of station 0 reaches it at tick 1309
begins_alone : edge_first (both 12) 1 ≡ None
unfolding steady_tick
begins_alone = refl

sends_alone : (first_start (both 12)).from 1 ≡ 120
unfolding steady_tick
sends_alone = refl

-- A bit later station 0 would decide by its quantum 137, which is too late: it follows the edge, and drives nothing. Its last bit before is bit 12.
follows : begins_first (both 13) 0 ≡ false
unfolding steady_tick
follows = refl

last_bit : last_before (both 13) 0 ≡ 12
unfolding steady_tick
last_bit = refl

-- so it is without a frame
abbrev frames_of : ℕ → List Content
frames_of zero = []
frames_of (suc k) = c ∷ []

abbrev one : Waiting
one = record { stations = s; frames = frames_of; which = λ k. 0; decides = decide 10 }

listens : edge_first one 0 ≡ Some 128
unfolding steady_tick
listens = refl

alone : begins_first one 1 ≡ true
unfolding steady_tick
alone = refl

-- It may decide with its eleventh sample, and is then to begin its frame.
tenth_bit : eleventh (both 10) 0 ≡ 107
tenth_bit = refl

to_begin : stretch_of (silent_past true (c ∷ []) 0 10) ≡ stretch_by (Framing (Some c)) []
to_begin = refl

-- An edge that comes just when a station would decide: station 1 has quanta of 10 ticks and begins at tick 1, and its start of frame reaches station 0 at tick 1210, the tick of the
-- sample of bit 11 but for three quanta, at tick 1170. With a frame of that bit station 0 begins by itself at tick 1200; with one of the next bit it follows.
abbrev near : ℕ → Waiting
near n = record { stations = record s { clocks = λ k. record { offset = k; part = 0; num = 10; den = 1 } }; frames = λ k. c ∷ []; which = λ k. 0; decides = decide n }

both_alone : edge_first (near 11) 0 ≡ None
unfolding steady_tick
both_alone = refl

other_alone : edge_first (near 11) 1 ≡ None
unfolding steady_tick
other_alone = refl

one_later : (first_start (near 12)).from 0 ≡ 121
unfolding steady_tick
one_later = refl
