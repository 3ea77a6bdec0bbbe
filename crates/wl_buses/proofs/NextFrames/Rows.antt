-- Worked stations that begin a frame after another one, by computation.
use Rattle.std.proofs.Common.{◌≡◌, ℕ, zero, suc, true, false, [], ◌∷◌, None, Some, refl}
use Rattle.wl_level.specs.declared.Level.TheVariants.{Recessive}
use Rattle.wl_confine.specs.declared.Mode.TheVariants.{Active}
use Rattle.wl_phase.specs.Clocks.{steady_tick}
use Rattle.wl_machine.specs.Stretch.Input.{Sample}
use Rattle.wl_machine.specs.States.{sample_of}
use Rattle.wl_buses.specs.OneFrame.Machines.{no_frame_sample}
use Rattle.wl_buses.specs.NextFrames.NextStarts.{Resting, begins_next, decision_next, due_next, edge_next, has_next, last_next, rest_next, rested, start_next, waiting_past}
use Rattle.wl_buses.specs.NextFrames.NextNodes.{head_after}
use Rattle.wl_buses.specs.BothProofs.Queues.{queued_contents}
use Rattle.wl_buses.specs.NextFrames.Queues.{decides_after}
use Rattle.wl_buses.proofs.BothProofs.Rows.{c, l, s}
use Rattle.wl_node.specs.History.{ready_head}

-- Place 0 of the third bit of the intermission is at quantum 100 of station 0 and at quantum 95 of station 1. Station 1 decides with the sample of the bit after it.
abbrev place_among : ℕ → ℕ
place_among zero = 100
place_among (suc k) = 95

abbrev decide : ℕ → ℕ → ℕ
decide n zero = n
decide n (suc k) = 1

abbrev after : ℕ → Resting
after n = record { stations = s; frames = λ k. c ∷ []; which = λ k. 0; place = place_among; decides = decide n }

-- it rests with that sample, and begins no earlier than a bit later
rests_by : rested (after 0) 0 ≡ 107
rests_by = refl

decides_with_it : decision_next (after 0) 0 ≡ 107
decides_with_it = refl

due_next_bit : due_next (after 0) 0 ≡ 110
due_next_bit = refl

due_other : due_next (after 0) 1 ≡ 115
due_other = refl

-- With a frame that is ready by its third bit station 0 begins at tick 1100. That reaches station 1 at tick 1109, before it decides by its quantum 112, at tick 1183: its frame waits.
alone : edge_next (after 0) 0 ≡ None
unfolding steady_tick
alone = refl

too_late : begins_next (after 0) 1 ≡ false
unfolding steady_tick
too_late = refl

follows : (start_next (after 0)).from 1 ≡ 105
unfolding steady_tick
follows = refl

last_third : last_next (after 0) 1 ≡ 0
unfolding steady_tick
last_third = refl

-- With one that is ready a bit later station 0 begins at tick 1200. That reaches station 1 at tick 1209, after it has decided: it begins with its quantum 115, which finds the edge.
both : begins_next (after 1) 1 ≡ true
unfolding steady_tick
both = refl

with_it : (start_next (after 1)).place 1 ≡ 114
unfolding steady_tick
with_it = refl

last_one : rest_next (after 1) 1 ≡ 105
unfolding steady_tick
last_one = refl

-- With one that is ready two bits later station 0 decides by its quantum 127, too late: the start of frame of station 1 reaches it at tick 1223.
loses : begins_next (after 2) 0 ≡ false
unfolding steady_tick
loses = refl

found : edge_next (after 2) 0 ≡ Some 123
unfolding steady_tick
found = refl

last_before : rest_next (after 2) 0 ≡ 110
unfolding steady_tick
last_before = refl

-- a station that has sent its frames has none left
abbrev over : Resting
over = record { stations = s; frames = λ k. c ∷ []; which = λ k. 1; place = place_among; decides = decide 0 }

done : has_next over 0 ≡ false
done = refl

-- what reaches a machine that is handed its frame with the second bit after the intermission
waits : waiting_past true (c ∷ []) 0 1 ≡ no_frame_sample ∷ Sample (sample_of Recessive (Some c) Active) ∷ []
waits = refl

none_left : waiting_past false (c ∷ []) 1 1 ≡ no_frame_sample ∷ no_frame_sample ∷ []
none_left = refl

-- a frame that becomes ready at quantum 110, between the samples of the third bit and of the next
ready_between : head_after (after 1) 0 None (ready_head (record { frame = c; ready = 110 } ∷ [])) 1 ≡ Some c
ready_between = refl

not_ready : head_after (after 1) 0 None (ready_head (record { frame = c; ready = 118 } ∷ [])) 1 ≡ None
not_ready = refl

-- With a frame that is ready by quantum 107 a node decides with its third bit of the intermission, with one of quantum 108 a bit later, and with one of quantum 118 two bits later.
decides_third : decides_after l 100 107 ≡ 0
decides_third = refl

decides_later : decides_after l 100 108 ≡ 1
decides_later = refl

decides_last : decides_after l 100 118 ≡ 2
decides_last = refl

long_ago : decides_after l 100 3 ≡ 0
long_ago = refl

queued : queued_contents (record { frame = c; ready = 3 } ∷ record { frame = c; ready = 1 } ∷ []) ≡ c ∷ c ∷ []
queued = refl
