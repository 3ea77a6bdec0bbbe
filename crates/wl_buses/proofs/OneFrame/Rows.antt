-- Worked stations, by computation.
use Rattle.std.proofs.Common.{◌≡◌, ℕ, zero, suc, ◌+◌, Bool, true, false, [], ◌∷◌, None, Some, refl}
use Rattle.std.specs.Prelude.{◌==◌}
use Rattle.wl_level.specs.declared.Level.TheVariants.{Dominant}
use Rattle.wl_confine.specs.declared.Mode.TheVariants.{Active, Passive}
use Rattle.wl_machine.specs.declared.state.Role.TheVariants.{Rx, Tx}
use Rattle.wl_machine.specs.Stretch.Sort.{Framing, Idle, Intermission}
use Rattle.wl_machine.specs.States.{sample_of}
use Rattle.wl_phase.specs.Clocks.{steady_tick}
use Rattle.wl_bound.specs.Families.{Bus}
use Rattle.wl_bound.specs.Rooms.{beyond_jump, left_over}
use Rattle.wl_bound.specs.Terms.{drift, jump, look}
use Rattle.wl_buses.specs.OneFrame.Stations.{Stations, shared_tick, shared_quantum, shared_instant, bit_drift}
use Rattle.wl_buses.specs.OneFrame.Acknowledged.{any_way, chased_way, gathered_way, jump_gap, most_overrun, overrun}
use Rattle.wl_buses.specs.OneFrame.Answers.{gathered}
use Rattle.wl_buses.specs.OneFrame.Bounds.{bus_way, following_way}
use Rattle.wl_buses.specs.OneFrame.Starts.{Start, reaches_at}
use Rattle.wl_buses.specs.OneFrame.Course.{has_sent, since_edge, still_sends}
use Rattle.wl_buses.specs.OneFrame.Machines.{bus_levels, joins_by}
use Rattle.wl_buses.specs.OneFrame.Expected.{from_after, from_found, place_found}
use Rattle.wl_buses.proofs.BothProofs.Rows.{c, l, s}

-- in half ticks
tick : shared_tick s 0 1 ≡ 2
tick = refl

quantum : shared_quantum s 0 1 ≡ 20
quantum = refl

other_quantum : shared_quantum s 1 0 ≡ 21
other_quantum = refl

third : shared_instant s 1 0 3 ≡ 77
third = refl

-- ten quanta of 10 1/2 ticks take 5 ticks more than ten of 10
slower : bit_drift s 1 0 ≡ 10
slower = refl

faster : bit_drift s 0 1 ≡ 0
faster = refl

-- there and back takes 18 ticks; over an edge of its own, a quantum and a tick
back_and_forth : bus_way s 0 1 ≡ 36
back_and_forth = refl

straight : following_way s 0 1 1 ≡ 22
straight = refl

-- on a short line a quantum and a tick takes longer
abbrev near : Stations
near = record s { delay = λ i k. 2 }

looks : bus_way near 0 1 ≡ 22
looks = refl

-- station 0 begins its bit with quantum 20, and station 1 follows that edge: at tick 209 it lies between its quanta 19 and 20
abbrev places : ℕ → ℕ
places zero = 20
places (suc i) = 19

abbrev b : Start
b = record { drives = λ i. true; joins = λ i. false; due = λ i. 20 + i; place = places; from = λ i. 20 }

edge : reaches_at s b 0 1 ≡ 209
unfolding steady_tick
edge = refl

back : reaches_at s b 1 0 ≡ 226
unfolding steady_tick
back = refl

-- instants of both in half ticks: 0 begins less than a way before 1 is there, and 1 less than a way and its look before
own : shared_instant s 0 1 20 ≡ 400
own = refl

their : shared_instant s 1 0 19 ≡ 413
their = refl

-- Between any two a look comes on top, of a quantum and a tick but for its own loop of 4 ticks. Two jumps of station 1 are a tick longer, and ten bits drift 50 ticks apart.
any : any_way s 0 1 ≡ 50
any = refl

longer : jump_gap s 1 0 ≡ 2
longer = refl

in_two_edges : gathered_way s 2 (λ k. 2) 0 1 ≡ 254
in_two_edges = refl

to_the_winner : gathered_way s 1 (λ k. 2) 0 1 ≡ 50
to_the_winner = refl

-- A look of 14 half ticks and ten bits' drift of 100 are 72 more than a jump of 42: an edge leaves 36 ticks at station 1.
not_put_right : overrun s 1 (λ k. 2) 1 0 ≡ 36
not_put_right = refl

after_an_edge : chased_way s 1 (λ k. 2) 0 1 ≡ 122
unfolding most_overrun
after_an_edge = refl

-- on a bus of three senders ten bits drift 100 units apart, and a jump of 22 units is 2 longer than the shortest one
abbrev bus : Bus
bus = record {
  nodes = 3;
  tick = 1;
  shortest = λ i. 10;
  longest = λ i. 11;
  turns = λ i. 0;
  lengths = λ i. l;
  sends = λ i. true;
  delay = λ i k. 9;
  added = λ i k. 0;
  listens = λ i. false;
}

gathers_twice : gathered bus (λ k. 2) 0 1 ≡ 204
unfolding drift jump
gathers_twice = refl

-- ten bits' drift of 100, a look of 3 and these are 287 more than a jump of 20, and a tick comes on top
beyond_a_jump : left_over bus (gathered bus (λ k. 2)) 0 ≡ 288
unfolding drift jump look left_over beyond_jump
beyond_a_jump = refl

-- without drift a jump puts a look right
put_right : left_over (record bus { longest = λ i. 10 }) (λ i k. 0) 0 ≡ 0
unfolding drift jump look left_over beyond_jump
put_right = refl

of_two_nodes : gathered (record bus { nodes = 2 }) (λ k. 2) 0 1 ≡ 0
of_two_nodes = refl

-- if the bit of 0 is due with its quantum 20, and that of 1 with its quantum 21 at tick 227, 1 follows so: its quantum 20 at tick 217 is the first that finds the edge
abbrev both : ℕ → Bool
both i = true

abbrev dues : ℕ → ℕ
dues i = 20 + i

begins_alone : from_after s both dues 2 0 ≡ 20
unfolding steady_tick
begins_alone = refl

follows : from_after s both dues 2 1 ≡ 20
unfolding steady_tick
follows = refl

moved_place : place_found s dues 1 (Some 20) ≡ 19
moved_place = refl

moved_from : from_found s dues 1 (Some 20) ≡ 20
moved_from = refl

-- both begin a frame, then 0 sends dominant, recessive, dominant and 1 sends recessive: 1 has lost by bit 1, and the last edge is that of bit 3
abbrev drives_in : ℕ → ℕ → Bool
drives_in zero k = true
drives_in (suc zero) zero = true
drives_in (suc (suc zero)) zero = false
drives_in (suc (suc (suc n))) zero = true
drives_in (suc n) (suc k) = false

abbrev frame : ℕ → Start
frame n = record { drives = drives_in n; joins = λ i. false; due = dues; place = places; from = dues }

lost : still_sends s frame 2 1 ≡ false
lost = refl

left : still_sends s frame 4 0 ≡ true
left = refl

two_bits : bus_levels s frame 2 ≡ Dominant ∷ Dominant ∷ []
two_bits = refl

no_edge_since : since_edge s frame 2 ≡ 2
no_edge_since = refl

edge_there : since_edge s frame 3 ≡ 0
edge_there = refl

-- 0 begins a frame, and 1 joins it in the third bit of its intermission: it drives no start of frame. Then 0 sends recessive and 1 dominant, so that 0 has lost by bit 2.
abbrev drives_joined : ℕ → ℕ → Bool
drives_joined zero zero = true
drives_joined (suc n) zero = false
drives_joined zero (suc k) = false
drives_joined (suc n) (suc k) = true

abbrev joined : ℕ → Start
joined n = record { drives = drives_joined n; joins = λ k. k == 1; due = dues; place = places; from = dues }

joins_it : has_sent joined 0 1 ≡ true
joins_it = refl

sends_on : still_sends s joined 1 1 ≡ true
sends_on = refl

sends_later : still_sends s joined 2 1 ≡ true
sends_later = refl

began_it : still_sends s joined 1 0 ≡ true
began_it = refl

loses_to_it : still_sends s joined 2 0 ≡ false
loses_to_it = refl

-- without a frame it only listens
abbrev listened : ℕ → Start
listened n = record { drives = drives_joined n; joins = λ k. false; due = dues; place = places; from = dues }

listens_only : still_sends s listened 1 1 ≡ false
listens_only = refl

-- who joins: a machine in the third bit of its intermission that is handed a frame, but not an error passive one after its own frame, and none that is idle or to begin a frame
joins_handed : joins_by (Intermission Rx) (sample_of Dominant (Some c) Active) ≡ true
joins_handed = refl

joins_after_own : joins_by (Intermission Tx) (sample_of Dominant (Some c) Active) ≡ true
joins_after_own = refl

joins_suspended : joins_by (Intermission Tx) (sample_of Dominant (Some c) Passive) ≡ false
joins_suspended = refl

joins_none : joins_by (Intermission Rx) (sample_of Dominant None Active) ≡ false
joins_none = refl

joins_idle : joins_by Idle (sample_of Dominant (Some c) Active) ≡ false
joins_idle = refl

joins_begun : joins_by (Framing (Some c)) (sample_of Dominant (Some c) Active) ≡ false
joins_begun = refl
