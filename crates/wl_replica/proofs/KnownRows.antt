-- Worked texts: up to when a node is known, and in which intervals it drives dominant. Computed, with a bound on the run that is enough here.
use Rattle.std.proofs.Common.{◌≡◌, ℕ, zero, suc, ◌+◌, List, [], ◌∷◌, refl}
use Rattle.wl_record_core.specs.declared.record.Record.{Record}
use Rattle.wl_record_core.specs.declared.record.Record.TheVariants.{Edge, Clash, Silence}
use Rattle.wl_replica.specs.Slots.{slots_of_records}
use Rattle.wl_replica.specs.Known.{is_run, greatest_passing, known_by, ticks, intervals, least_up_to}

run_of : ℕ → List Record → ℕ
run_of i rs = greatest_passing 5 (is_run ((slots_of_records rs).edge i) ((slots_of_records rs).silence i))

known_of : ℕ → List Record → ℕ
known_of i rs = known_by ((slots_of_records rs).edge i) ((slots_of_records rs).silence i) (run_of i rs)

wave_of : ℕ → List Record → List (ℕ × ℕ)
wave_of i rs = intervals (ticks ((slots_of_records rs).edge i) (run_of i rs)) (known_of i rs)

-- what a text tells of node 0: run length, horizon, wave
told : List Record → ℕ × ℕ × List (ℕ × ℕ)
told rs = (run_of 0 rs, known_of 0 rs, wave_of 0 rs)

-- an edge at 100, silences, and edge 2 without edge 1
gap : List Record
gap = Edge 0 0 100 ∷ Silence 0 1 150 ∷ Silence 0 3 400 ∷ Edge 0 2 300 ∷ []

edge_missing : told gap ≡ (1, 150, (100, 150) ∷ [])
unfolding told run_of known_of wave_of gap
edge_missing = refl

edge_added : told (Edge 0 1 200 ∷ gap) ≡ (3, 400, (100, 200) ∷ (300, 400) ∷ [])
unfolding told run_of known_of wave_of gap
edge_added = refl

edge_alone : told (Edge 0 0 100 ∷ []) ≡ (1, 101, (100, 101) ∷ [])
unfolding told run_of known_of wave_of
edge_alone = refl

silence_alone : told (Silence 0 0 50 ∷ []) ≡ (0, 50, [])
unfolding told run_of known_of wave_of
silence_alone = refl

edge_in_a_promised_silence : told (Silence 0 0 50 ∷ Edge 0 0 40 ∷ []) ≡ (0, 50, [])
unfolding told run_of known_of wave_of
edge_in_a_promised_silence = refl

edges_at_one_tick : told (Edge 0 0 100 ∷ Edge 0 1 100 ∷ []) ≡ (1, 101, (100, 101) ∷ [])
unfolding told run_of known_of wave_of
edges_at_one_tick = refl

edges_out_of_order : told (Edge 0 0 100 ∷ Edge 0 1 90 ∷ []) ≡ (1, 101, (100, 101) ∷ [])
unfolding told run_of known_of wave_of
edges_out_of_order = refl

clash_before_an_edge : told (Clash 0 0 ∷ Edge 0 1 90 ∷ []) ≡ (0, 0, [])
unfolding told run_of known_of wave_of
clash_before_an_edge = refl

silence_of_two_alone : told (Silence 0 2 50 ∷ []) ≡ (0, 0, [])
unfolding told run_of known_of wave_of
silence_of_two_alone = refl

greatest_tick : told (Edge 0 0 281474976710655 ∷ []) ≡ (1, 281474976710656, (281474976710655, 281474976710656) ∷ [])
unfolding told run_of known_of wave_of
greatest_tick = refl

-- two nodes, 50 ticks of cable apart: the place of node 0 waits for node 1
delay : ℕ → ℕ → ℕ
delay zero zero = 1
delay zero (suc j) = 51
delay (suc i) zero = 51
delay (suc i) (suc j) = 1

place_waits_for_the_other : least_up_to (λ i. known_of i (Silence 0 0 100 ∷ []) + delay i 0) 1 ≡ 51
unfolding known_of run_of delay
place_waits_for_the_other = refl
