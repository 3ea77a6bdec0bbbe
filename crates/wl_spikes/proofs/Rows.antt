-- Worked values of the definitions: members, words, classes, tallies and what is said of them.
use Rattle.std.proofs.Common.{◌≡◌, ◌^◌, true, false, [], ◌∷◌, Some, None, Ok, Err, codes, refl}
use Rattle.std.specs.Fmt.{digits}
use Rattle.wl_traffic.specs.declared.reason.Reason.TheVariants as reason
use Rattle.wl_spikes.specs.declared.aftermath.Class.TheVariants.{Clean, Healed, Unhealed, Missed}
use Rattle.wl_spikes.specs.declared.asked.SpikeFault.TheVariants as fault
use Rattle.wl_spikes.specs.declared.spike.Target.TheVariants.{Node, Place}
use Rattle.wl_spikes.specs.Aftermaths.{class_of}
use Rattle.wl_spikes.specs.Asked.{if_countable, length_said, node_found, place_said, spike_step}
use Rattle.wl_spikes.specs.Members.{place_count, spike_from, spike_to}
use Rattle.wl_spikes.specs.Tallies.{class_tally, most_of_members, spike_tally, trouble_of_member}
use Rattle.wl_spikes.specs.Words.{bits_of_ticks, clean_member_words, target_words, worst_words}

-- a place in time at tick 0 and after each step, before the end; a step of 0 is one of 1
no_place : place_count 10 0 ≡ 0
no_place = refl

place_at_end : place_count 10 10 ≡ 1
place_at_end = refl

place_before_end : place_count 10 11 ≡ 2
place_before_end = refl

each_tick : place_count 0 5 ≡ 5
each_tick = refl

-- the spike of member 7, by steps of 10 ticks
seventh_from : spike_from (record { target = Place 5; length = 25; step = 10 }) 7 ≡ 70
seventh_from = refl

seventh_to : spike_to (record { target = Place 5; length = 25; step = 10 }) 7 ≡ 95
seventh_to = refl

-- the step: what is given, or the end in as many steps as there may be members, rounded up
given_step : spike_step (record { step = Some 7; keep_offsets = false; keep_ppm = false; runs = 1000; seed = 1 }) 400000 ≡ 7
given_step = refl

whole_step : spike_step (record { step = None; keep_offsets = false; keep_ppm = false; runs = 1000; seed = 1 }) 400000 ≡ 400
whole_step = refl

rounded_step : spike_step (record { step = None; keep_offsets = false; keep_ppm = false; runs = 1000; seed = 1 }) 400001 ≡ 401
rounded_step = refl

least_step : spike_step (record { step = None; keep_offsets = false; keep_ppm = false; runs = 1000; seed = 1 }) 0 ≡ 1
least_step = refl

-- the words of a spike: a place below 2^31, a node from version 3 on, a length of 1 tick up to the end
greatest_place : place_said (Some 2147483647) ≡ Ok (Place 2147483647)
greatest_place = refl

no_such_place : place_said (Some 2147483648) ≡ Err fault.Place
no_such_place = refl

node_of_version_2 : node_found 2 (Some 0) ≡ Err fault.Version
node_of_version_2 = refl

node_of_version_3 : node_found 3 (Some 0) ≡ Ok (Node 0)
node_of_version_3 = refl

no_length : length_said 10 (Some 0) ≡ Err fault.Length
no_length = refl

whole_length : length_said 10 (Some 10) ≡ Ok 10
whole_length = refl

long_length : length_said 10 (Some 11) ≡ Err fault.Length
long_length = refl

most_places : if_countable (2 ^ 32) (record { target = Node 0; length = 1; step = 1 }) ≡ Err fault.Places
most_places = refl

-- errors heal if nothing is open at the end; what a frame lost or doubled costs is said in any case
healed_in_time : class_of reason.Errors false ≡ Healed
healed_in_time = refl

still_open : class_of reason.Errors true ≡ Unhealed
still_open = refl

missed_and_open : class_of reason.Missed true ≡ Missed
missed_and_open = refl

-- three members: one healed, one clean, one healed
first_healed : class_tally Healed (record { class = Clean; trouble = 0; tec = 0; rec = 0 } ∷ record { class = Healed; trouble = 9; tec = 7; rec = 1 }
    ∷ record { class = Healed; trouble = 4; tec = 8; rec = 0 } ∷ [])
    ≡ record { count = 2; first = Some 1 }
first_healed = refl

none_missed : class_tally Missed (record { class = Healed; trouble = 9; tec = 7; rec = 1 } ∷ []) ≡ record { count = 0; first = None }
none_missed = refl

longest_of_three : most_of_members trouble_of_member (record { class = Clean; trouble = 0; tec = 0; rec = 0 } ∷ record { class = Healed; trouble = 9; tec = 7; rec = 1 }
    ∷ record { class = Healed; trouble = 4; tec = 8; rec = 0 } ∷ [])
    ≡ 9
longest_of_three = refl

-- ticks in bits of 2000 ticks
begun_bit : bits_of_ticks 2000 2001 ≡ 2
begun_bit = refl

at_place : target_words [] (Place 5) ≡ codes "x=5"
unfolding digits
at_place = refl

at_no_node : target_words [] (Node 0) ≡ codes "?"
at_no_node = refl

said_of_three : clean_member_words (spike_tally (record { class = Clean; trouble = 0; tec = 0; rec = 0 } ∷ record { class = Healed; trouble = 9; tec = 7; rec = 1 }
    ∷ record { class = Healed; trouble = 4; tec = 8; rec = 0 } ∷ []))
    ≡ codes "clean in 1 of 3"
unfolding digits
said_of_three = refl

worst_of_three : worst_words 4 (spike_tally (record { class = Clean; trouble = 0; tec = 0; rec = 0 } ∷ record { class = Healed; trouble = 9; tec = 7; rec = 1 }
    ∷ record { class = Healed; trouble = 4; tec = 8; rec = 0 } ∷ []))
    ≡ codes "; longest 3 bits; tec 8, rec 1\n"
unfolding digits
worst_of_three = refl
