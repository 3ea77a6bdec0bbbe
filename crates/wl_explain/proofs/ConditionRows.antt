-- What is said by the condition of worked buses: 120 ns out and 130 ns in, 5 ns a metre. A tick is a nanosecond; the numbers and the words by hand.
use Rattle.std.proofs.Common.{◌≡◌, ℕ, Bool, true, false, List, [], ◌∷◌, Some, None, codes, refl}
use Rattle.std.specs.Fmt.{digits}
use Rattle.wl_clock.specs.Timing.{Timing, tick_of}
use Rattle.wl_topology.specs.declared.Place.{Place}
use Rattle.wl_segments.specs.declared.SyncRules.TheVariants.{Book}
use Rattle.wl_segments.specs.Lengths.{Lengths}
use Rattle.wl_plan.specs.Limits.{most_quanta}
use Rattle.wl_bound.specs.declared.family.Member.{Member}
use Rattle.wl_bound.specs.declared.condition.Inequality.TheVariants.{DriftFitsJump, BitIsThereAtSample, NoBitTooEarly}
use Rattle.wl_bound.specs.declared.verdict.Outside.TheVariants.{ListenerSends, NoFrames, NobodyAcknowledges, SameIdentifier}
use Rattle.wl_bound.specs.Oscillators.{Pace}
use Rattle.wl_bound.specs.Families.{Buses, delay_in, lengths_in, longest_in, sends_in, shortest_in, turns_in}
use Rattle.wl_bound.specs.Terms.{ahead, answered, apart, behind, chase, drift, early, edges, jump, late, look, lost, pull, pulled, several, spread, strays, tour, trip, way}
use Rattle.wl_bound.specs.Conditions.{left_of, right_of}
use Rattle.wl_explain.specs.Condition.{fail_line, fail_lines, outside_line, stray_line}

abbrev three_names : List (List ℕ)
three_names = codes "a" ∷ codes "b" ∷ codes "c" ∷ []

abbrev steady : ℕ → ℕ → Pace
steady quantum ppm = record {
  fastest = record { from = 0; num = quantum; den = 1 };
  slowest = record { from = 0; num = quantum; den = 1 };
  tolerance = ppm;
  turns = 0;
}

abbrev book_lengths : ℕ → ℕ → ℕ → ℕ → Lengths
book_lengths prop ps1 ps2 sjw = record { prop = prop; ps1 = ps1; ps2 = ps2; sjw = sjw; sync = Book }

abbrev metre_place : ℕ → Place
metre_place x = record { x = x; out_delay = 120; in_delay = 130; listens = false }

abbrev like_node : Lengths → Pace → Bool → Member
like_node l p sends = record { oscillator = p; segments = l; sends = sends }

-- a sender and a receiver, and three senders with the third one beside the second
abbrev two_nodes : Lengths → Pace → ℕ → Buses
two_nodes l p x = record {
  members = like_node l p true ∷ like_node l p false ∷ [];
  cable = record { places = metre_place 0 ∷ metre_place x ∷ []; per = 5 };
}

abbrev three_nodes : Lengths → Pace → ℕ → Buses
three_nodes l p x = record {
  members = like_node l p true ∷ like_node l p true ∷ like_node l p true ∷ [];
  cable = record { places = metre_place 0 ∷ metre_place x ∷ metre_place x ∷ []; per = 5 };
}

-- there and back over 98 m, and eleven bits of drift at 7000 ppm
not_there : fail_line (two_nodes (book_lengths 8 4 3 3) (steady 125 7000) 98) three_names BitIsThereAtSample 0 1
    ≡ codes "doubt: a bit of b comes to a up to 1788.000 ns (14.41 quanta) after its own began, and a samples after 1613.625 ns (13.00 quanta)\n"
unfolding digits left_of right_of shortest_in longest_in delay_in sends_in turns_in ahead drift jump look trip way several early lost edges chase spread apart tour behind answered late pull pulled strays lengths_in
not_there = refl

-- ten bits of drift within 3115 ppm, and no more
too_far : fail_line (two_nodes (book_lengths 6 7 2 1) (steady 125 3116) 5) three_names DriftFitsJump 0 1
    ≡ codes "doubt: in ten bits a falls behind b by up to 124.640 ns (1.01 quanta), and an edge puts right 124.610 ns (1.00 quanta)\n"
unfolding digits left_of right_of shortest_in longest_in delay_in sends_in turns_in ahead drift jump look trip way several early lost edges chase spread apart tour behind answered late pull pulled strays lengths_in
too_far = refl

no_further : fail_lines (two_nodes (book_lengths 6 7 2 1) (steady 125 3115) 5) three_names 0 1 ≡ []
unfolding left_of right_of shortest_in longest_in delay_in sends_in turns_in ahead drift jump look trip way several early lost edges chase spread apart tour behind answered late pull pulled strays lengths_in
no_further = refl

-- with each sender alone it holds
only_several : fail_line (three_nodes (book_lengths 6 7 2 1) (steady 125 1000) 5) three_names NoBitTooEarly 0 1
    ≡ codes "doubt: if several nodes send at once, the next bit of b comes to a up to 282.500 ns (2.27 quanta) too early, and its PHASE_SEG2 has 249.750 ns (2.00 quanta)\n"
unfolding digits left_of right_of shortest_in longest_in delay_in sends_in turns_in ahead drift jump look trip way several early lost edges chase spread apart tour behind answered late pull pulled strays lengths_in
only_several = refl

-- a clock of 126 ticks in the place of 125, over 80 quanta: 8,000 ppm
abbrev slow_clock : Timing
slow_clock = record { offset = 7; rates = record { from = 0; num = 126; den = 1 } ∷ [] }

beyond : stray_line 10000 (codes "a") slow_clock (steady 125 7000)
    ≡ codes "doubt: the clock of a deviates by more than its tolerance of 7000 ppm\n"
unfolding digits tick_of most_quanta
beyond = refl

within : stray_line 10000 (codes "a") slow_clock (steady 125 8000) ≡ []
unfolding tick_of most_quanta
within = refl

-- what the condition says nothing of
shared : outside_line three_names (Some (SameIdentifier 0 1))
    ≡ codes "doubt: a and b have frames of one identifier, which no arbitration parts\n"
shared = refl

nothing_to_send : outside_line three_names (Some NoFrames) ≡ codes "doubt: no bound is known: no node has a frame to send\n"
nothing_to_send = refl

nothing_outside : outside_line three_names None ≡ []
nothing_outside = refl

-- nodes that only listen: frames that nobody hears, and frames that nobody acknowledges
mute : outside_line three_names (Some (ListenerSends 2)) ≡ codes "doubt: c only listens, and nobody hears the frames that it has\n"
mute = refl

lone : outside_line three_names (Some (NobodyAcknowledges 1))
    ≡ codes "doubt: all nodes but b only listen, and nobody acknowledges its frames\n"
lone = refl

-- a listener whose own bit comes back after its sample; its bits don't come to the others
abbrev with_listener : Buses
with_listener = record {
  members = like_node (book_lengths 6 7 2 1) (steady 125 100) true ∷ like_node (book_lengths 6 7 2 1) (steady 125 100) true
      ∷ like_node (book_lengths 6 7 2 1) (steady 125 100) false ∷ [];
  cable = record { places = metre_place 0 ∷ metre_place 5 ∷ record { x = 5; out_delay = 1630; in_delay = 130; listens = true } ∷ []; per = 5 };
}

own_bit : fail_lines with_listener three_names 2 2
    ≡ codes "doubt: a bit of c comes back to it 1760.000 ns (14.09 quanta) after it began, and it samples after 1749.825 ns (14.00 quanta)\n"
unfolding digits left_of right_of shortest_in longest_in delay_in sends_in turns_in ahead drift jump look trip way several early lost edges chase spread apart tour behind answered late pull pulled strays lengths_in
own_bit = refl

not_heard : fail_lines with_listener three_names 0 2 ≡ []
unfolding left_of right_of shortest_in longest_in delay_in sends_in turns_in ahead drift jump look trip way several early lost edges chase spread apart tour behind answered late pull pulled strays lengths_in
not_heard = refl
