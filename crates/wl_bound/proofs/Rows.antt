-- Worked buses: two or three nodes in a row, 120 ns out and 130 ns in, 5 ns a metre. A tick is a nanosecond.
use Rattle.std.proofs.Common.{◌≡◌, ◌==◌, ℕ, Bool, true, false, [], ◌∷◌, Some, None, Ok, Err, refl}
use Rattle.wl_clock.specs.declared.Rate.{Rate}
use Rattle.wl_topology.specs.declared.Place.{Place}
use Rattle.wl_segments.specs.declared.SegmentsFault.TheVariants as refusals
use Rattle.wl_segments.specs.declared.SyncRules.TheVariants.{After, Book}
use Rattle.wl_segments.specs.Lengths.{Lengths}
use Rattle.wl_node.specs.declared.setup.NodeSetup.{NodeSetup}
use Rattle.wl_plan.specs.declared.plan.Plan.{Plan}
use Rattle.wl_plan.specs.PlanLine.{no_setup}
use Rattle.wl_bound.specs.declared.family.Change.TheVariants.{LaterSample, WiderJump}
use Rattle.wl_bound.specs.declared.family.Member.{Member}
use Rattle.wl_bound.specs.declared.condition.Failure.{Failure}
use Rattle.wl_bound.specs.declared.condition.Inequality.{Inequality}
use Rattle.wl_bound.specs.declared.condition.Inequality.TheVariants.{DriftFitsJump, BitIsThereAtSample, NoBitTooEarly}
use Rattle.wl_bound.specs.declared.condition.Senders.TheVariants.{Any, One}
use Rattle.wl_bound.specs.Oscillators.{Pace, longest_of, oscillator_of, shortest_of}
use Rattle.wl_bound.specs.Families.{Buses, changed, delay_in, lengths_in, longest_in, sends_in, shortest_in, turns_in}
use Rattle.wl_bound.specs.Terms.{ahead, answered, apart, behind, chase, drift, early, edges, jump, late, look, lost, pull, pulled, several, spread, strays, tour, trip, way}
use Rattle.wl_bound.specs.Conditions.{first_failure_of, is_asked, left_of, plain, right_of}
use Rattle.wl_bound.specs.Spikes.{worst_hiding}
use Rattle.wl_bound.specs.declared.verdict.Outside.TheVariants.{ListenerSends, NobodyAcknowledges, NotByTheBook}
use Rattle.wl_bound.specs.Verdicts.{outside_of}

abbrev rate : ℕ → ℕ → Rate
rate num den = record { from = 0; num = num; den = den }

-- whole quanta, and a tolerance
abbrev pace : ℕ → ℕ → Pace
pace quantum tolerance = record { fastest = rate quantum 1; slowest = rate quantum 1; tolerance = tolerance; turns = 0 }

abbrev lengths : ℕ → ℕ → ℕ → ℕ → Lengths
lengths prop ps1 ps2 sjw = record { prop = prop; ps1 = ps1; ps2 = ps2; sjw = sjw; sync = Book }

abbrev place : ℕ → Place
place x = record { x = x; out_delay = 120; in_delay = 130; listens = false }

abbrev member : Lengths → Pace → Bool → Member
member l p sends = record { oscillator = p; segments = l; sends = sends }

-- two nodes, of which the first sends, or both
abbrev one_way : Lengths → Pace → ℕ → Buses
one_way l p x = record { members = member l p true ∷ member l p false ∷ []; cable = record { places = place 0 ∷ place x ∷ []; per = 5 } }

abbrev both_ways : Lengths → Pace → ℕ → Buses
both_ways l p x = record { members = member l p true ∷ member l p true ∷ []; cable = record { places = place 0 ∷ place x ∷ []; per = 5 } }

-- three nodes that all send, the third one beside the second
abbrev three : Lengths → Pace → ℕ → Buses
three l p x = record {
  members = member l p true ∷ member l p true ∷ member l p true ∷ [];
  cable = record { places = place 0 ∷ place x ∷ place x ∷ []; per = 5 };
}

abbrev failing : Inequality → ℕ → ℕ → Failure
failing inequality left right = record { inequality = inequality; node = 0; other = 1; sides = record { left = left; right = right } }

-- ---- Quanta

-- 125 ticks at 7000 ppm
short : shortest_of (pace 125 7000) 0 ≡ 124125000
short = refl

long : longest_of (pace 125 7000) 0 ≡ 125875000
long = refl

-- a third of a millionth goes down and up
uneven : longest_of (record { fastest = rate 4 3; slowest = rate 4 3; tolerance = 0; turns = 0 }) 0 ≡ 1333334
uneven = refl

uneven_short : shortest_of (record { fastest = rate 4 3; slowest = rate 4 3; tolerance = 0; turns = 0 }) 0 ≡ 1333333
uneven_short = refl

-- of several rates the fastest and the slowest
warming : oscillator_of (rate 126 1 ∷ record { from = 100; num = 249; den = 2 } ∷ record { from = 200; num = 125; den = 1 } ∷ []) 50
    ≡ Some (record { fastest = record { from = 100; num = 249; den = 2 }; slowest = rate 126 1; tolerance = 50; turns = 2 })
warming = refl

too_wide : oscillator_of (rate 125 1 ∷ []) 100001 ≡ None
too_wide = refl

no_rate : oscillator_of [] 100 ≡ None
no_rate = refl

no_clock : oscillator_of (rate 125 0 ∷ []) 100 ≡ None
no_clock = refl

-- ---- 500 kbit/s over 98 m, with no doubt by either figure alone: 1480 ns there and back, and eleven bits of drift, are beyond the sample
both_at_once : first_failure_of (one_way (lengths 8 4 3 3) (pace 125 7000) 98) plain One
    ≡ Some (failing BitIsThereAtSample 1788000000 1613625000)
unfolding first_failure_of left_of right_of shortest_in longest_in delay_in sends_in turns_in ahead drift jump look trip way several early lost edges chase spread apart tour behind answered late pull pulled strays lengths_in
both_at_once = refl

cable_alone : first_failure_of (one_way (lengths 8 4 3 3) (pace 125 0) 98) plain One ≡ None
unfolding first_failure_of left_of right_of shortest_in longest_in delay_in sends_in turns_in ahead drift jump look trip way several early lost edges chase spread apart tour behind answered late pull pulled strays lengths_in
cable_alone = refl

drift_alone : first_failure_of (one_way (lengths 8 4 3 3) (pace 125 7000) 0) plain One ≡ None
unfolding first_failure_of left_of right_of shortest_in longest_in delay_in sends_in turns_in ahead drift jump look trip way several early lost edges chase spread apart tour behind answered late pull pulled strays lengths_in
drift_alone = refl

-- ---- 500 kbit/s over 100 m, sample point 75 %: there and back is just the sample with perfect clocks, for both senders at once too
to_the_metre : first_failure_of (both_ways (lengths 7 4 4 3) (pace 125 0) 100) plain Any ≡ None
unfolding first_failure_of left_of right_of shortest_in longest_in delay_in sends_in turns_in ahead drift jump look trip way several early lost edges chase spread apart tour behind answered late pull pulled strays lengths_in
to_the_metre = refl

beyond_by_drift : first_failure_of (both_ways (lengths 7 4 4 3) (pace 125 100) 100) plain Any
    ≡ Some (failing BitIsThereAtSample 1504400000 1499850000)
unfolding first_failure_of left_of right_of shortest_in longest_in delay_in sends_in turns_in ahead drift jump look trip way several early lost edges chase spread apart tour behind answered late pull pulled strays lengths_in
beyond_by_drift = refl

a_metre_less : first_failure_of (both_ways (lengths 7 4 4 3) (pace 125 100) 99) plain Any ≡ None
unfolding first_failure_of left_of right_of shortest_in longest_in delay_in sends_in turns_in ahead drift jump look trip way several early lost edges chase spread apart tour behind answered late pull pulled strays lengths_in
a_metre_less = refl

-- ---- 800 kbit/s over 50 m, the same
fifty_metres : first_failure_of (both_ways (lengths 3 4 2 1) (pace 125 0) 50) plain Any ≡ None
unfolding first_failure_of left_of right_of shortest_in longest_in delay_in sends_in turns_in ahead drift jump look trip way several early lost edges chase spread apart tour behind answered late pull pulled strays lengths_in
fifty_metres = refl

-- ---- ten bits of drift and a jump of one quantum: 3115 ppm, and no more
fits : first_failure_of (one_way (lengths 6 7 2 1) (pace 125 3115) 5) plain One ≡ None
unfolding first_failure_of left_of right_of shortest_in longest_in delay_in sends_in turns_in ahead drift jump look trip way several early lost edges chase spread apart tour behind answered late pull pulled strays lengths_in
fits = refl

fits_no_more : first_failure_of (one_way (lengths 6 7 2 1) (pace 125 3116) 5) plain One
    ≡ Some (failing DriftFitsJump 124640000 124610500)
unfolding first_failure_of left_of right_of shortest_in longest_in delay_in sends_in turns_in ahead drift jump look trip way several early lost edges chase spread apart tour behind answered late pull pulled strays lengths_in
fits_no_more = refl

-- ---- a jump as wide as PHASE_SEG2: the next bit comes too early first
too_early : first_failure_of (one_way (lengths 8 4 4 4) (pace 120 11610) 0) plain One
    ≡ Some (failing NoBitTooEarly 474688000 474427200)
unfolding first_failure_of left_of right_of shortest_in longest_in delay_in sends_in turns_in ahead drift jump look trip way several early lost edges chase spread apart tour behind answered late pull pulled strays lengths_in
too_early = refl

-- ---- Rates that change: 15 changes take 15 ticks from the way to the sample, and from PHASE_SEG2

abbrev turning : ℕ → Pace → Pace
turning turns p = record p { turns = turns }

abbrev first_turns : Lengths → Pace → ℕ → Buses
first_turns l p x = record {
  members = member l (turning 15 p) true ∷ member l p false ∷ [];
  cable = record { places = place 0 ∷ place x ∷ []; per = 5 };
}

-- without them 100 m are just the sample
a_metre_too_far : first_failure_of (first_turns (lengths 7 4 4 3) (pace 125 0) 99) plain One
    ≡ Some (failing BitIsThereAtSample 1505000000 1500000000)
unfolding first_failure_of left_of right_of shortest_in longest_in delay_in sends_in turns_in ahead drift jump look trip way several early lost edges chase spread apart tour behind answered late pull pulled strays lengths_in
a_metre_too_far = refl

near_enough : first_failure_of (first_turns (lengths 7 4 4 3) (pace 125 0) 98) plain One ≡ None
unfolding first_failure_of left_of right_of shortest_in longest_in delay_in sends_in turns_in ahead drift jump look trip way several early lost edges chase spread apart tour behind answered late pull pulled strays lengths_in
near_enough = refl

-- a bit of the first node comes too early at the second, by ten bits of drift, a tick, and 15
early_by_turns : first_failure_of (first_turns (lengths 8 4 4 4) (pace 120 11400) 0) plain One
    ≡ Some (record { inequality = NoBitTooEarly; node = 1; other = 0; sides = record { left = 481120000; right = 474528000 } })
unfolding first_failure_of left_of right_of shortest_in longest_in delay_in sends_in turns_in ahead drift jump look trip way several early lost edges chase spread apart tour behind answered late pull pulled strays lengths_in
early_by_turns = refl

early_by_no_turns : first_failure_of (one_way (lengths 8 4 4 4) (pace 120 11400) 0) plain One ≡ None
unfolding first_failure_of left_of right_of shortest_in longest_in delay_in sends_in turns_in ahead drift jump look trip way several early lost edges chase spread apart tour behind answered late pull pulled strays lengths_in
early_by_no_turns = refl

-- ---- Two senders that pull each other forward, and a third node with short quanta

abbrev near : Place
near = record { x = 0; out_delay = 0; in_delay = 1; listens = false }

abbrev pulling : Lengths → Pace → Buses
pulling l p = record {
  members = member (lengths 2 3 2 1) (pace 250 0) true ∷ member (lengths 2 3 2 1) (pace 250 0) true ∷ member l p false ∷ [];
  cable = record { places = near ∷ near ∷ near ∷ []; per = 5 };
}

-- a quantum of 250 ticks an edge, and a jump of 80
pulled_forward : first_failure_of (pulling (lengths 8 8 8 1) (pace 80 0)) plain Any
    ≡ Some (record { inequality = DriftFitsJump; node = 2; other = 0; sides = record { left = 250000000; right = 80000000 } })
unfolding first_failure_of left_of right_of shortest_in longest_in delay_in sends_in turns_in ahead drift jump look trip way several early lost edges chase spread apart tour behind answered late pull pulled strays lengths_in
pulled_forward = refl

-- one sender alone pulls nobody, and a jump as long puts it right
alone_fits : first_failure_of (pulling (lengths 8 8 8 1) (pace 80 0)) plain One ≡ None
unfolding first_failure_of left_of right_of shortest_in longest_in delay_in sends_in turns_in ahead drift jump look trip way several early lost edges chase spread apart tour behind answered late pull pulled strays lengths_in
alone_fits = refl

wider_fits : first_failure_of (pulling (lengths 8 8 8 4) (pace 80 0)) plain Any ≡ None
unfolding first_failure_of left_of right_of shortest_in longest_in delay_in sends_in turns_in ahead drift jump look trip way several early lost edges chase spread apart tour behind answered late pull pulled strays lengths_in
wider_fits = refl

-- ---- Two senders alone: the first lags behind what the second does ahead of its edges (check/margins/ahead_of_lagging_sender.toml)

-- 320 ticks, 4560 ppm slow
abbrev slow : Pace
slow = record { fastest = rate 321459200 1000000; slowest = rate 321459200 1000000; tolerance = 0; turns = 0 }

abbrev lagging : Buses
lagging = record {
  members = member (lengths 3 2 2 2) (pace 880 0) true ∷ member (lengths 8 8 5 1) slow true ∷ member (lengths 3 2 2 2) (pace 880 0) false ∷ [];
  cable = record { places = near ∷ near ∷ near ∷ []; per = 1 };
}

-- a quantum and a tick, less there and back, and ten bits' drift of 321.024: that drift alone is within the jump
ahead_of_lagging : first_failure_of lagging plain Any
    ≡ Some (record { inequality = DriftFitsJump; node = 1; other = 0; sides = record { left = 1200024000; right = 321459200 } })
unfolding first_failure_of left_of right_of shortest_in longest_in delay_in sends_in turns_in ahead drift jump look trip way several early lost edges chase spread apart tour behind answered late pull pulled strays lengths_in
ahead_of_lagging = refl

-- with one sender nobody lags
lagging_alone : first_failure_of lagging plain One ≡ None
unfolding first_failure_of left_of right_of shortest_in longest_in delay_in sends_in turns_in ahead drift jump look trip way several early lost edges chase spread apart tour behind answered late pull pulled strays lengths_in
lagging_alone = refl

-- two nodes of 2000 ticks a bit, 2 ticks apart
abbrev two_alone : ℕ → Buses
two_alone loop = record {
  members = member (lengths 2 3 2 1) (pace 250 0) true ∷ member (lengths 8 8 8 3) (pace 80 0) true ∷ [];
  cable = record { places = near ∷ record { x = 1; out_delay = 0; in_delay = loop; listens = false } ∷ []; per = 2 };
}

-- a quantum of 250 ticks and a tick, less 11 there and back, are just three quanta of 80
two_alone_fit : first_failure_of (two_alone 6) plain Any ≡ None
unfolding first_failure_of left_of right_of shortest_in longest_in delay_in sends_in turns_in ahead drift jump look trip way several early lost edges chase spread apart tour behind answered late pull pulled strays lengths_in
two_alone_fit = refl

two_alone_fit_no_more : first_failure_of (two_alone 5) plain Any
    ≡ Some (record { inequality = DriftFitsJump; node = 1; other = 0; sides = record { left = 241000000; right = 240000000 } })
unfolding first_failure_of left_of right_of shortest_in longest_in delay_in sends_in turns_in ahead drift jump look trip way several early lost edges chase spread apart tour behind answered late pull pulled strays lengths_in
two_alone_fit_no_more = refl

-- a longer cable makes that no less
two_alone_longer : first_failure_of (two_alone 5) (record plain { longer = 1 }) Any
    ≡ Some (record { inequality = DriftFitsJump; node = 1; other = 0; sides = record { left = 241000000; right = 240000000 } })
unfolding first_failure_of left_of right_of shortest_in longest_in delay_in sends_in turns_in ahead drift jump look trip way several early lost edges chase spread apart tour behind answered late pull pulled strays lengths_in
two_alone_longer = refl

-- ---- An acknowledgement that comes early, and two receivers whose jumps are unlike (check/margins/acknowledged_unlike.toml)

abbrev loops : ℕ → Place
loops x = record { x = x; out_delay = 100; in_delay = 1; listens = false }

abbrev unlike : ℕ → Buses
unlike far = record {
  members = member (lengths 6 8 2 1) (pace 100 0) true ∷ member (lengths 6 8 2 1) (pace 100 0) true
      ∷ member (lengths 1 7 8 4) (pace 100 0) false ∷ member (lengths 1 8 7 2) (pace 100 0) false ∷ [];
  cable = record { places = loops 0 ∷ loops 248 ∷ loops 248 ∷ loops far ∷ []; per = 1 };
}

-- what the last one's jump leaves is beyond its sample
acknowledged_unlike : first_failure_of (unlike 597) plain Any
    ≡ Some (record { inequality = BitIsThereAtSample; node = 2; other = 3; sides = record { left = 1000000000; right = 900000000 } })
unfolding first_failure_of left_of right_of shortest_in longest_in delay_in sends_in turns_in ahead drift jump look trip way several early lost edges chase spread apart tour behind answered late pull pulled strays lengths_in
acknowledged_unlike = refl

-- 100 ticks nearer it isn't, and with one sender nobody is early
acknowledged_near : first_failure_of (unlike 497) plain Any ≡ None
unfolding first_failure_of left_of right_of shortest_in longest_in delay_in sends_in turns_in ahead drift jump look trip way several early lost edges chase spread apart tour behind answered late pull pulled strays lengths_in
acknowledged_near = refl

acknowledged_alone : first_failure_of (unlike 597) plain One ≡ None
unfolding first_failure_of left_of right_of shortest_in longest_in delay_in sends_in turns_in ahead drift jump look trip way several early lost edges chase spread apart tour behind answered late pull pulled strays lengths_in
acknowledged_alone = refl

-- ---- A third node that only listens, beside two senders

abbrev ear : ℕ → ℕ → Place
ear x out = record { x = x; out_delay = out; in_delay = 130; listens = true }

abbrev with_third : Lengths → Pace → Place → Buses
with_third l p third = record {
  members = member l p true ∷ member l p true ∷ member l p false ∷ [];
  cable = record { places = place 0 ∷ place 5 ∷ third ∷ []; per = 5 };
}

-- over 1000 m a node's bits come far too late, and those of a listener come to nobody
far_node : first_failure_of (with_third (lengths 6 7 2 1) (pace 125 100) (place 1000)) plain Any
    ≡ Some (record { inequality = BitIsThereAtSample; node = 0; other = 2; sides = record { left = 10516475000; right = 1749825000 } })
unfolding first_failure_of left_of right_of shortest_in longest_in delay_in sends_in turns_in ahead drift jump look trip way several early lost edges chase spread apart tour behind answered late pull pulled strays lengths_in
far_node = refl

far_listener : first_failure_of (with_third (lengths 6 7 2 1) (pace 125 100) (ear 1000 120)) plain Any ≡ None
unfolding first_failure_of left_of right_of shortest_in longest_in delay_in sends_in turns_in ahead drift jump look trip way several early lost edges chase spread apart tour behind answered late pull pulled strays lengths_in
far_listener = refl

-- its own bit has to be back at its sample: 1630 ns out and 130 ns in are beyond 14 quanta
own_bit : first_failure_of (with_third (lengths 6 7 2 1) (pace 125 100) (ear 5 1630)) plain Any
    ≡ Some (record { inequality = BitIsThereAtSample; node = 2; other = 2; sides = record { left = 1760000000; right = 1749825000 } })
unfolding first_failure_of left_of right_of shortest_in longest_in delay_in sends_in turns_in ahead drift jump look trip way several early lost edges chase spread apart tour behind answered late pull pulled strays lengths_in
own_bit = refl

-- of a listener 2 and a node 0
listener_follows : is_asked (λ i. i == 2) BitIsThereAtSample 2 0 ≡ true
listener_follows = refl

nobody_follows : is_asked (λ i. i == 2) BitIsThereAtSample 0 2 ≡ false
nobody_follows = refl

its_clock_counts : is_asked (λ i. i == 2) DriftFitsJump 0 2 ≡ true
its_clock_counts = refl

two_listeners : is_asked (λ i. true) DriftFitsJump 0 2 ≡ false
two_listeners = refl

-- ---- Changes

-- a controller's segments, with TSEG1 of 127 quanta, stay in its own ranges
abbrev controller : ℕ → ℕ → ℕ → Lengths
controller prop phase sjw = record { prop = prop; ps1 = phase; ps2 = phase; sjw = sjw; sync = After }

wider_of_controller : changed WiderJump (lengths 95 32 32 16) ≡ Ok (controller 95 32 17)
wider_of_controller = refl

later_of_controller : changed LaterSample (lengths 95 32 32 16) ≡ Ok (controller 97 31 16)
later_of_controller = refl

widest_of_controller : changed WiderJump (lengths 95 32 32 32) ≡ Err refusals.Jump
widest_of_controller = refl

-- segments of at most 8 quanta each stay so
widest : changed WiderJump (lengths 8 8 8 4) ≡ Err refusals.Jump
widest = refl

latest : changed LaterSample (lengths 8 8 8 4) ≡ Err refusals.Phase1
latest = refl

-- ---- What lies outside

abbrev sending : NodeSetup
sending = record no_setup { queue = record { frame = record { extended = false; id = 1; remote = false; dlc = 0; bytes = [] }; ready = 400 } ∷ [] }

abbrev two_of : NodeSetup → NodeSetup → Place → Plan
two_of one other at = record {
  nodes = one ∷ other ∷ [];
  topology = record { places = place 0 ∷ at ∷ []; per = 5 };
  disturbances = [];
  end = 1000000;
}

-- a lone sender beside a listener, and a listener that has a frame, whose cause comes first
lone_sender : outside_of (two_of sending no_setup (ear 5 120)) ≡ Some (NobodyAcknowledges 0)
lone_sender = refl

listener_with_frames : outside_of (two_of sending sending (ear 5 120)) ≡ Some (ListenerSends 1)
listener_with_frames = refl

-- one that acknowledges, and rules of synchronisation that aren't the book's
heard : outside_of (two_of sending no_setup (place 5)) ≡ Some (NotByTheBook 0)
heard = refl

-- ---- One spike

-- 100 ns, segments 8, 8 and 8, one sender; 60 ns out and 70 in, 15 ns a unit
abbrev beside : ℕ → Place
beside x = record { x = x; out_delay = 60; in_delay = 70; listens = false }

abbrev spiked : ℕ → ℕ → Buses
spiked sjw x = record {
  members = member (lengths 8 8 8 sjw) (pace 100 0) true ∷ member (lengths 8 8 8 sjw) (pace 100 0) false ∷ member (lengths 8 8 8 sjw) (pace 100 0) false ∷ [];
  cable = record { places = beside 0 ∷ beside 0 ∷ beside x ∷ []; per = 15 };
}

-- 2.4 quanta to spare, and jumps of four
one_hides : worst_hiding (spiked 4 40) plain One
    ≡ Some (record { sender = 0; receiver = 2; late = record { left = 1460000000; right = 1700000000 }; jumps = 800000000 })
unfolding lengths_in longest_in jump shortest_in right_of left_of late way sends_in trip delay_in look apart chase spread drift tour ahead answered behind early edges lost pull pulled several strays turns_in
one_hides = refl

-- jumps of a quantum fit
narrow_jumps : worst_hiding (spiked 1 40) plain One ≡ None
unfolding lengths_in longest_in jump shortest_in right_of left_of late way sends_in trip delay_in look apart chase spread drift tour ahead answered behind early edges lost pull pulled several strays turns_in
narrow_jumps = refl

-- six quanta to spare for two jumps of three; a unit more is too long
just_fits : worst_hiding (spiked 3 28) plain One ≡ None
unfolding lengths_in longest_in jump shortest_in right_of left_of late way sends_in trip delay_in look apart chase spread drift tour ahead answered behind early edges lost pull pulled several strays turns_in
just_fits = refl

just_hides : worst_hiding (spiked 3 29) plain One
    ≡ Some (record { sender = 0; receiver = 2; late = record { left = 1130000000; right = 1700000000 }; jumps = 600000000 })
unfolding lengths_in longest_in jump shortest_in right_of left_of late way sends_in trip delay_in look apart chase spread drift tour ahead answered behind early edges lost pull pulled several strays turns_in
just_hides = refl
