-- Worked rows: two nodes 50 apart, one tick a unit of length, one tick into each.
use Rattle.std.proofs.Common.{◌≡◌, ℕ, Bool, true, false, List, [], ◌∷◌, Ok, Err, refl, nat_le, nat_lt, ◌&&◌, ◌==◌, if◌then◌else◌}
use Rattle.wl_topology.specs.declared.Place.{Place}
use Rattle.wl_topology.specs.declared.TopologyFault.TheVariants.{NoNodes, ZeroDelay, TooLong}
use Rattle.wl_topology.specs.Limits.{never}
use Rattle.wl_topology.specs.Delays.{Cable, propagation_of, delay_of, disturbance_delay, pairs, topology_of}
use Rattle.wl_topology.specs.Driven.{driven}

abbrev at_x : ℕ → ℕ → ℕ → Place
at_x x out into = record { x = x; out_delay = out; in_delay = into; listens = false }

abbrev two : List Place
two = at_x 0 0 1 ∷ at_x 50 0 1 ∷ []

abbrev cable : Cable
cable = record { places = two; per = 1 }

accepted : topology_of two 1 ≡ Ok cable
accepted = refl

there : delay_of cable 0 1 ≡ 51
there = refl

back : delay_of cable 1 0 ≡ 51
back = refl

own : delay_of cable 0 0 ≡ 1
own = refl

-- node 1 only listens: its propagation delay stays, what it drives comes back to itself, and never to node 0, which it hears
abbrev tap : Cable
tap = record { places = at_x 0 0 1 ∷ record (at_x 50 0 1) { listens = true } ∷ []; per = 1 }

tap_accepted : topology_of tap.places 1 ≡ Ok tap
tap_accepted = refl

tap_way : propagation_of tap 1 0 ≡ 51
tap_way = refl

tap_own : delay_of tap 1 1 ≡ 1
tap_own = refl

tap_heard : delay_of tap 1 0 ≡ never
tap_heard = refl

tap_hears : delay_of tap 0 1 ≡ 51
tap_hears = refl

disturbed : disturbance_delay cable 20 1 ≡ 31
disturbed = refl

all_pairs : pairs cable ≡ (0, 0) ∷ (0, 1) ∷ (1, 0) ∷ (1, 1) ∷ []
all_pairs = refl

-- a node that takes no tick out of itself and none into it does not hear itself a tick later
no_own_delay : topology_of (at_x 0 0 0 ∷ at_x 50 0 1 ∷ []) 1 ≡ Err (ZeroDelay 0 0)
no_own_delay = refl

-- no delay comes before a long one, wherever it is
zero_first : topology_of (at_x 0 2000000 1 ∷ at_x 0 0 0 ∷ []) 1 ≡ Err (ZeroDelay 1 1)
zero_first = refl

long_back : topology_of (at_x 0 0 1 ∷ at_x 0 1048576 1 ∷ []) 1 ≡ Err (TooLong 1 0)
long_back = refl

nobody : topology_of [] 1 ≡ Err NoNodes
nobody = refl

-- node 0 drives dominant at the ticks 100 to 109, node 1 at tick 300 alone
abbrev drove : ℕ → ℕ → Bool
drove i t = if◌then◌else◌ (i == 0) (nat_le 100 t && nat_lt t 110) (t == 300)

not_yet : driven 2 (delay_of cable) drove 1 150 ≡ false
not_yet = refl

first_seen : driven 2 (delay_of cable) drove 1 151 ≡ true
first_seen = refl

last_seen : driven 2 (delay_of cable) drove 1 160 ≡ true
last_seen = refl

over : driven 2 (delay_of cable) drove 1 161 ≡ false
over = refl

hears_itself : driven 2 (delay_of cable) drove 0 101 ≡ true
hears_itself = refl

not_at_once : driven 2 (delay_of cable) drove 0 100 ≡ false
not_at_once = refl

hears_the_other : driven 2 (delay_of cable) drove 0 351 ≡ true
hears_the_other = refl

before_the_beginning : driven 2 (delay_of cable) (λ i t. true) 0 0 ≡ false
before_the_beginning = refl
