-- How long a level takes along the cable: this project's profile.
use Rattle.std.specs.Prelude.{◌≡◌, ℕ, zero, suc, ◌+◌, ◌*◌, ◌<◌, ◌≤◌, ◌==◌, ◌&&◌, nat_lt, not, Bool, false, List, [], ◌∷◌, ◌++◌, length, find, slice_index_or, Option, Some, None, Result, Ok, Err, IsOk, ◌↔◌, if◌then◌else◌}
use Rattle.std.specs.Int.{abs_diff}
use Rattle.wl_topology.specs.declared.Place.{Place}
use Rattle.wl_topology.specs.declared.TopologyFault.{TopologyFault}
use Rattle.wl_topology.specs.declared.TopologyFault.TheVariants.{NoNodes, TooManyNodes, ZeroDelay, TooLong}
use Rattle.wl_limits.specs.declared.Limits.{Limits}
use Rattle.wl_limits.specs.declared.Limits.TheVariants.{Narrow}
use Rattle.wl_limits.specs.Limits.{node_limit}
use Rattle.wl_topology.specs.Limits.{most_places, longest_delay, never}

-- the places of the nodes, in order, and how many ticks a level takes along one unit of length
pub record Cable : Type 0 where
  pub places : List Place
  pub per : ℕ

abbrev pub nowhere : Place
nowhere = record { x = 0; out_delay = 0; in_delay = 0; listens = false }

abbrev pub place_at : Cable → ℕ → Place
place_at cable i = slice_index_or cable.places i nowhere

-- out of one place, along the cable, into the other
abbrev pub delay_between : ℕ → Place → Place → ℕ
delay_between per a b = a.out_delay + abs_diff a.x b.x * per + b.in_delay

-- the propagation delay from node i to node j, in ticks
abbrev pub propagation_of : Cable → ℕ → ℕ → ℕ
propagation_of cable i j = delay_between cable.per (place_at cable i) (place_at cable j)

-- How many ticks it takes until node j finds what node i drives. What a node drives that only listens comes back to itself and to no other
-- one (ISO 11898-1, bus monitoring).
abbrev pub delay_of : Cable → ℕ → ℕ → ℕ
delay_of cable i j = if (place_at cable i).listens && not (i == j) then never else propagation_of cable i j

-- from a disturbance at x to node j, in ticks: it has no way out of a node
abbrev pub disturbance_delay : Cable → ℕ → ℕ → ℕ
disturbance_delay cable x j = abs_diff x (place_at cable j).x * cable.per + (place_at cable j).in_delay

-- from a disturbance that is at node n alone to node j, in ticks: the way in of that node, and it never comes to another one
abbrev pub local_delay : Cable → ℕ → ℕ → ℕ
local_delay cable n j = if n == j then (place_at cable j).in_delay else never

-- What each cable keeps.
pub record IsTopology (cable : Cable) : Type 0 where
  pub some_node : 1 ≤ length cable.places
  pub few_nodes : length cable.places ≤ most_places
  pub positive : (i j : ℕ) → i < length cable.places → j < length cable.places → 1 ≤ propagation_of cable i j
  pub short : (i j : ℕ) → i < length cable.places → j < length cable.places → propagation_of cable i j ≤ longest_delay

-- d is the delay from node i to one of the first n, and none of these is nearer.
pub record IsLeastFrom (cable : Cable) (i n d : ℕ) : Type 0 where
  pub at_most_each : (j : ℕ) → j < n → d ≤ delay_of cable i j
  pub is_one : (j : ℕ) × (j < n) × (d ≡ delay_of cable i j)

-- d is the delay of a pair of nodes, of which the first is one of the first m, and no such pair is nearer. A node's own delay counts.
pub record IsLeastOf (cable : Cable) (m d : ℕ) : Type 0 where
  pub at_most_each : (i j : ℕ) → i < m → j < length cable.places → d ≤ delay_of cable i j
  pub is_one : (i : ℕ) × (j : ℕ) × (i < m) × (j < length cable.places) × (d ≡ delay_of cable i j)

-- the least delay of all pairs of nodes
abbrev pub IsLeastDelay : Cable → ℕ → Type 0
IsLeastDelay cable d = IsLeastOf cable (length cable.places) d

-- the pairs (i, 0) to (i, n - 1)
abbrev pub row : ℕ → ℕ → List (ℕ × ℕ)
row i zero = []
row i (suc n) = row i n ++ (i, n) ∷ []

-- the rows of 0 to m - 1, each of n pairs
abbrev pub rows : ℕ → ℕ → List (ℕ × ℕ)
rows n zero = []
rows n (suc m) = rows n m ++ row m n

-- all pairs of nodes, by the first and then by the second
abbrev pub pairs : Cable → List (ℕ × ℕ)
pairs cable = rows (length cable.places) (length cable.places)

abbrev pub is_zero : Cable → ℕ × ℕ → Bool
is_zero cable p = propagation_of cable p.0 p.1 == 0

abbrev pub is_long : Cable → ℕ × ℕ → Bool
is_long cable p = nat_lt longest_delay (propagation_of cable p.0 p.1)

-- the cable, unless a pair of nodes is too far apart
abbrev pub unless_long : Cable → Option (ℕ × ℕ) → Result Cable TopologyFault
unless_long cable None = Ok cable
unless_long cable (Some p) = Err (TooLong p.0 p.1)

-- unless a pair has no delay
abbrev pub unless_zero : Cable → Option (ℕ × ℕ) → Result Cable TopologyFault
unless_zero cable None = unless_long cable (find (is_long cable) (pairs cable))
unless_zero cable (Some p) = Err (ZeroDelay p.0 p.1)

-- the cable of these places by these limits, or the first refusal that applies
abbrev pub topology_within : Limits → List Place → ℕ → Result Cable TopologyFault
topology_within limits places per =
    if length places == 0 then Err NoNodes
    else if nat_lt (node_limit limits) (length places) then Err TooManyNodes
    else unless_zero (record { places = places; per = per }) (find (is_zero (record { places = places; per = per })) (pairs (record { places = places; per = per })))

-- the same by the limits of plan texts of versions 1 to 3
abbrev pub topology_of : List Place → ℕ → Result Cable TopologyFault
topology_of places per = topology_within Narrow places per

-- A cable is accepted exactly where it keeps what each cable keeps, and its nodes are within the limits.
abbrev pub AcceptedWhereKept : Type 0
AcceptedWhereKept =
    (limits : Limits) (places : List Place) (per : ℕ)
    → IsOk (topology_within limits places per) ↔ (IsTopology (record { places = places; per = per }) × (length places ≤ node_limit limits))
