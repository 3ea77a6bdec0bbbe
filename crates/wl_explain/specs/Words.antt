-- The words of an explanation: a line for each doubt, and one for the figures of each node (this project's profile).
use Rattle.std.specs.Prelude.{ℕ, ◌/◌, ◌||◌, nat_lt, List, [], ◌∷◌, ◌++◌, codes, if◌then◌else◌, Option, Some, None}
use Rattle.std.specs.Fmt.{decimal}
use Rattle.wl_topology.specs.Delays.{propagation_of}
use Rattle.wl_segments.specs.Lengths.{Lengths}
use Rattle.wl_node.specs.declared.setup.NodeSetup.{NodeSetup}
use Rattle.wl_plan.specs.declared.plan.Plan.{Plan}
use Rattle.wl_plan.specs.PlanLine.{setup_at}
use Rattle.wl_setup.specs.Names.{name_of}
use Rattle.wl_bound.specs.Families.{only_listens}
use Rattle.wl_margin.specs.Pieces.{joined, each_below, thousandths, hundredths}
use Rattle.wl_explain.specs.Figures.{mean_quantum, picoseconds, bits_per_second, sample_point, furthest_way, longest_cable, metres, tolerance}
use Rattle.wl_explain.specs.Doubts.{difference, borne, greatest_difference, left, round_trip, longest_round, wanted_bits, idle_from, first_early, first_late, has_no_room}

-- the bit rate of a node in bit/s
abbrev pub bit_rate : ℕ → NodeSetup → ℕ
bit_rate end s = bits_per_second (mean_quantum end s.clock) s.segments

-- two nodes of unlike bit rates, in kbit/s, and two whose clocks are further apart than their segments bear, in parts per million
abbrev pub unlike_words : List ℕ → List ℕ → ℕ → ℕ → List ℕ
unlike_words a b one other =
    joined (codes "doubt: " ∷ a ∷ codes " and " ∷ b ∷ codes " have unlike bit rates, " ∷ thousandths one ∷ codes " and "
    ∷ thousandths other ∷ codes " kbit/s\n" ∷ [])

abbrev pub apart_words : List ℕ → List ℕ → ℕ → ℕ → List ℕ
apart_words a b apart most =
    joined (codes "doubt: the clocks of " ∷ a ∷ codes " and " ∷ b ∷ codes " are " ∷ decimal apart
    ∷ codes " ppm apart, and their segments bear " ∷ decimal most ∷ codes "\n" ∷ [])

abbrev pub clocks_line : ℕ → List ℕ → List ℕ → NodeSetup → NodeSetup → List ℕ
clocks_line end a b s u =
    if nat_lt greatest_difference (difference end s u) then unlike_words a b (bit_rate end s) (bit_rate end u)
    else (if nat_lt (borne s u) (difference end s u) then apart_words a b (difference end s u) (borne s u) else [])

-- two nodes from one of which a level isn't back at the earlier sample, in ticks
abbrev pub trip_words : List ℕ → List ℕ → ℕ → ℕ → List ℕ
trip_words a b trip most =
    joined (codes "doubt: " ∷ a ∷ codes " to " ∷ b ∷ codes " and back takes " ∷ decimal trip
    ∷ codes " ticks, and the earlier sample leaves " ∷ decimal most ∷ codes "\n" ∷ [])

abbrev pub trip_line : List ℕ → List ℕ → ℕ → ℕ → List ℕ
trip_line a b trip most = if nat_lt most trip then trip_words a b trip most else []

-- No level comes back from a node that only listens (ISO 11898-1, bus monitoring).
abbrev pub way_line : Plan → List (List ℕ) → ℕ → ℕ → List ℕ
way_line plan names i j =
    if only_listens plan.topology i || only_listens plan.topology j then []
    else trip_line (name_of names i) (name_of names j) (round_trip plan i j) (longest_round plan.end (setup_at plan i) (setup_at plan j))

-- what is doubtful of nodes i and j
abbrev pub pair_doubts : Plan → List (List ℕ) → ℕ → ℕ → List ℕ
pair_doubts plan names i j =
    clocks_line plan.end (name_of names i) (name_of names j) (setup_at plan i) (setup_at plan j)
    ++ way_line plan names i j

-- of the nodes before node j and node j
abbrev pub doubts_with : Plan → List (List ℕ) → ℕ → List ℕ
doubts_with plan names j = each_below (λ i. pair_doubts plan names i j) j

-- a jump width above PHASE_SEG2, in quanta
abbrev pub jump_words : List ℕ → ℕ → ℕ → List ℕ
jump_words a jump phase =
    joined (codes "doubt: " ∷ a ∷ codes " has a jump width of " ∷ decimal jump ∷ codes " quanta, above its PHASE_SEG2 of "
    ∷ decimal phase ∷ codes "\n" ∷ [])

abbrev pub jump_line : List ℕ → Lengths → List ℕ
jump_line a l = if nat_lt l.ps2 l.sjw then jump_words a l.sjw l.ps2 else []

-- the first frame that becomes ready at the end or later, and the first that does so before the tick from which all nodes can be idle
abbrev pub late_line : List ℕ → Option ℕ → List ℕ
late_line a None = []
late_line a (Some n) = joined (codes "doubt: frame " ∷ decimal n ∷ codes " of " ∷ a ∷ codes " becomes ready at the end or later\n" ∷ [])

abbrev pub early_line : List ℕ → ℕ → Option ℕ → List ℕ
early_line a idle None = []
early_line a idle (Some n) =
    joined (codes "doubt: frame " ∷ decimal n ∷ codes " of " ∷ a ∷ codes " becomes ready before tick " ∷ decimal idle
    ∷ codes ", from which on all nodes can be idle\n" ∷ [])

-- what is doubtful of node i
abbrev pub node_doubts : Plan → List (List ℕ) → ℕ → List ℕ
node_doubts plan names i =
    jump_line (name_of names i) (setup_at plan i).segments
    ++ late_line (name_of names i) (first_late plan.end (setup_at plan i))
    ++ early_line (name_of names i) (idle_from plan) (first_early (idle_from plan) (setup_at plan i))

-- an end that leaves no room for the frames of a node
abbrev pub room_words : List ℕ → ℕ → List ℕ
room_words a bits = joined (codes "doubt: 11 bits and the frames of " ∷ a ∷ codes " take at least " ∷ decimal bits ∷ codes " bits, beyond the end\n" ∷ [])

abbrev pub room_line : ℕ → List ℕ → NodeSetup → List ℕ
room_line end a s = if has_no_room end s then room_words a (wanted_bits s) else []

-- of node i
abbrev pub room_doubts : Plan → List (List ℕ) → ℕ → List ℕ
room_doubts plan names i = room_line plan.end (name_of names i) (setup_at plan i)

-- the figures of node i: bit rate, sample point and quantum, as its clock goes
abbrev pub timing_words : List ℕ → ℕ → ℕ → ℕ → List ℕ
timing_words a rate point quantum =
    joined (codes "node " ∷ a ∷ codes ": " ∷ thousandths rate ∷ codes " kbit/s, sample point " ∷ hundredths point ∷ codes " %, quantum "
    ∷ thousandths quantum ∷ codes " ns" ∷ [])

abbrev pub timing_figures : Plan → List (List ℕ) → ℕ → List ℕ
timing_figures plan names i =
    timing_words (name_of names i) (bit_rate plan.end (setup_at plan i)) (sample_point (setup_at plan i).segments)
    (picoseconds (mean_quantum plan.end (setup_at plan i).clock))

-- the tolerance of its oscillator, and how much of it the other clocks leave to both of a pair
abbrev pub margin_words : ℕ → ℕ → List ℕ
margin_words ppm rest = joined (codes ", tolerance " ∷ decimal ppm ∷ codes " ppm, left " ∷ decimal rest ∷ codes " ppm" ∷ [])

abbrev pub margin_figures : Plan → ℕ → List ℕ
margin_figures plan i = margin_words (tolerance (setup_at plan i).segments) (left plan i / 2)

-- the longest cable to a node like this one, by the time that a level takes along it, and in metres
abbrev pub cable_words : Option ℕ → List ℕ
cable_words None = codes ", cable none\n"
cable_words (Some time) =
    joined (codes ", cable " ∷ decimal time ∷ codes " ns, " ∷ decimal (metres time) ∷ codes " m at 5 ns a metre\n" ∷ [])

abbrev pub cable_figure : Plan → ℕ → List ℕ
cable_figure plan i =
    cable_words (longest_cable (furthest_way (mean_quantum plan.end (setup_at plan i).clock) (setup_at plan i).segments) (propagation_of plan.topology i i) 1)

abbrev pub figures_line : Plan → List (List ℕ) → ℕ → List ℕ
figures_line plan names i = timing_figures plan names i ++ margin_figures plan i ++ cable_figure plan i
