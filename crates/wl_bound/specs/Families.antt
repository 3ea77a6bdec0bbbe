-- Families of buses: what of a plan the condition for a sound bus is about. This project's.
use Rattle.std.specs.Prelude.{◌≡◌, ℕ, suc, ◌+◌, ◌-◌, ◌*◌, ◌==◌, nat_lt, not, Bool, true, false, List, [], ◌∷◌, length, Option, Some, None, Result, Ok, Err, slice_index_or}
use Rattle.std.specs.Int.{abs_diff}
use Rattle.std.specs.Result.{is_ok}
use Rattle.wl_segments.specs.declared.SegmentsFault.{SegmentsFault}
use Rattle.wl_segments.specs.Lengths.{Lengths, segments_of, controller_segments_of}
use Rattle.wl_topology.specs.Delays.{Cable, propagation_of, place_at}
use Rattle.wl_node.specs.declared.setup.NodeSetup.{NodeSetup}
use Rattle.wl_plan.specs.declared.plan.Plan.{Plan}
use Rattle.wl_plan.specs.PlanLine.{no_setup}
use Rattle.wl_bound.specs.Oscillators.{Pace, shortest_of, longest_of}
use Rattle.wl_bound.specs.declared.family.Change.{Change}
use Rattle.wl_bound.specs.declared.family.Change.TheVariants.{WiderJump, NarrowerJump, LaterSample, EarlierSample}
use Rattle.wl_bound.specs.declared.family.Member.{Member}
use Rattle.wl_bound.specs.declared.family.Setting.{Setting}
use Rattle.wl_bound.specs.declared.family.Source.{Source}
use Rattle.wl_bound.specs.declared.family.Source.TheVariants.{Together, Alone}

-- the nodes and the cable
pub record Buses : Type 0 where
  pub members : List Member
  pub cable : Cable

-- each node has its place
abbrev pub IsFamily : Buses → Type 0
IsFamily f = length f.members ≡ length f.cable.places

abbrev pub no_member : Member
no_member = record {
  oscillator = record {
    fastest = record { from = 0; num = 1; den = 1 };
    slowest = record { from = 0; num = 1; den = 1 };
    tolerance = 0;
    turns = 0;
  };
  segments = no_setup.segments;
  sends = false;
}

abbrev pub member_at : Buses → ℕ → Member
member_at f i = slice_index_or f.members i no_member

-- a node and its oscillator: it sends if frames wait at it
abbrev pub member_of : NodeSetup → Pace → Member
member_of node pace = record { oscillator = pace; segments = node.segments; sends = nat_lt 0 (length node.queue) }

abbrev pub members_of : List NodeSetup → List Pace → List Member
members_of [] paces = []
members_of (node ∷ nodes) [] = []
members_of (node ∷ nodes) (pace ∷ paces) = member_of node pace ∷ members_of nodes paces

abbrev pub family_of : Plan → List Pace → Buses
family_of plan paces = record { members = members_of plan.nodes paces; cable = plan.topology }

-- the same nodes, from node i on, each of which sends unless it only listens
abbrev pub sending : (ℕ → Bool) → ℕ → List Member → List Member
sending listens i [] = []
sending listens i (member ∷ later) = record member { sends = not (listens i) } ∷ sending listens (suc i) later

-- One of the buses that are asked about. Times are counted in units. A tick has enough of them that all are whole.
pub record Bus : Type 0 where
  pub nodes : ℕ
  pub tick : ℕ
  pub shortest : ℕ → ℕ
  pub longest : ℕ → ℕ
  pub turns : ℕ → ℕ
  pub lengths : ℕ → Lengths
  pub sends : ℕ → Bool
  pub delay : ℕ → ℕ → ℕ
  pub added : ℕ → ℕ → ℕ
  pub listens : ℕ → Bool

-- a node that only listens: what it drives reaches no other node (ISO 11898-1, bus monitoring)
abbrev pub only_listens : Cable → ℕ → Bool
only_listens cable i = (place_at cable i).listens

-- the family in which each node sends that doesn't only listen
abbrev pub all_sending : Buses → Buses
all_sending f = record { members = sending (only_listens f.cable) 0 f.members; cable = f.cable }

-- how many ticks a level takes along the cable between two nodes, without the nodes' own
abbrev pub way_between : Cable → ℕ → ℕ → ℕ
way_between cable i j = abs_diff (place_at cable i).x (place_at cable j).x * cable.per

-- who sends
abbrev pub sends_by : Source → Bool → ℕ → Bool
sends_by Together sends i = sends
sends_by (Alone k) sends i = k == i

-- A tick has 1,000,000 units for each tick of `length`.
abbrev pub units : Setting → ℕ
units s = 1000000 * s.length

unfoldable pub shortest_in : Buses → Setting → ℕ → ℕ
shortest_in f s i = s.length * shortest_of (member_at f i).oscillator s.wider

unfoldable pub longest_in : Buses → Setting → ℕ → ℕ
longest_in f s i = s.length * longest_of (member_at f i).oscillator s.wider

-- At each change of its rate a clock loses what rounding left over, less than a tick (this project's profile): so much earlier its quanta can begin.
unfoldable pub turns_in : Buses → Setting → ℕ → ℕ
turns_in f s i = units s * (member_at f i).oscillator.turns

-- On a cable of `length` ticks that becomes longer by `longer` ticks each way along it becomes longer by the same factor.
unfoldable pub delay_in : Buses → Setting → ℕ → ℕ → ℕ
delay_in f s i j = 1000000 * (s.length * propagation_of f.cable i j + s.longer * way_between f.cable i j)

-- what of that the plan's own cable hasn't
abbrev pub added_in : Buses → Setting → ℕ → ℕ → ℕ
added_in f s i j = 1000000 * (s.longer * way_between f.cable i j)

-- the lengths are such as segments have that are set one by one
abbrev pub are_set_singly : Lengths → Bool
are_set_singly l = is_ok (segments_of l.prop l.ps1 l.ps2 l.sjw)

-- segments of these lengths; else those of a controller, that has PROP_SEG and PHASE_SEG1 as one
abbrev pub made_of : (singly : Bool) → (prop ps1 ps2 sjw : ℕ) → Result Lengths SegmentsFault
made_of true prop ps1 ps2 sjw = segments_of prop ps1 ps2 sjw
made_of false prop ps1 ps2 sjw = controller_segments_of (prop + ps1) ps2 sjw

-- The segments with one of them a quantum wider or narrower: the jump width; or PHASE_SEG1 instead of PHASE_SEG2, so that the bit keeps its length. They
-- are in the ranges of their own kind: lengths that fit segments that are set one by one stay such.
abbrev pub changed : Change → Lengths → Result Lengths SegmentsFault
changed WiderJump l = made_of (are_set_singly l) l.prop l.ps1 l.ps2 (l.sjw + 1)
changed NarrowerJump l = made_of (are_set_singly l) l.prop l.ps1 l.ps2 (l.sjw - 1)
changed LaterSample l = made_of (are_set_singly l) l.prop (l.ps1 + 1) (l.ps2 - 1) l.sjw
changed EarlierSample l = made_of (are_set_singly l) l.prop (l.ps1 - 1) (l.ps2 + 1) l.sjw

-- no change if it is refused
abbrev pub or_same : Lengths → Result Lengths SegmentsFault → Lengths
or_same l (Ok other) = other
or_same l (Err fault) = l

abbrev pub lengths_by : Option Change → Lengths → Lengths
lengths_by None l = l
lengths_by (Some change) l = or_same l (changed change l)

unfoldable pub lengths_in : Buses → Setting → ℕ → Lengths
lengths_in f s i = lengths_by s.change (member_at f i).segments

unfoldable pub sends_in : Buses → Setting → ℕ → Bool
sends_in f s i = sends_by s.source (member_at f i).sends i

abbrev pub bus_of : Buses → Setting → Bus
bus_of f s = record {
  nodes = length f.members;
  tick = units s;
  shortest = shortest_in f s;
  longest = longest_in f s;
  turns = turns_in f s;
  lengths = lengths_in f s;
  sends = sends_in f s;
  delay = delay_in f s;
  added = added_in f s;
  listens = only_listens f.cable;
}
