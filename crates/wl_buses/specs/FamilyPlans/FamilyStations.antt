-- The nodes of a family's plan as stations, and what `margin` tests of a plan. This project's.
use Rattle.std.specs.Prelude.{◌≡◌, ℕ, ◌<◌, true, false, length, All}
use Rattle.wl_frame.specs.Grammar.{IsContent}
use Rattle.wl_topology.specs.Delays.{delay_of}
use Rattle.wl_phase.specs.Clocks.{Steady}
use Rattle.wl_plan.specs.declared.plan.Plan.{Plan}
use Rattle.wl_plan.specs.PlanLine.{setup_at}
use Rattle.wl_bound.specs.Conditions.{plain}
use Rattle.wl_bound.specs.Families.{Buses, lengths_in, member_at, only_listens, sends_in}
use Rattle.wl_bound.specs.Verdicts.{has_frames}
use Rattle.wl_buses.specs.OneFrame.Stations.{Stations}
use Rattle.wl_buses.specs.OneFrame.Bounds.{bus_way}

-- its nodes, each of which may send if it does so in the family; and the same stations with the ways that follow from their delays
abbrev pub wayless_stations : Buses → Plan → (clocks : ℕ → Steady) → Stations
wayless_stations f plan clocks = record {
  count = length plan.nodes;
  clocks = clocks;
  lengths = lengths_in f plain;
  delay = delay_of plan.topology;
  may_send = sends_in f plain;
  way = λ k i. 0;
}

abbrev pub stations_of : Buses → Plan → (clocks : ℕ → Steady) → Stations
stations_of f plan clocks = record (wayless_stations f plan clocks) { way = bus_way (wayless_stations f plan clocks) }

-- no node only listens (ISO 11898-1, bus monitoring)
abbrev pub NoneListens : Plan → Type 0
NoneListens plan = (i : ℕ) → i < length plan.nodes → only_listens plan.topology i ≡ false

-- a node with frames sends in the family
abbrev pub SendAsFamily : Buses → Plan → Type 0
SendAsFamily f plan = (i : ℕ) → i < length plan.nodes → has_frames (setup_at plan i) ≡ true → (member_at f i).sends ≡ true

-- each frame that waits is one (Bosch CAN 2.0 part B, section 3.2.1)
abbrev pub AreContents : Plan → Type 0
AreContents plan = (i : ℕ) → i < length plan.nodes → All (λ q. IsContent q.frame) (setup_at plan i).queue
