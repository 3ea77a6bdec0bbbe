-- The line that a plan means, and the truth of records of a plan. This project's profile.
use Rattle.std.specs.Prelude.{ℕ, ◌+◌, ◌&&◌, ◌↔◌, nat_le, nat_lt, Bool, IsTrue, Option, Some, None, List, [], ◌∷◌, length, slice_index_or}
use Rattle.std.specs.List.{list_any}
use Rattle.wl_level.specs.Levels.{is_dominant}
use Rattle.wl_clock.specs.Timing.{tick_of}
use Rattle.wl_topology.specs.Delays.{Cable, delay_of, disturbance_delay, local_delay}
use Rattle.wl_segments.specs.declared.SyncRules.TheVariants.{After}
use Rattle.wl_record_core.specs.declared.record.Record.{Record}
use Rattle.wl_record_core.specs.Truth.{IsTrueOf, is_true_of}
use Rattle.wl_node.specs.declared.setup.NodeSetup.{NodeSetup}
use Rattle.wl_node.specs.declared.setup.QueueOrder.TheVariants.{Fifo}
use Rattle.wl_node.specs.History.{history_of}
use Rattle.wl_node.specs.Quiet.{quiet_of}
use Rattle.wl_plan.specs.declared.plan.Disturbance.{Disturbance}
use Rattle.wl_plan.specs.declared.plan.Plan.{Plan}
use Rattle.wl_plan.specs.Line.{Line}
use Rattle.wl_plan.specs.Simulation.{changes}

-- where there is no node
abbrev pub no_setup : NodeSetup
no_setup = record {
  clock = record { offset = 0; rates = record { from = 0; num = 1; den = 1 } ∷ [] };
  segments = record { prop = 1; ps1 = 1; ps2 = 2; sjw = 1; sync = After };
  queue = [];
  order = Fifo;
  until = None;
}

abbrev pub setup_at : Plan → ℕ → NodeSetup
setup_at plan i = slice_index_or plan.nodes i no_setup

-- how many ticks it takes until node j finds what is at one node, or at a place on the cable
abbrev pub delay_from : Cable → Option ℕ → ℕ → ℕ → ℕ
delay_from cable None x j = disturbance_delay cable x j
delay_from cable (Some n) x j = local_delay cable n j

-- until node j finds a disturbance
abbrev pub delay_to : Cable → Disturbance → ℕ → ℕ
delay_to cable d j = delay_from cable d.node d.x j

-- a disturbance has come to node j by tick t, and is not yet over there
abbrev pub is_at : Plan → ℕ → ℕ → Disturbance → Bool
is_at plan j t d = nat_le (d.from + delay_to plan.topology d j) t && nat_lt t (d.to + delay_to plan.topology d j)

-- some disturbance is at node j
abbrev pub disturbed : Plan → ℕ → ℕ → Bool
disturbed plan j t = list_any (is_at plan j t) plan.disturbances

-- what of a plan its simulation rests on
abbrev pub line_of : Plan → Line
line_of plan = record {
  nodes = length plan.nodes;
  instant = λ i k. tick_of (setup_at plan i).clock k;
  drives = λ i levels. is_dominant (history_of (setup_at plan i) levels).drive;
  quiet = λ i levels. quiet_of (setup_at plan i) levels;
  delay = delay_of plan.topology;
  disturbed = disturbed plan;
  stop = plan.end;
}

-- the table of a plan: for each node the ticks before the end at which its drive changes in the one-thread simulation
abbrev pub table_of : Plan → ℕ → List ℕ
table_of plan = changes (line_of plan)

-- a record is true of a plan where it is of the plan's table: by cases, and as a test
abbrev pub IsTrueOfPlan : Plan → Record → Type 0
IsTrueOfPlan plan told = IsTrueOf (length plan.nodes) (table_of plan) told

abbrev pub is_true_of_plan : Plan → Record → Bool
is_true_of_plan plan told = is_true_of (length plan.nodes) (table_of plan) told

abbrev pub TestOfTruth : Type 0
TestOfTruth = (plan : Plan) (told : Record) → IsTrue (is_true_of_plan plan told) ↔ IsTrueOfPlan plan told
