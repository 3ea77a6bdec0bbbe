-- What a group keeps of its members: a node for each, which is where its plan's simulation has it. This project's profile.
use Rattle.std.specs.Prelude.{◌≡◌, ℕ, Bool, List, map, Option, None, Some, true, slice_index_or}
use Rattle.wl_record_core.specs.declared.record.Record.{Record}
use Rattle.wl_record_core.specs.Truth.{count_below}
use Rattle.wl_replica.specs.State.{State}
use Rattle.wl_node.specs.Reached.{IsNode, keeps_lists, node_setup, quanta_of}
use Rattle.wl_plan.specs.declared.plan.Plan.{Plan}
use Rattle.wl_plan.specs.PlanLine.{setup_at, line_of, table_of}
use Rattle.wl_plan.specs.Simulation.{seen}
use Rattle.wl_group.specs.declared.cell.Cell.{Cell}
use Rattle.wl_group.specs.GroupValue.{GroupValue, IsGroupValue}
use Rattle.wl_group.specs.Ways.{AreWays}

-- the quanta of a member
abbrev pub quanta_kept : Option Cell → Option ℕ
quanta_kept None = None
quanta_kept (Some cell) = Some (quanta_of cell.node)

-- the quanta of all
abbrev pub ran_of : List (Option Cell) → List (Option ℕ)
ran_of cells = map quanta_kept cells

abbrev pub group_value : Plan → Bool → List (Option Cell) → State → List Record → GroupValue
group_value plan lists cells replica emitted = record { plan = plan; lists = lists; ran = ran_of cells; replica = replica; emitted = emitted }

-- The node of a member is node i of the plan after its quanta, its changes were counted, and the tick of its next quantum and the ways to it are there.
pub record IsCell (plan : Plan) (i : ℕ) (cell : Cell) : Type 0 where
  pub setup : node_setup cell.node ≡ setup_at plan i
  pub node : IsNode (seen (line_of plan) i (quanta_of cell.node)) cell.node
  pub changed : cell.changed ≡ count_below ((line_of plan).instant i (quanta_of cell.node)) (table_of plan i)
  pub next : cell.next ≡ (line_of plan).instant i (quanta_of cell.node)
  pub ways : AreWays plan i cell.ways

abbrev pub AreCells : Plan → List (Option Cell) → Type 0
AreCells plan cells = (i : ℕ) (cell : Cell) → slice_index_or cells i None ≡ Some cell → IsCell plan i cell

-- if the nodes of a group list their samples and phase errors, each of them does
abbrev pub AreListing : Bool → List (Option Cell) → Type 0
AreListing lists cells = lists ≡ true → (i : ℕ) (cell : Cell) → slice_index_or cells i None ≡ Some cell → keeps_lists cell.node ≡ true

-- What a group keeps.
pub record IsKept (plan : Plan) (lists : Bool) (cells : List (Option Cell)) (replica : State) (emitted : List Record) : Type 0 where
  pub value : IsGroupValue (group_value plan lists cells replica emitted)
  pub placed : AreCells plan cells
  pub listing : AreListing lists cells
