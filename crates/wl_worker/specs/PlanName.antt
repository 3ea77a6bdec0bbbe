-- A plan as the name of a hub's passes, and the words that it needs there. This project's profile.
use Rattle.std.specs.Prelude.{◌≡◌, ℕ, suc, ◌<◌, ◌≤◌, List, [], ◌∷◌, length, slice_index_or, Some, Option}
use Rattle.wl_clock.specs.Timing.{tick_of}
use Rattle.wl_record_core.specs.declared.record.Record.{Record}
use Rattle.wl_plan.specs.declared.plan.Plan.{Plan}
use Rattle.wl_plan.specs.PlanLine.{setup_at, IsTrueOfPlan}
use Rattle.wl_plan.specs.Changes.{most_changes}
use Rattle.wl_plan.specs.Checked.{IsChecked}
use Rattle.wl_hub.specs.declared.hub.Hub.{Hub}
use Rattle.wl_hub.specs.declared.hub.Pass.{Pass}
use Rattle.wl_hub.specs.Passes.{with_edge, with_silence, given_edges, given_silences, pass_name, shape_of}
use Rattle.wl_worker.specs.declared.plan_name.PlanName.{PlanName}

abbrev pub name_of_plan : Plan → PlanName
name_of_plan plan = record { plan = plan }

-- a record is true of a name where it is of the plan
abbrev pub is_told : PlanName → Record → Type 0
is_told name told = IsTrueOfPlan name.plan told

-- a record is true of the plan that is this name, if it is one
abbrev pub IsTrueOfName : Option PlanName → Record → Type 0
IsTrueOfName name told = (plan : Plan) → name ≡ Some (name_of_plan plan) → IsTrueOfPlan plan told

-- a node some of whose quanta begin before the end has as many edge words as it may have changes, and one silence word more
pub record HasWords (plan : Plan) (i : ℕ) (words : ℕ × ℕ) : Type 0 where
  pub quanta : ℕ
  pub reached : plan.end ≤ tick_of (setup_at plan i).clock quanta
  pub least : (k : ℕ) → k < quanta → tick_of (setup_at plan i).clock k < plan.end
  pub edges : words.0 ≡ most_changes plan i quanta
  pub silences : words.1 ≡ suc words.0

-- so has each node of the plan
pub record IsShapeOf (plan : Plan) (shape : List (ℕ × ℕ)) : Type 0 where
  pub all : length shape ≡ length plan.nodes
  pub each : (i : ℕ) → i < length plan.nodes → HasWords plan i (slice_index_or shape i (0, 0))

-- a list of edges and clashes, and one of silences, with those of some records at their ends
abbrev pub with_edges : List Record → List Record → List Record
with_edges gs [] = gs
with_edges gs (r ∷ rs) = with_edges (with_edge gs r) rs

abbrev pub with_silences : List Record → List Record → List Record
with_silences gs [] = gs
with_silences gs (r ∷ rs) = with_silences (with_silence gs r) rs

-- a pass of a hub is of a plan: that is its name, the plan can be run, and the hub has its words
pub record IsOfPlan (hub : Hub PlanName) (pass : Pass PlanName) (plan : Plan) : Type 0 where
  pub name : pass_name pass ≡ Some (name_of_plan plan)
  pub checked : IsChecked plan
  pub words : IsShapeOf plan (shape_of hub)

-- the list of a pass grew by exactly these records, each in its part
pub record PassGave (old new : Pass PlanName) (records : List Record) : Type 0 where
  pub edges : given_edges new ≡ with_edges (given_edges old) records
  pub silences : given_silences new ≡ with_silences (given_silences old) records

-- the links of workers 0, 1 and so on
abbrev pub AreNumbered : {L : Type 0} → (L → ℕ) → List L → Type 0
AreNumbered {L} number links = (w : ℕ) (d : L) → w < length links → number (slice_index_or links w d) ≡ w
