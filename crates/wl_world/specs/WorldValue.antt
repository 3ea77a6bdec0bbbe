-- A world that runs, as the contracts of its calls see it, and when it is a scene of the machine. This project's profile.
use Rattle.std.specs.Prelude.{◌≡◌, ℕ, true, List, length, Some, slice_get}
use Rattle.wl_record_core.specs.declared.record.Record.{Record}
use Rattle.wl_plan.specs.declared.plan.Plan.{Plan}
use Rattle.wl_plan.specs.PlanLine.{line_of}
use Rattle.wl_plan.specs.Checked.{IsChecked}
use Rattle.wl_plan.specs.Groupings.{IsGrouping, groups_of, group_of}
use Rattle.wl_group.specs.Party.{initial_party}
use Rattle.wl_group.specs.GroupValue.{GroupValue, Matches, belongs as has}
use Rattle.wl_world.specs.declared.events.Event.{Event}
use Rattle.wl_world.specs.Scene.{Cast, Scene, start, run, is_of_group}

pub record WorldValue : Type 0 where
  pub plan : Plan
  -- for each node of the plan the number of its group
  pub numbers : List ℕ
  pub groups : List GroupValue
  -- all records that were ever emitted, the oldest first
  pub emitted : List Record

-- the cast of a grouping; a number that is no node is in none of its groups
abbrev pub cast_of : List ℕ → Cast
cast_of numbers = record { groups = groups_of numbers; group_of = group_of numbers }

-- The world is this scene: each group is its party, and the same was emitted.
pub record IsWorldAt (w : Scene) (v : WorldValue) : Type 0 where
  pub emitted : v.emitted ≡ w.emitted
  pub groups : (h : ℕ) (g : GroupValue) → slice_get v.groups h ≡ Some g → Matches (w.parties h) g

-- Of the plan and the grouping: what was checked, and that each group is of this plan, lists its nodes' samples and phase errors, and has the nodes that the grouping gives it.
pub record IsStaffed (v : WorldValue) : Type 0 where
  pub checked : IsChecked v.plan
  pub grouping : IsGrouping (length v.plan.nodes) v.numbers
  pub count : length v.groups ≡ groups_of v.numbers
  pub plans : (h : ℕ) (g : GroupValue) → slice_get v.groups h ≡ Some g → g.plan ≡ v.plan
  pub lists : (h : ℕ) (g : GroupValue) → slice_get v.groups h ≡ Some g → g.lists ≡ true
  pub members : (h : ℕ) (g : GroupValue) → slice_get v.groups h ≡ Some g → has g ≡ is_of_group (cast_of v.numbers) h

-- some events led to it
abbrev pub IsReachedScene : WorldValue → Type 0
IsReachedScene v = (before : List Event) × IsWorldAt (run (line_of v.plan) (cast_of v.numbers) before (start (line_of v.plan) (cast_of v.numbers))) v

-- What holds of every world. So all that the headline says holds of it.
pub record IsWorldValue (v : WorldValue) : Type 0 where
  pub staffed : IsStaffed v
  pub reached : IsReachedScene v

-- the value by its parts
abbrev pub world_value : Plan → List ℕ → List GroupValue → List Record → WorldValue
world_value plan numbers groups emitted = record { plan = plan; numbers = numbers; groups = groups; emitted = emitted }

-- Group h of a new world.
pub record IsFirstGroup (plan : Plan) (numbers : List ℕ) (h : ℕ) (g : GroupValue) : Type 0 where
  pub plan_is : g.plan ≡ plan
  pub lists : g.lists ≡ true
  pub members : has g ≡ is_of_group (cast_of numbers) h
  pub begun_as : Matches (initial_party (line_of plan) (is_of_group (cast_of numbers) h)) g

abbrev pub AreFirst : Plan → List ℕ → List GroupValue → Type 0
AreFirst plan numbers groups = (h : ℕ) (g : GroupValue) → slice_get groups h ≡ Some g → IsFirstGroup plan numbers h g
