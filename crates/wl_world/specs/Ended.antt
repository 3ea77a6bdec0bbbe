-- Where a world is at the end, and how many quanta it still has to run, by its value. This project's profile.
use Rattle.std.specs.Prelude.{◌≡◌, ◌↔◌, ℕ, zero, suc, ◌+◌, ◌-◌, ◌≤◌, true, length, Option, None, Some, slice_get, unwrap_or}
use Rattle.wl_plan.specs.Simulation.{ran}
use Rattle.wl_plan.specs.PlanLine.{line_of}
use Rattle.wl_plan.specs.Groupings.{group_of}
use Rattle.wl_group.specs.Member.{next_tick}
use Rattle.wl_group.specs.GroupValue.{GroupValue, quanta_at, members_now, belongs as has}
use Rattle.wl_world.specs.Scene.{Scene}
use Rattle.wl_world.specs.Headline.{AllAtEnd}
use Rattle.wl_world.specs.Settling.{quanta_left_in}
use Rattle.wl_world.specs.WorldValue.{WorldValue, IsWorldAt, IsWorldValue, cast_of}

-- the next quantum of every member of every group isn't below the end
abbrev pub AreAtEnd : WorldValue → Type 0
AreAtEnd v = (h i : ℕ) (g : GroupValue) → slice_get v.groups h ≡ Some g → has g i ≡ true → v.plan.end ≤ next_tick (line_of v.plan) i (members_now g i)

-- how many quanta node i has run, in its group
abbrev pub quanta_in : Option GroupValue → ℕ → ℕ
quanta_in None i = 0
quanta_in (Some g) i = unwrap_or (quanta_at g i) 0

abbrev pub quanta_run : WorldValue → ℕ → ℕ
quanta_run v i = quanta_in (slice_get v.groups (group_of v.numbers i)) i

-- how many quanta of the nodes below n are still to be run, out of those that the one-thread simulation runs
abbrev pub left_to_run : WorldValue → ℕ → ℕ
left_to_run v zero = 0
left_to_run v (suc n) = left_to_run v n + (ran (line_of v.plan) n v.plan.end - quanta_run v n)

abbrev pub quanta_left_of : WorldValue → ℕ
quanta_left_of v = left_to_run v (length v.plan.nodes)

-- what these have to do with the scenes that a world is
pub record EndLaws : Type 0 where
  pub left_same : (v : WorldValue) → IsWorldValue v → (w : Scene) → IsWorldAt w v → quanta_left_in (line_of v.plan) (cast_of v.numbers) w ≡ quanta_left_of v
  pub end_same : (v : WorldValue) → IsWorldValue v → (w : Scene) → IsWorldAt w v → AreAtEnd v ↔ AllAtEnd (line_of v.plan) (cast_of v.numbers) w
  -- none is left exactly where all are at the end
  pub none_left : (v : WorldValue) → IsWorldValue v → (quanta_left_of v ≡ 0) ↔ AreAtEnd v
