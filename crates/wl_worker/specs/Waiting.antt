-- Workers that all wait for one another. This project's profile; for a reader who knows simulation: that there is no deadlock (Chandy and Misra 1979).
use Rattle.std.specs.Prelude.{◌≡◌, ℕ, ◌<◌, ◌≤◌, true, false, length}
use Rattle.wl_replica.specs.State.{slots_of}
use Rattle.wl_replica.specs.Known.{horizon}
use Rattle.wl_plan.specs.declared.plan.Plan.{Plan}
use Rattle.wl_group.specs.GroupValue.{GroupValue, IsGroupValue, belongs, may_run}
use Rattle.wl_worker.specs.Finished.{MembersEnded}

-- the tick up to which a group knows what node i drives
abbrev pub promise_of : GroupValue → ℕ → ℕ
promise_of g i = horizon (slots_of g.replica) i

-- none of its members may run, for any number
abbrev pub IsBlocked : GroupValue → Type 0
IsBlocked g = (i : ℕ) → may_run g i ≡ false

-- Groups of a plan, by worker. Each node is a member of one, and no group knows less of a node than the group that has it: what was said has arrived.
pub record KnowAll (plan : Plan) (workers : ℕ) (groups : ℕ → GroupValue) : Type 0 where
  pub value : (w : ℕ) → w < workers → IsGroupValue (groups w)
  pub plan_is : (w : ℕ) → w < workers → (groups w).plan ≡ plan
  pub one_has : (i : ℕ) → i < length plan.nodes → (w : ℕ) × (w < workers) × (belongs (groups w) i ≡ true)
  pub told : (w v i : ℕ) → w < workers → v < workers → belongs (groups w) i ≡ true → promise_of (groups w) i ≤ promise_of (groups v) i

-- where each of them is blocked, all are at their ends
abbrev pub BlockedHaveEnded : Type 0
BlockedHaveEnded = (plan : Plan) (workers : ℕ) (groups : ℕ → GroupValue) → KnowAll plan workers groups
    → ((w : ℕ) → w < workers → IsBlocked (groups w)) → (w : ℕ) → w < workers → MembersEnded (groups w)
