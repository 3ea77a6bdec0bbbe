-- When a worker's group is finished. This project's profile.
use Rattle.std.specs.Prelude.{◌≡◌, ℕ, true}
use Rattle.wl_group.specs.GroupValue.{GroupValue, belongs, has_ended}
use Rattle.wl_group.specs.Led.{LedTo}

-- the next quantum of each member is not below the end
abbrev pub MembersEnded : GroupValue → Type 0
MembersEnded g = (i : ℕ) → belongs g i ≡ true → has_ended g i ≡ true

-- The group that was handed in is led to this one, of the same plan and members, and they are all at the end.
pub record HasFinished (old new : GroupValue) : Type 0 where
  pub led : LedTo old new
  pub ended : MembersEnded new
