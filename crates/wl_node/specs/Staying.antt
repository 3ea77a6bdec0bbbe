-- A node that is on the bus, which never leaves it as far as its levels go: where they put it, and what it does. As `Reached` says it of any node.
use Rattle.std.specs.Prelude.{◌≡◌, ◌≢◌, ℕ, ◌+◌, ◌<◌, List, ◌++◌, replicate}
use Rattle.wl_level.specs.declared.Level.{Level}
use Rattle.wl_node.specs.declared.staying_node.StayingNode.{StayingNode}
use Rattle.wl_node.specs.History.{staying_history}
use Rattle.wl_node.specs.Kept.{IsProgress}

-- the node is where these levels put it, one for each quantum that it has run, the oldest first
abbrev pub IsStaying : List Level → StayingNode → Type 0
IsStaying levels node = IsProgress node.setup node.progress levels

-- the node is where it was
abbrev pub IsSameStaying : StayingNode → StayingNode → Type 0
IsSameStaying old new = (levels : List Level) → IsStaying levels old → IsStaying levels new

-- after so many quanta more, all of this level, the node drives what it drove before them
abbrev pub StayingStands : StayingNode → Level → ℕ → Type 0
StayingStands node level n =
    (levels : List Level) → IsStaying levels node → (staying_history node.setup (levels ++ replicate n level)).drive ≡ (staying_history node.setup levels).drive

-- and after these it drives the other level
abbrev pub StayingTurns : StayingNode → Level → ℕ → Type 0
StayingTurns node level n =
    (levels : List Level) → IsStaying levels node → (staying_history node.setup (levels ++ replicate n level)).drive ≢ (staying_history node.setup levels).drive

-- at so many quanta more the node has seen this level, and before the last of them its drive stood
pub record StayingHasGone (level : Level) (n : ℕ) (old new : StayingNode) : Type 0 where
  pub node : (levels : List Level) → IsStaying levels old → IsStaying (levels ++ replicate n level) new
  pub setup : new.setup ≡ old.setup
  pub quanta : new.progress.quanta ≡ old.progress.quanta + n
  pub keeps : new.progress.traffic.samples.keeps ≡ old.progress.traffic.samples.keeps
  pub stood : (m : ℕ) → m < n → StayingStands old level m

-- at fewer quanta more than were asked for the node has seen this level, and its drive stands
pub record StayingHasStopped (level : Level) (most : ℕ) (old new : StayingNode) : Type 0 where
  pub n : ℕ
  pub few : n < most
  pub gone : StayingHasGone level n old new
  pub stands : StayingStands old level n
