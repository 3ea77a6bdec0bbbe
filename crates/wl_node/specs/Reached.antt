-- What others say of a node: its setup, its quanta, where levels put it, what it has done, and whether it has room.
use Rattle.std.specs.Prelude.{◌≡◌, ◌≢◌, ℕ, ◌+◌, ◌<◌, Bool, List, [], ◌∷◌, ◌++◌, length, replicate}
use Rattle.wl_level.specs.declared.Level.{Level}
use Rattle.wl_node.specs.declared.setup.NodeSetup.{NodeSetup}
use Rattle.wl_node.specs.declared.node.Node.{Node}
use Rattle.wl_node.specs.History.{History, history_of, levels_there, levels_away}
use Rattle.wl_node.specs.Kept.{IsRoomy}
use Rattle.wl_node.specs.Staying.{IsStaying}

-- the setup that the node was made of
abbrev pub node_setup : Node → NodeSetup
node_setup node = node.staying.setup

-- the number of quanta that the node has run
abbrev pub quanta_of : Node → ℕ
quanta_of node = node.staying.progress.quanta + node.away

-- whether the node lists its samples and phase errors, or only keeps what a report says of them
abbrev pub keeps_lists : Node → Bool
keeps_lists node = node.staying.progress.traffic.samples.keeps

-- the node is where these levels put it, one for each quantum that it has run, the oldest first
pub record IsNode (levels : List Level) (node : Node) : Type 0 where
  pub stayed : IsStaying (levels_there node.staying.setup.until levels) node.staying
  pub away : node.away ≡ length (levels_away node.staying.setup.until levels)

-- this holds of what the node has done, whatever levels led to it
abbrev pub Shows : Node → (History → Type 0) → Type 0
Shows node holds = (levels : List Level) → IsNode levels node → holds (history_of (node_setup node) levels)

-- at one quantum more, the node has seen this level
abbrev pub HasSeen : Level → Node → Node → Type 0
HasSeen level old new = (levels : List Level) → IsNode levels old → IsNode (levels ++ level ∷ []) new

-- the node is where it was
abbrev pub IsSameNode : Node → Node → Type 0
IsSameNode old new = (levels : List Level) → IsNode levels old → IsNode levels new

-- the node can store what its next quantum brings, without memory
abbrev pub HasRoom : Node → Type 0
HasRoom node = IsRoomy node.staying.progress

-- after so many quanta more, all of this level, the node drives what it drove before them
abbrev pub StandsFor : Node → Level → ℕ → Type 0
StandsFor node level n =
    (levels : List Level) → IsNode levels node → (history_of (node_setup node) (levels ++ replicate n level)).drive ≡ (history_of (node_setup node) levels).drive

-- and after these it drives the other level
abbrev pub TurnsAfter : Node → Level → ℕ → Type 0
TurnsAfter node level n =
    (levels : List Level) → IsNode levels node → (history_of (node_setup node) (levels ++ replicate n level)).drive ≢ (history_of (node_setup node) levels).drive

-- at so many quanta more the node has seen this level, and before the last of them its drive stood
pub record HasGone (level : Level) (n : ℕ) (old new : Node) : Type 0 where
  pub node : (levels : List Level) → IsNode levels old → IsNode (levels ++ replicate n level) new
  pub setup : node_setup new ≡ node_setup old
  pub quanta : quanta_of new ≡ quanta_of old + n
  pub keeps : keeps_lists new ≡ keeps_lists old
  pub stood : (m : ℕ) → m < n → StandsFor old level m

-- at fewer quanta more than were asked for the node has seen this level, and its drive stands
pub record HasStopped (level : Level) (most : ℕ) (old new : Node) : Type 0 where
  pub n : ℕ
  pub few : n < most
  pub gone : HasGone level n old new
  pub stands : StandsFor old level n
