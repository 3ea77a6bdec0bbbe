-- What one node runs beside what all have told. This project's profile.
use Rattle.std.specs.Prelude.{◌≡◌, ℕ, ◌<◌, List, length, slice_index_or, set}
use Rattle.wl_plan.specs.declared.plan.Plan.{Plan}
use Rattle.wl_pulse.specs.Pulses.{drove}
use Rattle.wl_serial.specs.declared.running_node.Running.{Running}
use Rattle.wl_level.specs.declared.Level.{Level}
use Rattle.wl_level.specs.Levels.{level_of}
use Rattle.wl_serial.specs.Guess.{RanUpTo}
use Rattle.wl_serial.specs.LineAt.{sees}
use Rattle.wl_serial.specs.Running.{IsSomewhere, GoesOn, RanBelow, IsKnownOn, IsLater, by_quanta}

-- Node j alone ran on, below that tick, by what the nodes had told.
pub record HasStretched (plan : Plan) (j until : ℕ) (old new : List Running) : Type 0 where
  pub r : Running
  pub is : new ≡ set old j r
  pub somewhere : IsSomewhere plan j r
  pub goes : (d : Running) → GoesOn plan j (sees plan old d j) until (slice_index_or old j d) r
  pub below : RanBelow plan j until r
  pub known : (d : Running) → IsKnownOn (slice_index_or old j d) r
  pub further : (d : Running) → IsLater (slice_index_or old j d) r
  pub later : (d : Running) → (slice_index_or old j d).next < r.next

-- node j told no change
abbrev pub TellsTheSame : ℕ → List Running → List Running → Type 0
TellsTheSame j old new = (d : Running) → j < length old → (slice_index_or new j d).changes ≡ (slice_index_or old j d).changes

-- From where it was, node i ran on below that tick, or not at all, by the levels that it sees. Up to which tick its drive is known isn't noted.
pub record HasFollowed (plan : Plan) (i until : ℕ) (sees : ℕ → Level) (old new : Running) : Type 0 where
  pub somewhere : IsSomewhere plan i new
  pub goes : GoesOn plan i sees until old new
  pub below : RanUpTo plan i until old new
  pub known : new.known ≡ old.known
  pub further : IsLater old new

-- if it had a quantum below that tick, it ran one
abbrev pub RunsAny : ℕ → Running → Running → Type 0
RunsAny until old new = old.next < until → old.next < new.next

-- Node i alone did so, by what the changes of node j make a delay later. The tick of its next quantum isn't noted.
pub record HasRunAlong (plan : Plan) (j delay i until : ℕ) (old new : List Running) : Type 0 where
  pub r : Running
  pub is : new ≡ set old i r
  pub ran : (d : Running) → HasFollowed plan i until (λ t. level_of (drove (slice_index_or old j d).changes delay t)) (slice_index_or old i d) (by_quanta plan i r)
