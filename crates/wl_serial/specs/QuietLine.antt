-- A line at rest, while the engine goes from quantum to quantum. This project's profile.
use Rattle.std.specs.Prelude.{◌≡◌, ℕ, ◌<◌, ◌≤◌, false, List, length, slice_index_or}
use Rattle.wl_record_core.specs.Truth.{count_below}
use Rattle.wl_topology.specs.Delays.{delay_of}
use Rattle.wl_topology.specs.Driven.{driven}
use Rattle.wl_plan.specs.declared.plan.Plan.{Plan}
use Rattle.wl_plan.specs.PlanLine.{line_of, table_of, disturbed}
use Rattle.wl_plan.specs.Rest.{StandsUpTo}
use Rattle.wl_serial.specs.declared.line_at.LineAt.{LineAt}
use Rattle.wl_serial.specs.declared.running_node.Running.{Running}
use Rattle.wl_serial.specs.LineAt.{tells, AreHeard}
use Rattle.wl_serial.specs.Running.{HasRun, IsNext, ticks_left}

-- From one tick on and below another one nothing dominant comes to place j, by the changes that the nodes have told and by the disturbances.
pub record IsSilent (plan : Plan) (rs : List Running) (j from until : ℕ) : Type 0 where
  pub told : (d : Running) (t : ℕ) → from ≤ t → t < until → driven (length plan.nodes) (delay_of plan.topology) (tells rs d) j t ≡ false
  pub calm : (t : ℕ) → from ≤ t → t < until → disturbed plan j t ≡ false

-- at each place, from the next quantum of its node on
abbrev pub AreSilent : Plan → List Running → ℕ → Type 0
AreSilent plan rs until = (j : ℕ) (d : Running) → j < length rs → IsSilent plan rs j (slice_index_or rs j d).next until

-- node i, as far as it has run, drives recessive up to tick t if it sees recessive only
abbrev pub NodeStands : Plan → ℕ → ℕ → Running → Type 0
NodeStands plan t i r = (k : ℕ) → HasRun plan i r k → StandsUpTo (line_of plan) i k t

-- each node
abbrev pub AllStand : Plan → ℕ → List Running → Type 0
AllStand plan t rs = (i : ℕ) (d : Running) → i < length rs → NodeStands plan t i (slice_index_or rs i d)

-- node i doesn't change its drive from its next quantum on and below tick t
abbrev pub Stays : Plan → ℕ → ℕ → Running → Type 0
Stays plan t i r = count_below t (table_of plan i) ≤ count_below r.next (table_of plan i)

-- no node
abbrev pub AllStay : Plan → ℕ → List Running → Type 0
AllStay plan t rs = (i : ℕ) (d : Running) → i < length rs → Stays plan t i (slice_index_or rs i d)

-- The drives are known further: what was heard, which node goes next, and the ticks that are left stay.
pub record AreLifted (plan : Plan) (old new : List Running) : Type 0 where
  pub heard : (lines : List LineAt) → AreHeard plan old lines → AreHeard plan new lines
  pub next : (j : ℕ) → IsNext plan.end old j → IsNext plan.end new j
  pub left : ticks_left plan.end new ≤ ticks_left plan.end old
