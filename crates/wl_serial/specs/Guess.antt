-- A guess: one node sends, all others listen, and each is run alone beside what all have told, before it is known that nothing else comes. This project's profile.
-- For a reader who knows simulation: optimistic execution (Jefferson 1985), with a test before anything is committed.
use Rattle.std.specs.Prelude.{◌≡◌, ◌≢◌, ℕ, ◌<◌, ◌≤◌, ◌⊎◌, Bool, List, length, slice_index_or}
use Rattle.wl_level.specs.declared.Level.{Level}
use Rattle.wl_node.specs.Marks.{IsMark, HasPassed, quanta_marked}
use Rattle.wl_node.specs.Reached.{IsNode, keeps_lists, node_setup, quanta_of}
use Rattle.wl_plan.specs.declared.plan.Plan.{Plan}
use Rattle.wl_plan.specs.PlanLine.{line_of}
use Rattle.wl_plan.specs.Guess.{beside, from_others}
use Rattle.wl_serial.specs.declared.running_node.Before.{Before}
use Rattle.wl_serial.specs.declared.running_node.Running.{Running}
use Rattle.wl_serial.specs.LineAt.{tells}
use Rattle.wl_serial.specs.Running.{IsKnownOn, IsLater, IsSomewhere, OnlyOne, RunsOn}

-- From where it was, node i ran on on each line on which it was there, and beside which is shown to it what comes from the others who drove so.
abbrev pub GoesBeside : Plan → ℕ → (ℕ → ℕ → Bool) → Running → Running → Type 0
GoesBeside plan i drove old new =
    (shown : ℕ → Bool) (k : ℕ) → RunsOn plan (beside (line_of plan) shown) i old k
    → ((t : ℕ) → old.next ≤ t → t < new.next → shown t ≡ from_others (line_of plan) drove i t)
    → (m : ℕ) × RunsOn plan (beside (line_of plan) shown) i new m

-- each quantum that node i has run is below that tick, or was run before
abbrev pub RanUpTo : Plan → ℕ → ℕ → Running → Running → Type 0
RanUpTo plan i until old new = (q : ℕ) → (line_of plan).instant i q < new.next → ((line_of plan).instant i q < until) ⊎ ((line_of plan).instant i q < old.next)

-- Node i ran some quanta below that tick, or none, beside what the others drove.
pub record HasRunBeside (plan : Plan) (i until : ℕ) (drove : ℕ → ℕ → Bool) (old new : Running) : Type 0 where
  pub somewhere : IsSomewhere plan i new
  pub goes : GoesBeside plan i drove old new
  pub below : RanUpTo plan i until old new
  pub known : IsKnownOn old new
  pub further : IsLater old new

-- node i alone did so, beside what all had told
pub record RanAlone (plan : Plan) (i until : ℕ) (old new : List Running) : Type 0 where
  pub all : length new ≡ length old
  pub others : OnlyOne i old new
  pub ran : (d : Running) → HasRunBeside plan i until (tells old d) (slice_index_or old i d) (slice_index_or new i d)

-- up to that tick, and told nothing
pub record HasListened (plan : Plan) (i until : ℕ) (drove : ℕ → ℕ → Bool) (old new : Running) : Type 0 where
  pub ran : HasRunBeside plan i until drove old new
  pub reached : until ≤ new.next
  pub same : new.changes ≡ old.changes

-- of the first n nodes each but node j did so, and the others are where they were
pub record HaveListened (plan : Plan) (j until n : ℕ) (old new : List Running) : Type 0 where
  pub all : length new ≡ length old
  pub each : (i : ℕ) (d : Running) → i < n → i ≢ j → HasListened plan i until (tells old d) (slice_index_or old i d) (slice_index_or new i d)
  pub others : (i : ℕ) (d : Running) → (n ≤ i) ⊎ (i ≡ j) → slice_index_or new i d ≡ slice_index_or old i d

-- each node is later
pub record AreLater (old new : List Running) : Type 0 where
  pub all : length new ≡ length old
  pub each : (i : ℕ) (d : Running) → i < length old → IsLater (slice_index_or old i d) (slice_index_or new i d)

-- the node was there
pub record IsBefore (r : Running) (before : Before) : Type 0 where
  pub mark : (levels : List Level) → IsNode levels r.node → IsMark (node_setup r.node) levels before.mark
  pub quanta : quanta_marked before.mark ≡ quanta_of r.node
  pub changes : before.changes ≡ length r.changes
  pub next : before.next ≡ r.next
  pub known : before.known ≡ r.known

-- the node is where it was
pub record IsBack (old new : Running) : Type 0 where
  pub setup : node_setup new.node ≡ node_setup old.node
  pub keeps : keeps_lists new.node ≡ keeps_lists old.node
  pub quanta : quanta_of new.node ≡ quanta_of old.node
  pub node : (levels : List Level) → IsNode levels old.node → IsNode levels new.node
  pub changes : new.changes ≡ old.changes
  pub next : new.next ≡ old.next
  pub known : new.known ≡ old.known

-- each of them
pub record AreBefore (rs : List Running) (marks : List Before) : Type 0 where
  pub all : length marks ≡ length rs
  pub each : (i : ℕ) (d : Running) (b : Before) → i < length rs → IsBefore (slice_index_or rs i d) (slice_index_or marks i b)

pub record HavePassed (marks : List Before) (rs : List Running) : Type 0 where
  pub all : length marks ≡ length rs
  pub each : (i : ℕ) (d : Running) (b : Before) → i < length rs → HasPassed (slice_index_or marks i b).mark (slice_index_or rs i d).node

pub record AreBack (old new : List Running) : Type 0 where
  pub all : length new ≡ length old
  pub each : (i : ℕ) (d : Running) → i < length old → IsBack (slice_index_or old i d) (slice_index_or new i d)

-- No node has gone on, and none is known further.
pub record AreAsFar (old new : List Running) : Type 0 where
  pub all : length new ≡ length old
  pub next : (i : ℕ) (d : Running) → i < length old → (slice_index_or new i d).next ≡ (slice_index_or old i d).next
  pub known : (i : ℕ) (d : Running) → i < length old → (slice_index_or new i d).known ≡ (slice_index_or old i d).known
