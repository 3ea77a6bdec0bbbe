-- Where each node of a plan is while the engine goes from quantum to quantum.
use Rattle.std.specs.Prelude.{◌≡◌, ℕ, ◌+◌, ◌-◌, ◌<◌, ◌≤◌, ◌≢◌, ◌&&◌, ◌⊎◌, nat_le, Bool, All, Option, Some, None, List, [], ◌∷◌, ◌++◌, length, slice_index_or, take}
use Rattle.wl_level.specs.declared.Level.{Level}
use Rattle.wl_level.specs.Levels.{level_of}
use Rattle.wl_topology.specs.Delays.{delay_of}
use Rattle.wl_topology.specs.Limits.{most_places}
use Rattle.wl_record_core.specs.Truth.{count_below, odd, IsIncreasing}
use Rattle.wl_plan.specs.declared.plan.Plan.{Plan}
use Rattle.wl_plan.specs.PlanLine.{setup_at, line_of, table_of}
use Rattle.wl_plan.specs.Line.{Line, found}
use Rattle.wl_plan.specs.Simulation.{level, seen, changes, AreInside}
use Rattle.wl_plan.specs.Sound.{IsCausal}
use Rattle.wl_node.specs.Reached.{IsNode, keeps_lists, node_setup, quanta_of}
use Rattle.wl_serial.specs.declared.running_node.Running.{Running}

-- what node j finds on a line at tick t
abbrev pub finds : Line → ℕ → ℕ → Level
finds l j t = level_of (found l (level l) j t)

-- The nodes of a plan on another line, on which levels come to them after other times, and other disturbances do.
abbrev pub line_with : Plan → (ℕ → ℕ → ℕ) → (ℕ → ℕ → Bool) → Line
line_with plan delay disturbed = record {
  nodes = length plan.nodes;
  instant = (line_of plan).instant;
  drives = (line_of plan).drives;
  quiet = (line_of plan).quiet;
  delay = delay;
  disturbed = disturbed;
  stop = plan.end;
}

-- Node i has run k quanta: by its clock its next one is at that tick. Its changes are in order, and below that tick.
pub record IsAt (plan : Plan) (i : ℕ) (r : Running) (k : ℕ) : Type 0 where
  pub setup : node_setup r.node ≡ setup_at plan i
  pub quanta : quanta_of r.node ≡ k
  pub next : r.next ≡ (line_of plan).instant i k
  pub order : IsIncreasing r.changes
  pub below : All (λ t. t < r.next) r.changes

-- where node i is by the quanta that it has run, if the tick of its next one may not be noted yet
abbrev pub by_quanta : Plan → ℕ → Running → Running
by_quanta plan i r = record { node = r.node; changes = r.changes; next = (line_of plan).instant i (quanta_of r.node); known = r.known }

-- some number of quanta
abbrev pub IsSomewhere : Plan → ℕ → Running → Type 0
IsSomewhere plan i r = (k : ℕ) × IsAt plan i r k

-- It has run its first k quanta, which stand below the end, as it does on this line: it has seen the same levels, and keeps the changes below its next
-- quantum.
pub record RunsOn (plan : Plan) (l : Line) (i : ℕ) (r : Running) (k : ℕ) : Type 0 where
  pub at : IsAt plan i r k
  pub inside : AreInside l i k
  pub node : IsNode (seen l i k) r.node
  pub changes : r.changes ≡ take (count_below (l.instant i k) (changes l i)) (changes l i)

-- Node i has run its first k quanta as the simulation does. All its changes are below the tick up to which its drive is known, which is no earlier than its
-- next quantum.
pub record HasRun (plan : Plan) (i : ℕ) (r : Running) (k : ℕ) : Type 0 where
  pub runs : RunsOn plan (line_of plan) i r k
  pub promised : r.next ≤ r.known
  pub known : count_below r.known (table_of plan i) ≤ count_below ((line_of plan).instant i k) (table_of plan i)

-- some number of quanta
abbrev pub IsRunning : Plan → ℕ → Running → Type 0
IsRunning plan i r = (k : ℕ) × HasRun plan i r k

-- changes, and one more where there is one
abbrev pub one_more : List ℕ → Option ℕ → List ℕ
one_more changes None = changes
one_more changes (Some tick) = changes ++ tick ∷ []

-- each node of a plan
pub record AreRunning (plan : Plan) (rs : List Running) : Type 0 where
  pub all : length rs ≡ length plan.nodes
  pub each : (i : ℕ) (d : Running) → i < length rs → IsRunning plan i (slice_index_or rs i d)

-- each node lists its samples and phase errors, or none does
abbrev pub AllKeep : Bool → List Running → Type 0
AllKeep keeps rs = (i : ℕ) (d : Running) → i < length rs → keeps_lists (slice_index_or rs i d).node ≡ keeps

-- each node, wherever it is
pub record AreSomewhere (plan : Plan) (rs : List Running) : Type 0 where
  pub all : length rs ≡ length plan.nodes
  pub each : (i : ℕ) (d : Running) → i < length rs → IsSomewhere plan i (slice_index_or rs i d)

-- at tick t, what comes back to node j of its own drive is what these changes tell
abbrev pub OwnIsTold : Line → ℕ → List ℕ → ℕ → Type 0
OwnIsTold l j changes t = (nat_le (l.delay j j) t && level l j (t - l.delay j j)) ≡ (nat_le (l.delay j j) t && odd (count_below (t - l.delay j j + 1) changes))

-- From where it was, node i ran on on each line on which it was there, and on which it finds these levels at its quanta, as long as its changes tell its own drive.
abbrev pub GoesOn : Plan → ℕ → (ℕ → Level) → ℕ → Running → Running → Type 0
GoesOn plan i sees until old new =
    (delay : ℕ → ℕ → ℕ) (disturbed : ℕ → ℕ → Bool) (k : ℕ) → IsCausal (line_with plan delay disturbed) → RunsOn plan (line_with plan delay disturbed) i old k
    → ((t : ℕ) → old.next ≤ t → t < until → t < new.next → OwnIsTold (line_with plan delay disturbed) i old.changes t
    → sees t ≡ finds (line_with plan delay disturbed) i t)
    → (m : ℕ) × RunsOn plan (line_with plan delay disturbed) i new m

-- each quantum that node i has run is below that tick
abbrev pub RanBelow : Plan → ℕ → ℕ → Running → Type 0
RanBelow plan i until r = (q : ℕ) → (line_of plan).instant i q < r.next → (line_of plan).instant i q < until

-- The node has seen some levels more, and told some changes more.
pub record IsLater (old new : Running) : Type 0 where
  pub setup : node_setup new.node ≡ node_setup old.node
  pub node : (levels : List Level) → IsNode levels old.node → (more : List Level) × IsNode (levels ++ more) new.node
  pub changes : (more : List ℕ) × (new.changes ≡ old.changes ++ more)
  pub next : old.next ≤ new.next
  pub keeps : keeps_lists new.node ≡ keeps_lists old.node

-- The drive is known as far as it was, or up to the next quantum.
pub record IsKnownOn (old new : Running) : Type 0 where
  pub promised : old.next ≤ old.known → new.next ≤ new.known
  pub known : (new.known ≤ old.known) ⊎ (new.known ≤ new.next)

-- the next quantum of each node is not before tick t
abbrev pub NoneBefore : ℕ → List Running → Type 0
NoneBefore t rs = (i : ℕ) (d : Running) → i < length rs → t ≤ (slice_index_or rs i d).next

-- the drive of each node is known below tick t
abbrev pub AllKnown : ℕ → List Running → Type 0
AllKnown t rs = (i : ℕ) (d : Running) → i < length rs → t ≤ (slice_index_or rs i d).known

-- Up to these ticks the drives of the nodes are known; where there is no node of a number, up to the end at least.
pub record AreKnown (end : ℕ) (rs : List Running) (known : List ℕ) : Type 0 where
  pub all : length known ≡ most_places
  pub few : length rs ≤ most_places
  pub each : (i d : ℕ) (r : Running) → i < length rs → slice_index_or known i d ≡ (slice_index_or rs i r).known
  pub beyond : (i d : ℕ) → length rs ≤ i → i < length known → end ≤ slice_index_or known i d

-- no node but node j has run
abbrev pub OnlyOne : ℕ → List Running → List Running → Type 0
OnlyOne j old new = (i : ℕ) (d : Running) → i ≢ j → slice_index_or new i d ≡ slice_index_or old i d

-- node j has its next quantum before the end, and what each node drives before that is known
pub record IsNext (end : ℕ) (rs : List Running) (j : ℕ) : Type 0 where
  pub is_node : j < length rs
  pub before : (d : Running) → (slice_index_or rs j d).next < end
  pub first : (d : Running) → AllKnown (slice_index_or rs j d).next rs

-- node j has its next quantum before tick t
abbrev pub RunsBelow : ℕ → List Running → ℕ → Type 0
RunsBelow t rs j = (d : Running) → (slice_index_or rs j d).next < t

-- what comes to place j from the other nodes is known below tick t
abbrev pub KnowsOthers : Plan → ℕ → ℕ → List Running → Type 0
KnowsOthers plan j t rs = (i : ℕ) (d : Running) → i < length rs → i ≢ j → t ≤ (slice_index_or rs i d).known + delay_of plan.topology i j

-- how many ticks the nodes together have before them
abbrev pub ticks_left : ℕ → List Running → ℕ
ticks_left end [] = 0
ticks_left end (r ∷ rs) = (end - r.next) + ticks_left end rs

-- where node j had a quantum below the horizon, fewer are left
abbrev pub IsFewer : ℕ → ℕ → ℕ → List Running → List Running → Type 0
IsFewer end horizon j old new = RunsBelow horizon old j → ticks_left end new < ticks_left end old
