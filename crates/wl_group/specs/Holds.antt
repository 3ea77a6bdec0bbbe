-- What holds of every node of a group and of every group, whatever came in that is true: it is where the one-thread simulation has it.
-- Chandy and Misra 1979, as an invariant; this project's profile.
use Rattle.std.specs.Prelude.{◌≡◌, ℕ, ◌<◌, ◌≤◌, Bool, true, length}
use Rattle.wl_record_core.specs.Truth.{count_below}
use Rattle.wl_replica.specs.Slots.{Contents, HoldsTrue}
use Rattle.wl_replica.specs.Known.{is_tick, horizon, place_horizon}
use Rattle.wl_plan.specs.Line.{Line}
use Rattle.wl_plan.specs.Simulation.{seen, changes, AreInside}
use Rattle.wl_group.specs.Member.{Member, next_tick}

-- What holds of member i beside slots w.
pub record IsMember (l : Line) (i : ℕ) (m : Member) (w : Contents) : Type 0 where
  -- it has seen what node i of the simulation sees at as many quanta
  pub state : m.saw ≡ seen l i (length m.saw)
  -- its quanta were below the end
  pub inside : AreInside l i (length m.saw)
  -- and at each of them the line at its place was known
  pub read : (k : ℕ) → k < length m.saw → l.instant i k < place_horizon l.nodes l.delay w i
  -- it has changed as often as node i of the simulation by then
  pub count : m.changed ≡ count_below (next_tick l i m) (changes l i)
  -- and is known up to its next quantum: its changes before that stand in the slots
  pub known : next_tick l i m ≤ horizon w i

-- What holds of a group: all that it knows is true, and its members are where the simulation has them.
pub record IsGroup (l : Line) (belongs : ℕ → Bool) (members : ℕ → Member) (w : Contents) : Type 0 where
  pub truth : HoldsTrue l.nodes (changes l) w
  pub each : (i : ℕ) → i < l.nodes → belongs i ≡ true → IsMember l i (members i) w

-- All that member i said so far stands in slots w: its changes, and its silence up to its next quantum.
pub record IsTold (l : Line) (i : ℕ) (m : Member) (w : Contents) : Type 0 where
  pub edges : (n : ℕ) → n < m.changed → is_tick (w.edge i n) ≡ true
  pub silence : next_tick l i m ≤ w.silence i m.changed
