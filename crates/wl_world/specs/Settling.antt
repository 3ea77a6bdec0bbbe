-- Settling: records are delivered and nodes advance until all are at the end. How much is left to do, and that each step does some of it.
-- Chandy and Misra 1979: with all promises delivered the least of the next events can always be handled.
use Rattle.std.specs.Prelude.{◌≡◌, ◌↔◌, ℕ, zero, suc, ◌+◌, ◌-◌, ◌<◌, ◌≤◌, true, false, List, [], ◌++◌, length, Contains, Some, slice_get}
use Rattle.std.specs.List.{AllByRecursion}
use Rattle.wl_record_core.specs.declared.record.Record.{Record}
use Rattle.wl_world.specs.declared.events.Event.{Event}
use Rattle.wl_world.specs.declared.events.Event.TheVariants.{Advance, Deliver, Join, Restart}
use Rattle.wl_plan.specs.Line.{Line}
use Rattle.wl_plan.specs.Simulation.{ran}
use Rattle.wl_plan.specs.Sound.{IsSound}
use Rattle.wl_world.specs.Scene.{Cast, Scene, start, possible, done, happens, run}
use Rattle.wl_world.specs.Headline.{IsFaithful, HasAll, AllAtEnd, member_of}

-- an event that a settling may make
abbrev pub IsMove : Event → Type 0
IsMove (Advance h i) = Unit {0}
IsMove (Deliver h k) = Unit {0}
IsMove (Join h k) = ⊥
IsMove (Restart h) = ⊥

-- one that hands over a record, and one that runs a quantum
abbrev pub IsDelivery : Event → Type 0
IsDelivery (Deliver h k) = Unit {0}
IsDelivery (Advance h i) = ⊥
IsDelivery (Join h k) = ⊥
IsDelivery (Restart h) = ⊥

abbrev pub IsAdvance : Event → Type 0
IsAdvance (Advance h i) = Unit {0}
IsAdvance (Deliver h k) = ⊥
IsAdvance (Join h k) = ⊥
IsAdvance (Restart h) = ⊥

-- A round: each group is handed all records that were emitted, and then nodes advance until none can.
pub record IsRound (l : Line) (c : Cast) (w : Scene) (deliveries advances : List Event) : Type 0 where
  pub delivers : AllByRecursion IsDelivery deliveries
  pub runs : AllByRecursion IsAdvance advances
  pub taken : (h : ℕ) → h < c.groups → HasAll (run l c deliveries w) h
  pub stuck : (h i : ℕ) → possible l c (run l c advances (run l c deliveries w)) (Advance h i) ≡ false

-- So many rounds, one after another, and the events in them: each begins where not all are at the end, and the last one leaves all there.
pub data Rounds (l : Line) (c : Cast) : Scene → ℕ → List Event → Type 0 where
  settled : {w : Scene} → AllAtEnd l c w → Rounds l c w 0 []
  round : {w : Scene} {n : ℕ} {rest : List Event} (deliveries advances : List Event) → ¬ (AllAtEnd l c w) → IsRound l c w deliveries advances
      → Rounds l c (run l c advances (run l c deliveries w)) n rest → Rounds l c w (suc n) (deliveries ++ (advances ++ rest))

-- how many quanta of the nodes below n are still to be run
abbrev pub left_below : Line → Cast → Scene → ℕ → ℕ
left_below l c w zero = 0
left_below l c w (suc n) = left_below l c w n + (ran l n l.stop - length (member_of w (c.group_of n) n).saw)

abbrev pub quanta_left_in : Line → Cast → Scene → ℕ
quanta_left_in l c w = left_below l c w l.nodes

pub record SettlingLaws : Type 0 where
  -- an advance runs one of the quanta that are left, a delivery none
  pub advance_lowers : (l : Line) → IsSound l → (c : Cast) (w : Scene) → IsFaithful l c w → (h i : ℕ) → possible l c w (Advance h i) ≡ true
      → quanta_left_in l c w ≡ suc (quanta_left_in l c (done l c w (Advance h i)))
  pub deliver_keeps : (l : Line) (c : Cast) (w : Scene) (h k : ℕ) → quanta_left_in l c (happens l c w (Deliver h k)) ≡ quanta_left_in l c w
  -- none is left where all are at the end
  pub none_left : (l : Line) → IsSound l → (c : Cast) → ((i : ℕ) → i < l.nodes → c.group_of i < c.groups) → (w : Scene) → IsFaithful l c w
      → (quanta_left_in l c w ≡ 0) ↔ AllAtEnd l c w
  -- what is delivered is taken, and no move takes it back
  pub delivered : (l : Line) (c : Cast) (w : Scene) (h k : ℕ) (r : Record) → h < c.groups → slice_get w.emitted k ≡ Some r
      → Contains ((happens l c w (Deliver h k)).parties h).taken r
  pub moves_keep : (l : Line) (c : Cast) (w : Scene) (e : Event) → IsMove e → (g : ℕ) (r : Record) → Contains (w.parties g).taken r
      → Contains ((happens l c w e).parties g).taken r
  -- rounds are moves, they leave all at the end, and there are no more of them than quanta were left
  pub rounds_move : (l : Line) (c : Cast) (w : Scene) (n : ℕ) (moves : List Event) → Rounds l c w n moves → AllByRecursion IsMove moves
  pub rounds_end : (l : Line) (c : Cast) (w : Scene) (n : ℕ) (moves : List Event) → Rounds l c w n moves → AllAtEnd l c (run l c moves w)
  pub few_rounds : (l : Line) → IsSound l → (c : Cast) → ((i : ℕ) → i < l.nodes → c.group_of i < c.groups) → (before : List Event) (n : ℕ) (moves : List Event)
      → Rounds l c (run l c before (start l c)) n moves → n ≤ quanta_left_in l c (run l c before (start l c))
