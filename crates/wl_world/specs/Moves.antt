-- What the parts of a settling leave, each for every scene that the world was. This project's profile.
use Rattle.std.specs.Prelude.{◌≡◌, ℕ, ◌<◌, ◌≤◌, false, List, Contains, Some, slice_get}
use Rattle.std.specs.List.{AllByRecursion}
use Rattle.wl_record_core.specs.declared.record.Record.{Record}
use Rattle.wl_plan.specs.Line.{Line}
use Rattle.wl_world.specs.declared.events.Event.{Event}
use Rattle.wl_world.specs.declared.events.Event.TheVariants.{Advance, Deliver, Join, Restart}
use Rattle.wl_world.specs.Scene.{Cast, Scene, possible, run}
use Rattle.wl_world.specs.Settling.{IsMove, IsDelivery, IsAdvance, IsRound}
use Rattle.wl_world.specs.WorldValue.{WorldValue, IsWorldAt}

-- an advance of group h
abbrev pub IsAdvanceOf : ℕ → Event → Type 0
IsAdvanceOf h (Advance k i) = k ≡ h
IsAdvanceOf h (Deliver k n) = ⊥
IsAdvanceOf h (Join k n) = ⊥
IsAdvanceOf h (Restart k) = ⊥

-- group h of the second scene has taken the records of the first one from number a up to number b
abbrev pub HasTaken : ℕ → ℕ → ℕ → Scene → Scene → Type 0
HasTaken h a b w x = (k : ℕ) (r : Record) → a ≤ k → k < b → slice_get w.emitted k ≡ Some r → Contains (x.parties h).taken r

-- each group has taken the records of the scene below number n
abbrev pub KnowsBelow : Cast → ℕ → Scene → Type 0
KnowsBelow c n w = (h : ℕ) → h < c.groups → HasTaken h 0 n w w

module _ (l : Line) (c : Cast) where
  -- no node of group h may run its next quantum
  abbrev pub IsStuckAt : ℕ → Scene → Type 0
  IsStuckAt h w = (i : ℕ) → possible l c w (Advance h i) ≡ false

  -- moves led from one world to the other
  abbrev pub MovesLed : WorldValue → WorldValue → Type 0
  MovesLed old new = (w : Scene) → IsWorldAt w old → (es : List Event) × AllByRecursion IsMove es × IsWorldAt (run l c es w) new

  -- deliveries handed the records from number a up to number b to group h, or to each group below n
  abbrev pub HasHanded : ℕ → ℕ → ℕ → WorldValue → WorldValue → Type 0
  HasHanded h a b old new =
      (w : Scene) → IsWorldAt w old → (ds : List Event) × AllByRecursion IsDelivery ds × IsWorldAt (run l c ds w) new × HasTaken h a b w (run l c ds w)

  abbrev pub HasHandedAll : ℕ → ℕ → ℕ → WorldValue → WorldValue → Type 0
  HasHandedAll n a b old new =
      (w : Scene) → IsWorldAt w old → (ds : List Event) × AllByRecursion IsDelivery ds × IsWorldAt (run l c ds w) new
      × ((h : ℕ) → h < n → HasTaken h a b w (run l c ds w))

  -- group h advanced, or each group below n, until no node there might run its next quantum
  abbrev pub HasExhausted : ℕ → WorldValue → WorldValue → Type 0
  HasExhausted h old new = (w : Scene) → IsWorldAt w old → (qs : List Event) × AllByRecursion (IsAdvanceOf h) qs × IsWorldAt (run l c qs w) new × IsStuckAt h (run l c qs w)

  abbrev pub HasExhaustedAll : ℕ → WorldValue → WorldValue → Type 0
  HasExhaustedAll n old new =
      (w : Scene) → IsWorldAt w old → (qs : List Event) × AllByRecursion IsAdvance qs × IsWorldAt (run l c qs w) new
      × ((h : ℕ) → h < n → IsStuckAt h (run l c qs w))

  -- a round: where each group had taken the records below number a, it has now taken those below number b
  abbrev pub HasRounded : ℕ → ℕ → WorldValue → WorldValue → Type 0
  HasRounded a b old new =
      (w : Scene) → IsWorldAt w old → KnowsBelow c a w
      → (ds : List Event) × (qs : List Event) × IsRound l c w ds qs × IsWorldAt (run l c qs (run l c ds w)) new × KnowsBelow c b (run l c qs (run l c ds w))
