-- What the calls of a world answer and leave, beside the machine of groups: `at w v` says that value v is the scene w. A world's crate gives it.
-- This project's profile.
use Rattle.std.specs.Prelude.{◌≡◌, ℕ, ◌<◌, List, ◌++◌, length, take}
use Rattle.std.specs.List.{AllByRecursion}
use Rattle.wl_world.specs.declared.events.Event.{Event}
use Rattle.wl_world.specs.declared.events.Answer.{Answer}
use Rattle.wl_plan.specs.Line.{Line}
use Rattle.wl_world.specs.Scene.{Cast, Scene, start, happens, run, answer, answers}
use Rattle.wl_world.specs.Settling.{IsMove, Rounds}

module _ {W : Type 0} (at : Scene → W → Type 0) (l : Line) (c : Cast) where
  -- one event
  abbrev pub HasStepped : Event → W → W → Answer → Type 0
  HasStepped e old new a = (w : Scene) → at w old → (a ≡ answer l c w e) × at (happens l c w e) new

  -- a new world
  abbrev pub HasStarted : W → Type 0
  HasStarted new = at (start l c) new

  -- a list of events, for a world that other events led to: it answered, and is as those and these lead to
  abbrev pub HasRun : List Event → W → W → List Answer → Type 0
  HasRun events old new said =
      (before : List Event) → at (run l c before (start l c)) old
      → (said ≡ answers l c events (run l c before (start l c))) × at (run l c (before ++ events) (start l c)) new

  -- a list of events that stopped after some of them, before the next one, because memory ran out
  abbrev pub HasRunSome : List Event → W → W → ℕ → Type 0
  HasRunSome events old new count =
      (count < length events)
      × ((before : List Event) → at (run l c before (start l c)) old → at (run l c (before ++ take count events) (start l c)) new)

  -- ---- settling: records are delivered to all and nodes advance, until all are at the end

  -- it made just so many rounds: records were moved and quanta run alone, and all are at the end
  abbrev pub HasSettled : W → W → ℕ → Type 0
  HasSettled old new rounds =
      (before : List Event) → at (run l c before (start l c)) old
      → (moves : List Event) × Rounds l c (run l c before (start l c)) rounds moves × at (run l c (before ++ moves) (start l c)) new

  -- it stopped on the way, because memory ran out
  abbrev pub HasMoved : W → W → Type 0
  HasMoved old new =
      (before : List Event) → at (run l c before (start l c)) old
      → (moves : List Event) × AllByRecursion IsMove moves × at (run l c (before ++ moves) (start l c)) new
