-- What the calls of a world answer and leave, by its own plan and grouping. This project's profile.
use Rattle.std.specs.Prelude.{◌≡◌, ℕ, true, List}
use Rattle.wl_plan.specs.PlanLine.{line_of}
use Rattle.wl_plan.specs.Groupings.{groups_of}
use Rattle.wl_world.specs.declared.events.Event.{Event}
use Rattle.wl_world.specs.declared.events.Event.TheVariants.{Advance}
use Rattle.wl_world.specs.declared.events.Answer.{Answer}
use Rattle.wl_world.specs.Scene.{Scene, possible}
use Rattle.wl_world.specs.Steps.{HasStepped, HasRun, HasRunSome, HasSettled, HasMoved}
use Rattle.wl_world.specs.Moves.{IsStuckAt, HasHanded, HasHandedAll, HasExhausted, HasExhaustedAll, HasRounded}
use Rattle.wl_world.specs.WorldValue.{WorldValue, IsWorldAt, cast_of}

-- ---- events

abbrev pub StepsBy : Event → WorldValue → WorldValue → Answer → Type 0
StepsBy event old new a = HasStepped IsWorldAt (line_of old.plan) (cast_of old.numbers) event old new a

abbrev pub RunsEvents : List Event → WorldValue → WorldValue → List Answer → Type 0
RunsEvents events old new said = HasRun IsWorldAt (line_of old.plan) (cast_of old.numbers) events old new said

abbrev pub StopsAfter : List Event → WorldValue → WorldValue → ℕ → Type 0
StopsAfter events old new count = HasRunSome IsWorldAt (line_of old.plan) (cast_of old.numbers) events old new count

-- ---- settling

abbrev pub SettlesIn : WorldValue → WorldValue → ℕ → Type 0
SettlesIn old new rounds = HasSettled IsWorldAt (line_of old.plan) (cast_of old.numbers) old new rounds

abbrev pub MovesOn : WorldValue → WorldValue → Type 0
MovesOn old new = HasMoved IsWorldAt (line_of old.plan) (cast_of old.numbers) old new

abbrev pub RoundsOn : ℕ → ℕ → WorldValue → WorldValue → Type 0
RoundsOn from to old new = HasRounded (line_of old.plan) (cast_of old.numbers) from to old new

-- records of some numbers are handed to one group, or to all
abbrev pub HandsTo : ℕ → ℕ → ℕ → WorldValue → WorldValue → Type 0
HandsTo group from to old new = HasHanded (line_of old.plan) (cast_of old.numbers) group from to old new

abbrev pub HandsToAll : ℕ → ℕ → WorldValue → WorldValue → Type 0
HandsToAll from to old new = HasHandedAll (line_of old.plan) (cast_of old.numbers) (groups_of old.numbers) from to old new

-- one group advanced, or all, until no node there might
abbrev pub Exhausts : ℕ → WorldValue → WorldValue → Type 0
Exhausts group old new = HasExhausted (line_of old.plan) (cast_of old.numbers) group old new

abbrev pub ExhaustsAll : WorldValue → WorldValue → Type 0
ExhaustsAll old new = HasExhaustedAll (line_of old.plan) (cast_of old.numbers) (groups_of old.numbers) old new

-- node i of a group may run its next quantum, in every scene that the world is; and no node of it may
abbrev pub MayAdvance : WorldValue → ℕ → ℕ → Type 0
MayAdvance v group i = (w : Scene) → IsWorldAt w v → possible (line_of v.plan) (cast_of v.numbers) w (Advance group i) ≡ true

abbrev pub IsStuckIn : WorldValue → ℕ → Type 0
IsStuckIn v group = (w : Scene) → IsWorldAt w v → IsStuckAt (line_of v.plan) (cast_of v.numbers) group w
