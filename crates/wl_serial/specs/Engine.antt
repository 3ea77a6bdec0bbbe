-- The engine between two turns. This project's profile.
use Rattle.std.specs.Prelude.{ℕ, ◌<◌, Bool}
use Rattle.wl_plan.specs.declared.plan.Plan.{Plan}
use Rattle.wl_serial.specs.declared.engine.Engine.{Engine}
use Rattle.wl_serial.specs.LineAt.{AreLines, AreHeard}
use Rattle.wl_serial.specs.Running.{AllKeep, AreRunning, AreKnown, IsNext, ticks_left}

-- Each node has run as the simulation does. Each place has heard what they have told. Up to which ticks the drives are known is as the nodes have it.
pub record IsEngine (plan : Plan) (e : Engine) : Type 0 where
  pub running : AreRunning plan e.nodes.items
  pub lines : AreLines plan e.lines.items
  pub heard : AreHeard plan e.nodes.items e.lines.items
  pub known : AreKnown plan.end e.nodes.items e.known

-- its nodes list their samples, or only count them
abbrev pub KeepsLists : Bool → Engine → Type 0
KeepsLists keeps e = AllKeep keeps e.nodes.items

-- node j has its next quantum before the end, and what each node drives before that is known
abbrev pub GoesNext : Plan → ℕ → Engine → Type 0
GoesNext plan j e = IsNext plan.end e.nodes.items j

-- fewer ticks are before the nodes together
abbrev pub IsNearer : Plan → Engine → Engine → Type 0
IsNearer plan old new = ticks_left plan.end new.nodes.items < ticks_left plan.end old.nodes.items
