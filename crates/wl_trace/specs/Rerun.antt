-- What is kept of a node that runs again over the levels that it saw, and that may leave the bus.
use Rattle.std.specs.Prelude.{◌≡◌, ℕ, List, length, Option, None, if◌then◌else◌}
use Rattle.wl_level.specs.declared.Level.{Level}
use Rattle.wl_node.specs.declared.setup.NodeSetup.{NodeSetup}
use Rattle.wl_node.specs.History.{history_of, staying_history, levels_there, is_after, has_left}
use Rattle.wl_trace.specs.declared.rerun.Rerun.{Rerun}
use Rattle.wl_trace.specs.declared.event.Noted.{Noted}
use Rattle.wl_trace.specs.StayingRerun.{IsStayingRerun, RunsStaying}
use Rattle.wl_trace.specs.Synced.{sync_next}

-- what is kept is that of a node of this setup that saw these levels
pub record IsRerun (setup : NodeSetup) (levels : List Level) (kept : Rerun) : Type 0 where
  pub stayed : IsStayingRerun setup (levels_there setup.until levels) kept.staying
  pub left : kept.left ≡ has_left setup.until levels

-- the same, but that it may have begun any number of bits
pub record RunsAgain (setup : NodeSetup) (levels : List Level) (kept : Rerun) : Type 0 where
  pub stayed : RunsStaying setup (levels_there setup.until levels) kept.staying
  pub left : kept.left ≡ has_left setup.until levels

-- how an edge synchronises it at the next quantum, if it is there and one does
abbrev pub sync_at_next : NodeSetup → List Level → Level → Option Noted
sync_at_next setup levels level = if is_after setup.until (length levels) then None else sync_next setup (staying_history setup levels) level

-- the samples of a node that saw these levels
abbrev pub samples_seen : NodeSetup → List Level → List (ℕ × Level)
samples_seen setup levels = (history_of setup levels).samples
