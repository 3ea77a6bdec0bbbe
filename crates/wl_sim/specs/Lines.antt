-- Tasks whose engines make other formats of lines (this project's profile).
use Rattle.std.specs.Prelude.{Option, Some, None}
use Rattle.wl_sim.specs.declared.lines.RespondAsked.{RespondAsked}
use Rattle.wl_words.specs.declared.task.Task.{Task}
use Rattle.wl_words.specs.declared.task.Task.TheVariants.{Respond}

-- what is asked of how long messages may wait; other tasks don't ask that
abbrev pub respond_asked : Task → Option RespondAsked
respond_asked (Respond tick any strict) = Some (record { tick = tick; any_data = any; strict = strict })
respond_asked task = None
