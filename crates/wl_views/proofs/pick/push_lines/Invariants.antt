use Rattle.std.proofs.Common.{◌≡◌, ◌++◌, take, string_bytes}
use Rattle.std.specs.List.{flat_map}
use Rattle.wl_views.specs.TraceText.{trace_line}
use Rattle.wl_views.proofs.pick.push_lines.Given as goal

-- the lines so far are after the text
abbrev pub invariant-loop-tick : goal.invariant-loop-tick
invariant-loop-tick l = string_bytes l.text ≡ string_bytes l.initial.text ++ flat_map (trace_line l.names) (take l.tick-index l.told)
