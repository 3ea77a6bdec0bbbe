use Rattle.std.proofs.Common.{◌≡◌, ◌++◌}
use Rattle.wl_lines.specs.Shapes.{lines_to}
use Rattle.wl_respond.specs.Texts.{line_of_message}
use Rattle.wl_respond.proofs.text.add_messages.Given as goal

-- the lines so far
abbrev pub invariant-loop-e : goal.invariant-loop-e
invariant-loop-e l = l.said.items ≡ l.fn.said.items ++ lines_to (line_of_message l.names l.asked l.lines) l.e
