use Rattle.std.proofs.Common.{◌≡◌, ◌++◌}
use Rattle.wl_lines.specs.Aligned.{spaces}
use Rattle.wl_lines.proofs.aligned.push_spaces.Given as goal

-- the spaces so far
abbrev pub invariant-loop : goal.invariant-loop
invariant-loop l = l.text.items ≡ l.fn.text.items ++ spaces l.counter
