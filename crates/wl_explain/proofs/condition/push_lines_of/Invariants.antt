use Rattle.std.proofs.Common.{◌≡◌, ◌++◌, string_bytes}
use Rattle.wl_margin.specs.Pieces.{each_below}
use Rattle.wl_explain.specs.Condition.{pair_lines}
use Rattle.wl_explain.proofs.condition.push_lines_of.Given as goal

-- what was said so far comes after the text
abbrev pub invariant-loop-j : goal.invariant-loop-j
invariant-loop-j l = string_bytes l.text ≡ string_bytes l.initial.text ++ each_below (pair_lines l.family l.plan l.names l.i) l.j
