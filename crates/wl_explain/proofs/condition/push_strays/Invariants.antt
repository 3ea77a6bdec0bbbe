use Rattle.std.proofs.Common.{◌≡◌, ◌++◌, string_bytes}
use Rattle.wl_margin.specs.Pieces.{each_below}
use Rattle.wl_explain.specs.Condition.{stray_of}
use Rattle.wl_explain.proofs.condition.push_strays.Given as goal

-- what was said so far comes after the text
abbrev pub invariant-loop-i : goal.invariant-loop-i
invariant-loop-i l = string_bytes l.text ≡ string_bytes l.initial.text ++ each_below (stray_of l.family l.plan l.names) l.i
