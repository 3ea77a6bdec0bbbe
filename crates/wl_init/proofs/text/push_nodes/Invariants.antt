use Rattle.std.proofs.Common.{◌≡◌, ◌++◌, string_bytes}
use Rattle.wl_init.specs.Texts.{tables_below}
use Rattle.wl_init.proofs.text.push_nodes.Given as goal

-- the tables so far come after the text
abbrev pub invariant-loop-i : goal.invariant-loop-i
invariant-loop-i l = string_bytes l.text ≡ string_bytes l.initial.text ++ tables_below l.draft l.i
