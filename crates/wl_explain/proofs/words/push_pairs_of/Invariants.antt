use Rattle.std.proofs.Common.{◌≡◌, ◌++◌, string_bytes}
use Rattle.wl_explain.specs.Words.{pair_doubts}
use Rattle.wl_margin.specs.Pieces.{each_below}
use Rattle.wl_explain.proofs.words.push_pairs_of.Given as goal

-- the doubts so far come after the text
abbrev pub invariant-loop-i : goal.invariant-loop-i
invariant-loop-i l = string_bytes l.text ≡ string_bytes l.initial.text ++ each_below (λ i. pair_doubts l.plan l.names i l.j) l.i
