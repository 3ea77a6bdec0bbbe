use Rattle.std.proofs.Common.{◌≡◌, ◌++◌, string_bytes}
use Rattle.wl_explain.specs.Words.{doubts_with}
use Rattle.wl_margin.specs.Pieces.{each_below}
use Rattle.wl_explain.proofs.words.push_pairs.Given as goal

-- the doubts so far come after the text
abbrev pub invariant-loop-j : goal.invariant-loop-j
invariant-loop-j l = string_bytes l.text ≡ string_bytes l.initial.text ++ each_below (doubts_with l.plan l.names) l.j
