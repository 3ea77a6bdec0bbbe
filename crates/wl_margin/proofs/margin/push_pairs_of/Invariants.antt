use Rattle.std.proofs.Common.{◌≡◌, ◌++◌, string_bytes}
use Rattle.wl_margin.specs.Pieces.{each_below}
use Rattle.wl_margin.specs.Margins.{pair_words}
use Rattle.wl_margin.proofs.margin.push_pairs_of.Given as goal

-- the lines so far come after the text
abbrev pub invariant-loop-j : goal.invariant-loop-j
invariant-loop-j l =
    string_bytes l.text ≡ string_bytes l.initial.text ++ each_below (pair_words l.tick l.family l.names l.senders l.i) l.j
