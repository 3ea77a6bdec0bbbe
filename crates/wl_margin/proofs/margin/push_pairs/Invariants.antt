use Rattle.std.proofs.Common.{◌≡◌, ◌++◌, string_bytes}
use Rattle.wl_margin.specs.Pieces.{each_below}
use Rattle.wl_margin.specs.Margins.{pairs_of}
use Rattle.wl_margin.proofs.margin.push_pairs.Given as goal

-- the lines so far come after the text
abbrev pub invariant-loop-i : goal.invariant-loop-i
invariant-loop-i l =
    string_bytes l.text ≡ string_bytes l.initial.text ++ each_below (pairs_of l.tick l.family l.names l.senders) l.i
