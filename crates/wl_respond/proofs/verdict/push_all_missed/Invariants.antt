use Rattle.std.proofs.Common.{◌≡◌, ◌++◌, string_bytes}
use Rattle.wl_topology.specs.Driven.{any_below}
use Rattle.wl_margin.specs.Pieces.{each_below}
use Rattle.wl_respond.specs.Texts.{missed_words, misses}
use Rattle.wl_respond.proofs.verdict.push_all_missed.Given as goal

-- those so far come after the text
abbrev pub invariant-loop-e : goal.invariant-loop-e
invariant-loop-e l =
    (string_bytes l.text ≡ string_bytes l.initial.text ++ each_below (missed_words l.names l.asked l.lines) l.e) × (l.later ≡ any_below l.e (misses l.lines))
