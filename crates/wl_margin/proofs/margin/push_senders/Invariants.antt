use Rattle.std.proofs.Common.{◌≡◌, ◌++◌, string_bytes}
use Rattle.wl_topology.specs.Driven.{any_below}
use Rattle.wl_margin.specs.Pieces.{each_below}
use Rattle.wl_margin.specs.Margins.{sender_words, sends_at}
use Rattle.wl_margin.proofs.margin.push_senders.Given as goal

-- the names so far come after the text
abbrev pub invariant-loop-i : goal.invariant-loop-i
invariant-loop-i l =
    (string_bytes l.text ≡ string_bytes l.initial.text ++ each_below (sender_words l.family l.names) l.i) × (l.later ≡ any_below l.i (sends_at l.family))
