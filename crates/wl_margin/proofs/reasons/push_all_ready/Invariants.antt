use Rattle.std.proofs.Common.{◌≡◌, ◌++◌, string_bytes}
use Rattle.wl_topology.specs.Driven.{any_below}
use Rattle.wl_bound.specs.Covered.{finds_one_busy}
use Rattle.wl_margin.specs.Pieces.{each_below}
use Rattle.wl_margin.specs.Reasons.{ready_words}
use Rattle.wl_margin.proofs.reasons.push_all_ready.Given as goal

-- the words so far come after the text
abbrev pub invariant-loop-i : goal.invariant-loop-i
invariant-loop-i l =
    (string_bytes l.text ≡ string_bytes l.initial.text ++ each_below (ready_words l.plan l.names) l.i) × (l.later ≡ any_below l.i (finds_one_busy l.plan))
