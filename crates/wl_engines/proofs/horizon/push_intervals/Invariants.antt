use Rattle.std.proofs.Common.{◌≡◌, ◌++◌, string_bytes, take}
use Rattle.std.specs.List.{flat_map}
use Rattle.wl_engines.specs.Horizon.{interval_line}
use Rattle.wl_engines.proofs.horizon.push_intervals.Given as goal

-- the lines of the intervals so far come after the text
abbrev pub invariant-loop-interval : goal.invariant-loop-interval
invariant-loop-interval l =
    string_bytes l.text ≡ string_bytes l.initial.text ++ flat_map (interval_line l.node) (take l.interval-index l.intervals)
