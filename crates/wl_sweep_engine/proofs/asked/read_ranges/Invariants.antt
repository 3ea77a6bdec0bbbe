use Rattle.std.proofs.Common.{◌≡◌, drop, map, string_bytes}
use Rattle.wl_sweep_engine.proofs.Ranging.{left_of}
use Rattle.wl_sweep_engine.specs.Asked.{ranges_of}
use Rattle.wl_sweep_engine.proofs.asked.read_ranges.Given as goal

abbrev pub invariant-loop-i : goal.invariant-loop-i
invariant-loop-i l = left_of l.text l.i l.ranges (drop l.i (map string_bytes l.words)) ≡ ranges_of l.text 0 (map string_bytes l.words)
