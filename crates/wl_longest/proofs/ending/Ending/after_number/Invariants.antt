use Rattle.std.proofs.Common.{◌≡◌, ◌+◌, ◌<◌, ◌≤◌, ◌-◌}
use Rattle.wl_frame.specs.Grammar.{number_bits}
use Rattle.wl_longest.specs.Longest.{ending_from}
use Rattle.wl_longest.proofs.ending.Ending.after_number.Given as goal

abbrev pub invariant-loop-k : goal.invariant-loop-k
invariant-loop-k l = record {
  bits : ending_from l.ending (number_bits (l.count - l.k) l.number) ≡ ending_from l.initial.ending (number_bits l.count l.number);
  room : l.ending.stuffed ≤ l.initial.ending.stuffed + l.k;
  some : 0 < l.initial.ending.run → 0 < l.ending.run;
  few : l.ending.run < 5;
}
