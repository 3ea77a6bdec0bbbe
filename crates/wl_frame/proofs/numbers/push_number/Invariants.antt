use Rattle.std.proofs.Common.{◌≡◌, ◌-◌, ◌+◌, length, ◌++◌}
use Rattle.wl_frame.specs.Grammar.{number_bits}
use Rattle.wl_frame.proofs.numbers.push_number.Given as goal

abbrev pub invariant-loop-k : goal.invariant-loop-k
invariant-loop-k l = record {
  bits : l.bits.items ++ number_bits (l.count - l.k) l.number ≡ l.initial.bits.items ++ number_bits l.count l.number;
  length : length l.bits.items ≡ length l.initial.bits.items + l.k;
}
