use Rattle.std.proofs.Common.{◌≡◌, ◌+◌, ◌*◌, ◌++◌, take, length}
use Rattle.std.specs.List.{flat_map}
use Rattle.wl_frame.specs.Grammar.{number_bits}
use Rattle.wl_frame.proofs.frame.push_bytes.Given as goal

abbrev pub invariant-loop-byte : goal.invariant-loop-byte
invariant-loop-byte l = record {
  bits : l.bits.items ≡ l.initial.bits.items ++ flat_map (number_bits 8) (take l.byte-index l.bytes);
  length : length l.bits.items ≡ length l.initial.bits.items + 8 * l.byte-index;
}
