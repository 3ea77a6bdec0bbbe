use Rattle.std.proofs.Common.{◌≡◌, ◌<◌, ◌^◌, ◌++◌, length, drop, map, replicate, false}
use Rattle.wl_frame.specs.Crc.{remainder, subtracted, bit_of_level, crc_bits}
use Rattle.wl_frame.proofs.Registers.{register_bits}
use Rattle.wl_frame.proofs.checksum.crc15.Given as goal

-- dividing what is left, with the register taken from its front, gives the remainder of all
abbrev pub invariant-loop-bit : goal.invariant-loop-bit
invariant-loop-bit l = record {
  below : l.register < 2 ^ 15;
  rest : remainder (length (drop l.bit-index l.bits)) (subtracted (register_bits 15 l.register) (map bit_of_level (drop l.bit-index l.bits) ++ replicate 15 false)) ≡ crc_bits l.bits;
}
