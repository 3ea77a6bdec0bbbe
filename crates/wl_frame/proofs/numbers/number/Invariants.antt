use Rattle.std.proofs.Common.{◌≡◌, take, map}
use Rattle.wl_frame.specs.Crc.{bit_of_level, number_of}
use Rattle.wl_frame.proofs.numbers.number.Given as goal

abbrev pub invariant-loop-bit : goal.invariant-loop-bit
invariant-loop-bit l = l.number ≡ number_of (map bit_of_level (take l.bit-index l.bits))
