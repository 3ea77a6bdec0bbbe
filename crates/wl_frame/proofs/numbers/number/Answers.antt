use Rattle.std.proofs.Common.{arith}
use Rattle.wl_frame.proofs.Spelled.{taken_lt}
use Rattle.wl_frame.proofs.numbers.number.Goals as goal

pub overflow_mul-number : goal.overflow_mul-number
overflow_mul-number c = omega (arith, c.loop-bit.invariant, taken_lt c.args.bits.now c.loop-bit.bit-index (omega arith))

pub overflow_add-number : goal.overflow_add-number
overflow_add-number c = grind (arith, c.loop-bit.invariant, taken_lt c.args.bits.now c.loop-bit.bit-index (omega arith))
