use Rattle.std.proofs.Common.{arith}
use Rattle.wl_frame.proofs.Fields.{number_small}
use Rattle.wl_frame.proofs.places.identifier.Goals as goal

pub overflow_mul-result : goal.overflow_mul-result
overflow_mul-result c = omega (arith, c.number-front.ensures, number_small c.args.bits.now 1 11)

pub overflow_add-result : goal.overflow_add-result
overflow_add-result c =
    omega (arith, c.number-front.ensures, number_small c.args.bits.now 1 11, c.number.ensures, number_small c.args.bits.now 14 18)
