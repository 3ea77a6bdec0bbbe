-- A node runs few quanta, and a frame has few bits.
use Rattle.std.proofs.Common.{◌*◌, ◌≤◌, arith}
use Rattle.std.proofs.Math.Nat.{mul-le-mul_left}
use Rattle.wl_plan.specs.Limits.{most_quanta-is}
use Rattle.wl_serial.proofs.Steps.{quanta_below}
use Rattle.wl_serial.proofs.running_node.Running.sends_until.Goals as goal

pub overflow_add-last : goal.overflow_add-last
overflow_add-last c =
    let few = quanta_below c.args.plan.now c.args.i c.quanta.result c.args.self.now c.laws.ensures.sound c.requires.node c.requires.somewhere c.quanta.ensures.value
    (omega (arith, c.if-end-self.false, c.end.ensures)) in
    let long = c.bit_quanta.ensures.lengths.high in
    let short : c.bit_quanta.result ≤ 385 = omega (arith, long, c.bit_quanta.ensures.quanta) in
    let most : c.min-bits.result * c.bit_quanta.result ≤ c.min-bits.result * 385 = mul-le-mul_left c.min-bits.result short in
    omega (arith, few, most, c.min-bits.ensures, most_quanta-is)

pub at-requires : goal.at-requires
at-requires c =
    let few = quanta_below c.args.plan.now c.args.i c.quanta.result c.args.self.now c.laws.ensures.sound c.requires.node c.requires.somewhere c.quanta.ensures.value
    (omega (arith, c.if-end-self.false, c.end.ensures)) in
    let long = c.bit_quanta.ensures.lengths.high in
    let short : c.bit_quanta.result ≤ 385 = omega (arith, long, c.bit_quanta.ensures.quanta) in
    let most : c.min-bits.result * c.bit_quanta.result ≤ c.min-bits.result * 385 = mul-le-mul_left c.min-bits.result short in
    omega (arith, few, most, c.min-bits.ensures, most_quanta-is)
