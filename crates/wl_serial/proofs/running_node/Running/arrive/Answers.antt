-- A node runs few quanta.
use Rattle.std.proofs.Common.{arith}
use Rattle.wl_plan.specs.Limits.{most_quanta-is}
use Rattle.wl_serial.proofs.running_node.Running.arrive.Goals as goal

pub at-self-requires : goal.at-self-requires
at-self-requires c = omega (arith, c.requires.few, c.quanta.ensures.value, most_quanta-is)
