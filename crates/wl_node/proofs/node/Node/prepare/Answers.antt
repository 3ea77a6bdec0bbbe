use Rattle.std.proofs.Common.{arith}
use Rattle.wl_node.proofs.NodeGone.{at_same, reachable}
use Rattle.wl_node.proofs.node.Node.prepare.Goals as goal

pub invariant_of-self : goal.invariant_of-self
invariant_of-self c = record {
  few = omega (arith, c.prepare.ensures.quanta, c.args.self.now.few);
  reached = reachable c.args.self.now c.prepare.new.self c.args.self.now.away (λ levels. levels) (at_same c.args.self.now c.prepare.new.self c.prepare.ensures.node c.prepare.ensures.setup);
}
