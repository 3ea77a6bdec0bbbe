use Rattle.std.proofs.Math.Logic.{∥∥₁_map}
use Rattle.wl_node.proofs.staying_node.StayingNode.reserve.Goals as goal

pub invariant_of-self : goal.invariant_of-self
invariant_of-self c = record {
  fits = c.reserve.ensures.keeps.fits;
  reached = ∥∥₁_map c.args.self.now.reached (λ (levels, h). (levels, c.reserve.ensures.same c.args.self.now.setup levels h));
}
