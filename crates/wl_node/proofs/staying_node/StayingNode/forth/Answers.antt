-- The node is where some levels put it, those at the mark.
use Rattle.std.proofs.Common.{◌++◌}
use Rattle.std.proofs.Math.Logic.{∥∥₁_map}
use Rattle.wl_node.proofs.staying_node.StayingNode.forth.Goals as goal

pub invariant_of-self : goal.invariant_of-self
invariant_of-self c = record {
  fits = c.forth.ensures.fits;
  reached = ∥∥₁_map c.requires (λ (levels, more, stands, marked). (levels ++ more, c.forth.ensures.place c.args.self.now.setup levels more marked stands));
}
