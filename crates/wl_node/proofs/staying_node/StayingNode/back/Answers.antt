-- The node is where some levels put it, those at the mark.
use Rattle.std.proofs.Math.Logic.{∥∥₁_map}
use Rattle.wl_node.proofs.staying_node.StayingNode.back.Goals as goal

pub invariant_of-self : goal.invariant_of-self
invariant_of-self c = record {
  fits = c.back.ensures.fits;
  reached = ∥∥₁_map c.requires (λ (levels, more, marked, stands). (levels, c.back.ensures.place levels more marked stands));
}
