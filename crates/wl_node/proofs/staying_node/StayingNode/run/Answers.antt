use Rattle.std.proofs.Common.{[], ◌∷◌, ◌++◌}
use Rattle.std.proofs.Math.Logic.{∥∥₁_map}
use Rattle.wl_node.proofs.staying_node.StayingNode.run.Goals as goal

pub invariant_of-self : goal.invariant_of-self
invariant_of-self c = record {
  fits = c.run.ensures.keeps.fits;
  reached = ∥∥₁_map c.args.self.now.reached (λ (levels, h). (levels ++ c.args.level ∷ [], c.run.ensures.place levels h));
}
