use Rattle.std.proofs.Common.{[]}
use Rattle.wl_node.proofs.staying_node.StayingNode.begin.Goals as goal

pub invariant_of-result : goal.invariant_of-result
invariant_of-result c = record {
  fits = c.in_ok-progress.ensures.fits;
  reached = ∣ ([], c.in_ok-progress.ensures.place) ∣₁;
}
