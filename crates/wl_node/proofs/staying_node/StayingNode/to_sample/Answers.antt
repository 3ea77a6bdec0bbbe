use Rattle.std.proofs.Common.{◌++◌, replicate, refl, arith}
use Rattle.std.proofs.Math.Logic.{∥∥₁_map}
use Rattle.wl_node.proofs.staying_node.StayingNode.to_sample.Goals as goal

pub invariant_of-self : goal.invariant_of-self
invariant_of-self c = record {
  fits = c.to_sample.ensures.keeps.fits;
  reached = ∥∥₁_map c.args.self.now.reached (λ (levels, h). (levels ++ replicate c.to_sample.result c.args.level, c.to_sample.ensures.place levels h));
}

pub returns-clause-gone : goal.returns-clause-gone
returns-clause-gone c = record {
  node = c.to_sample.ensures.place;
  setup = refl;
  quanta = c.to_sample.ensures.keeps.quanta;
  keeps = c.to_sample.ensures.keeps.lists;
  stood = λ m h. c.to_sample.ensures.drive m (omega arith);
}

pub returns-clause-stands : goal.returns-clause-stands
returns-clause-stands c = c.to_sample.ensures.drive c.to_sample.result (omega arith)
