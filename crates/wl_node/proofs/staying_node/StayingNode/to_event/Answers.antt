use Rattle.std.proofs.Common.{◌++◌, replicate, refl, arith}
use Rattle.std.proofs.Math.Logic.{∥∥₁_map}
use Rattle.wl_node.proofs.staying_node.StayingNode.to_event.Goals as goal

pub invariant_of-self : goal.invariant_of-self
invariant_of-self c = record {
  fits = c.to_event.ensures.keeps.fits;
  reached = ∥∥₁_map c.args.self.now.reached (λ (levels, h). (levels ++ replicate c.to_event.result c.args.level, c.to_event.ensures.place c.args.self.now.setup levels h));
}

pub returns-clause-gone : goal.returns-clause-gone
returns-clause-gone c = record {
  node = c.to_event.ensures.place c.args.self.now.setup;
  setup = refl;
  quanta = c.to_event.ensures.keeps.quanta;
  keeps = c.to_event.ensures.keeps.lists;
  stood = λ m h. c.to_event.ensures.drive c.args.self.now.setup m (omega arith);
}

pub returns-clause-stands : goal.returns-clause-stands
returns-clause-stands c = c.to_event.ensures.drive c.args.self.now.setup c.to_event.result (omega arith)
