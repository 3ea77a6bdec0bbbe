use Rattle.std.proofs.Common.{◌++◌, ◌*◌, replicate, refl, arith}
use Rattle.std.proofs.Math.Logic.{∥∥₁_map}
use Rattle.wl_level.specs.declared.Level.TheVariants.{Recessive}
use Rattle.wl_node.proofs.staying_node.StayingNode.idle_bits.Goals as goal

pub invariant_of-self : goal.invariant_of-self
invariant_of-self c = record {
  fits = c.idle_bits.ensures.keeps.fits;
  reached = ∥∥₁_map c.args.self.now.reached (λ (levels, h). (levels ++ replicate (c.args.bits * c.args.quanta) Recessive, c.idle_bits.ensures.place levels h));
}

pub returns-clause-gone : goal.returns-clause-gone
returns-clause-gone c = record {
  node = c.idle_bits.ensures.place;
  setup = refl;
  quanta = c.idle_bits.ensures.keeps.quanta;
  keeps = c.idle_bits.ensures.keeps.lists;
  stood = λ m h. c.idle_bits.ensures.drive m (omega arith);
}

pub returns-clause-stands : goal.returns-clause-stands
returns-clause-stands c = c.idle_bits.ensures.drive (c.args.bits * c.args.quanta) (omega arith)
