use Rattle.std.proofs.Common.{◌∙◌, ◌++◌, ◌∷◌, [], ◌/◌, ◌%◌, ap, sym}
use Rattle.wl_level.specs.declared.Level.TheVariants.{Recessive}
use Rattle.wl_frame.specs.Crc.{level_of_bit}
use Rattle.wl_frame.specs.Grammar.{Content, number_bits}
use Rattle.wl_frame.proofs.Reading.{base_arbitration, extended_arbitration}
use Rattle.wl_frame.proofs.frame.Frame.push_arbitration.Goals as goal
use Rattle.wl_frame.proofs.frame.Frame.push_arbitration.Goals.{then-self, else-self}

pub returns-clause-bits : goal.returns-clause-bits
returns-clause-bits c = elim c.if-self.branch [
  | then-self w ↦
      rw (c.push-2.ensures.items, c.level_of.ensures, w.bits-is, w.push_number-then-self.ensures.bits, w.push-then-self.ensures.items, w.push.ensures.items, w.push_number.ensures.bits)
      (ap (λ (d : Content). ((((c.args.bits.now.items ++ number_bits 11 (d.id / 262144)) ++ Recessive ∷ []) ++ Recessive ∷ []) ++ number_bits 18 (d.id % 262144)) ++ level_of_bit d.remote ∷ []) c.self.view_is
      ∙ extended_arbitration c.args.bits.now.items c.args.self.now (sym (ap (λ (d : Content). d.extended) c.self.view_is) ∙ w.if-self.true))
  | else-self w ↦
      rw (c.push-2.ensures.items, c.level_of.ensures, w.bits-is, w.push_number-else-self.ensures.bits)
      (ap (λ (d : Content). (c.args.bits.now.items ++ number_bits 11 d.id) ++ level_of_bit d.remote ∷ []) c.self.view_is
      ∙ base_arbitration c.args.bits.now.items c.args.self.now (sym (ap (λ (d : Content). d.extended) c.self.view_is) ∙ w.if-self.false))
]
