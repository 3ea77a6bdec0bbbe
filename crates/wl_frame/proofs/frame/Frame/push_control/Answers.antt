use Rattle.std.proofs.Common.{◌∙◌, ◌++◌, ◌∷◌, [], ap}
use Rattle.wl_level.specs.declared.Level.TheVariants.{Dominant}
use Rattle.wl_frame.specs.Grammar.{Content, number_bits}
use Rattle.wl_frame.proofs.Reading.{control_spelled}
use Rattle.wl_frame.proofs.frame.Frame.push_control.Goals as goal

pub returns-clause-bits : goal.returns-clause-bits
returns-clause-bits c =
    rw (c.push_number.ensures.bits, c.push-2.ensures.items, c.push.ensures.items)
    (ap (λ (d : Content). ((c.args.bits.now.items ++ Dominant ∷ []) ++ Dominant ∷ []) ++ number_bits 4 d.dlc) c.self.view_is
    ∙ control_spelled c.args.bits.now.items c.args.self.now)
