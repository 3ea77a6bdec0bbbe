use Rattle.std.proofs.Common.{◌∙◌, ◌++◌, ap, sym, subst}
use Rattle.wl_frame.specs.Crc.{crc_of}
use Rattle.wl_frame.specs.Grammar.{bits_of, number_bits, with_crc, is_whole, IsFrame}
use Rattle.wl_frame.proofs.Spelled.{crc_spelled}
use Rattle.wl_frame.proofs.Reading.{sent_frame, sent_whole}
use Rattle.wl_frame.proofs.frame.Frame.bits.Goals as goal

pub returns-clause-bits : goal.returns-clause-bits
unfolding bits_of
returns-clause-bits c =
    c.push_number.ensures.bits
    ∙ ap (λ n. c.covered-bits.result.items ++ number_bits 15 n) (c.from.ensures ∙ c.crc15-crc.ensures.value ∙ ap crc_of c.as_slice.ensures.value)
    ∙ ap (λ bs. c.covered-bits.result.items ++ bs) (crc_spelled c.covered-bits.result.items)
    ∙ ap with_crc c.covered-bits.ensures.bits

pub returns-clause-frame : goal.returns-clause-frame
returns-clause-frame c =
    subst (λ ls. IsFrame ls c.args.self.now) (sym (returns-clause-bits c)) (sent_frame c.args.self.now c.covered-bits.ensures.content)

pub returns-clause-whole : goal.returns-clause-whole
returns-clause-whole c = ap is_whole (returns-clause-bits c) ∙ sent_whole c.args.self.now c.covered-bits.ensures.content
