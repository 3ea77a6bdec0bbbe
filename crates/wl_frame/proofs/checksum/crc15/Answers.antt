use Rattle.std.proofs.Common.{◌∙◌, ap, sym, drop, ◌+◌, lit<}
use Rattle.std.proofs.lemmas.List.{drop_all}
use Rattle.wl_frame.specs.Crc.{number_of}
use Rattle.wl_frame.proofs.Division.{left, left_none, left_more, left_number}
use Rattle.wl_frame.proofs.checksum.crc15.Goals as goal

pub loop-bit-init : goal.loop-bit-init
loop-bit-init c = record { below = lit< tt; rest = left_none c.args.bits.now }

pub loop-bit-preserved : goal.loop-bit-preserved
loop-bit-preserved c = record {
  below = c.shifted_in-register.ensures.below;
  rest =
      ap (left (drop (c.loop-bit.bit-index + 1) c.args.bits.now)) c.shifted_in-register.ensures.value
      ∙ sym (left_more c.args.bits.now c.loop-bit.bit-index c.loop-bit.register _ c.loop-bit-test.true)
      ∙ c.loop-bit.invariant.rest;
}

pub returns-clause-value : goal.returns-clause-value
returns-clause-value c =
    left_number c.loop-bit.register c.loop-bit.invariant.below
    ∙ ap (λ rest. number_of (left rest c.loop-bit.register)) (sym (drop_all c.loop-bit.bit-index c.args.bits.now c.loop-bit-test.false))
    ∙ ap number_of c.loop-bit.invariant.rest
