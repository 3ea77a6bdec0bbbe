use Rattle.std.proofs.Common.{◌≡◌, ◌-◌, ◌+◌, ◌*◌, ◌∙◌, ap, arith, set, take, drop, map}
use Rattle.wl_frame.specs.Crc.{bit_of_level, number_of}
use Rattle.wl_frame.specs.Grammar.{number_from}
use Rattle.wl_frame.proofs.Reading.{padded_more}
use Rattle.wl_frame.proofs.frame.bytes_at.Goals as goal

pub loop-k-preserved : goal.loop-k-preserved
loop-k-preserved c =
    let eight : c.args.from + 8 * c.loop-k.k + 8 - (c.args.from + 8 * c.loop-k.k) ≡ 8 = omega arith in
    let byte : c.number.result ≡ number_from c.args.bits.now (c.args.from + 8 * c.loop-k.k) 8 =
    c.number.ensures ∙ ap (λ k. number_of (map bit_of_level (take k (drop (c.args.from + 8 * c.loop-k.k) c.args.bits.now)))) eight
    in
    ap (set c.loop-k.held c.loop-k.k) byte
    ∙ ap (λ held. set held c.loop-k.k (number_from c.args.bits.now (c.args.from + 8 * c.loop-k.k) 8)) c.loop-k.invariant
    ∙ padded_more c.args.bits.now c.args.from c.loop-k.k (omega (arith, c.loop-k-test.true, c.requires.few))
