use Rattle.std.proofs.Common.{◌≡◌, ◌-◌, ◌∙◌, ap, arith, length, take, drop, map}
use Rattle.std.specs.Prelude.{nat_eq}
use Rattle.wl_frame.specs.Grammar.{covered_length, number_from}
use Rattle.wl_frame.specs.Crc.{bit_of_level, crc_of, number_of}
use Rattle.wl_frame.proofs.Reading.{whole_length}
use Rattle.wl_frame.proofs.places.is_crc_right.Goals as goal

pub returns : goal.returns
returns c =
    let covered : c.places_covered-covered.result ≡ covered_length c.args.bits.now = c.places_covered-covered.ensures.value in
    let rest : length c.args.bits.now - c.places_covered-covered.result ≡ 15 = omega (arith, whole_length c.args.bits.now c.requires, covered) in
    let computed : c.from.result ≡ crc_of (take (covered_length c.args.bits.now) c.args.bits.now) =
    c.from.ensures ∙ c.crc15.ensures.value ∙ ap (λ n. crc_of (take n c.args.bits.now)) covered
    in
    let read : c.number.result ≡ number_from c.args.bits.now (covered_length c.args.bits.now) 15 =
    c.number.ensures
    ∙ ap (λ k. number_of (map bit_of_level (take k (drop c.places_covered-covered.result c.args.bits.now)))) rest
    ∙ ap (λ n. number_from c.args.bits.now n 15) covered
    in
    ap (λ n. nat_eq n c.number.result) computed ∙ ap (nat_eq (crc_of (take (covered_length c.args.bits.now) c.args.bits.now))) read
