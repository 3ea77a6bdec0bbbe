-- Worked values: lengths, bit rates, and the longest cable of a bit of 8 quanta of 125 ns, sampled after 6.
use Rattle.std.specs.Prelude.{◌≡◌, codes, refl}
use Rattle.std.specs.Fmt.{digits}
use Rattle.wl_init.specs.Bits.{longest_for}
use Rattle.wl_init.specs.Texts.{length_words, rate_words}

-- 750 ns, less 20 and 3, have room for twice 150 ns and 213 ns
eight_quanta : longest_for 1000000 (record { tseg1 = 5; tseg2 = 2 }) ≡ 213
eight_quanta = refl

-- 12.4 m and 60 m in units of 20 cm
parts : length_words 62 ≡ codes "12.4m"
unfolding length_words digits
parts = refl

whole : length_words 300 ≡ codes "60m"
unfolding length_words digits
whole = refl

thousands : rate_words 250000 ≡ codes "250kbit/s"
unfolding rate_words digits
thousands = refl

others : rate_words 62500 ≡ codes "62500bit/s"
unfolding rate_words digits
others = refl
