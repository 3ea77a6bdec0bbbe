-- Worked values of the definitions, by the rules of Bosch CAN 2.0 part B, section 6.
use Rattle.std.specs.Prelude.{◌≡◌, false, [], ◌∷◌}
use Rattle.std.proofs.Common.{refl}
use Rattle.wl_level.specs.declared.Level.TheVariants.{Dominant, Recessive}
use Rattle.wl_frame.specs.Header.{number_bits}
use Rattle.wl_longest.specs.Longest.{ending_from, head_ending, most_stuffed, no_ending}

-- five equal bits have a stuff bit after them, which begins the next run: four more like it are enough for another
five_bits : ending_from no_ending (Dominant ∷ Dominant ∷ Dominant ∷ Dominant ∷ Dominant ∷ []) ≡ record { last = Recessive; run = 1; stuffed = 1 }
five_bits = refl

nine_bits : ending_from no_ending (Dominant ∷ Dominant ∷ Dominant ∷ Dominant ∷ Dominant ∷ Recessive ∷ Recessive ∷ Recessive ∷ Recessive ∷ []) ≡ record { last = Dominant; run = 1; stuffed = 2 }
nine_bits = refl

-- a base data frame of identifier 0 without bytes: its header is 19 dominant bits
zeros : head_ending false 0 false 0 ≡ record { last = Dominant; run = 4; stuffed = 3 }
unfolding head_ending number_bits
zeros = refl

-- with the identifier 0x100 fifteen dominant bits follow one recessive bit, so that the header ends in a stuff bit
one_bit_set : head_ending false 256 false 0 ≡ record { last = Recessive; run = 1; stuffed = 3 }
unfolding head_ending number_bits
one_bit_set = refl

-- with run 4 one bit is enough for a stuff bit, and four more are for the next
four_then_one : most_stuffed (record { last = Recessive; run = 4; stuffed = 0 }) 1 ≡ 1
unfolding most_stuffed
four_then_one = refl

four_then_four : most_stuffed (record { last = Recessive; run = 4; stuffed = 0 }) 4 ≡ 1
unfolding most_stuffed
four_then_four = refl

four_then_five : most_stuffed (record { last = Recessive; run = 4; stuffed = 0 }) 5 ≡ 2
unfolding most_stuffed
four_then_five = refl
