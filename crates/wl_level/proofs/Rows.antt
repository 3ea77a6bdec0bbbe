-- Worked rows: places in a short list of levels.
use Rattle.std.proofs.Common.{◌≡◌, List, [], ◌∷◌, Some, None, refl, nat_le}
use Rattle.wl_level.specs.declared.Level.{Level}
use Rattle.wl_level.specs.declared.Level.TheVariants.{Dominant, Recessive}
use Rattle.wl_level.specs.Levels.{is_dominant}
use Rattle.wl_level.specs.Places.{at, before, first_place, count_places, run_before, run_at_end, run_at}

-- dominant, recessive, recessive, dominant, dominant, dominant
abbrev levels : List Level
levels = Dominant ∷ Recessive ∷ Recessive ∷ Dominant ∷ Dominant ∷ Dominant ∷ []

place_three : at levels 3 ≡ Dominant
place_three = refl

behind_the_end : at levels 6 ≡ Recessive
behind_the_end = refl

before_the_first : before levels 0 ≡ Recessive
before_the_first = refl

before_the_second : before levels 1 ≡ Dominant
before_the_second = refl

first_from_two : first_place (λ k. nat_le 2 k) 6 ≡ Some 2
first_from_two = refl

none_below : first_place (λ k. nat_le 6 k) 6 ≡ None
none_below = refl

four_dominant : count_places (λ k. is_dominant (at levels k)) 6 ≡ 4
four_dominant = refl

run_of_three : run_at_end Dominant levels ≡ 3
run_of_three = refl

run_of_none : run_at_end Recessive levels ≡ 0
run_of_none = refl

run_of_two : run_before Recessive levels 3 ≡ 2
run_of_two = refl

two_equal : run_at levels 3 ≡ 2
two_equal = refl

one_equal : run_at levels 4 ≡ 1
one_equal = refl
