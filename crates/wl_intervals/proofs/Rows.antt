-- Worked rows: the ticks 10 to 19 and 30 to 39.
use Rattle.std.proofs.Common.{◌≡◌, ℕ, true, false, List, [], ◌∷◌, Some, refl}
use Rattle.wl_intervals.specs.Pairs.{covers, last_end, later_by}

abbrev two : List (ℕ × ℕ)
two = (10, 20) ∷ (30, 40) ∷ []

first_tick : covers two 10 ≡ true
first_tick = refl

before_it : covers two 9 ≡ false
before_it = refl

last_tick : covers two 19 ≡ true
last_tick = refl

at_the_end : covers two 20 ≡ false
at_the_end = refl

second : covers two 39 ≡ true
second = refl

behind : covers two 40 ≡ false
behind = refl

end : last_end two ≡ Some 40
end = refl

five_later : later_by 5 two ≡ (15, 25) ∷ (35, 45) ∷ []
five_later = refl
