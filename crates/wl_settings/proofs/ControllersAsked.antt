-- The controllers that words ask for, by one less.
use Rattle.std.proofs.Common.{◌≡◌, refl, ap, ℕ, zero, suc, ◌-◌, List, [], Ok, arith}
use Rattle.wl_settings.specs.declared.topics.AskedWord.{AskedWord}
use Rattle.wl_settings.specs.Questions.{and_controller, controllers_below, if_read, nth_controller}

pub none_below : (tick : ℕ) (words : List AskedWord) (count : ℕ) → count ≡ 0 → controllers_below tick words count ≡ Ok []
unfolding controllers_below
none_below tick words zero is = refl
none_below tick words (suc n) is = absurd (omega arith)

pub one_more_below : (tick : ℕ) (words : List AskedWord) (count : ℕ) → (count ≡ 0 → ⊥)
    → controllers_below tick words count
    ≡ if_read (controllers_below tick words (count - 1)) (λ cs. if_read (nth_controller tick words (count - 1)) (and_controller cs))
unfolding controllers_below
one_more_below tick words zero is = absurd (is refl)
one_more_below tick words (suc n) is =
    let e : n ≡ suc n - 1 = omega arith in
    ap (λ m. if_read (controllers_below tick words m) (λ cs. if_read (nth_controller tick words m) (and_controller cs))) e
