-- The most stuff bits after some bits more.
use Rattle.std.proofs.Common.{◌≡◌, ◌∙◌, refl, sym, ap, inl, inr, ℕ, zero, suc, ◌+◌, ◌-◌, ◌/◌, ◌<◌, ◌≤◌, List, [], ◌∷◌, length, arith}
use Rattle.std.proofs.lemmas.Bool.{cases_lt}
use Rattle.std.proofs.Math.Nat.{le-max_left, le-max_right, max-eq_left, max-eq_right}
use Rattle.wl_level.specs.declared.Level.{Level}
use Rattle.wl_level.specs.declared.Level.TheVariants.{Dominant, Recessive}
use Rattle.wl_longest.specs.declared.ending.Ending.{Ending}
use Rattle.wl_longest.specs.Longest.{ending_after, ending_from, most_stuffed}
use Rattle.wl_longest.proofs.Walked.{made}

-- no bits have more
pub most_of_all : (e : Ending) (bits : List Level) → (ending_from e bits).stuffed ≤ most_stuffed e (length bits)
unfolding most_stuffed
most_of_all e [] = omega arith
most_of_all e (Dominant ∷ bits) =
    let later = most_of_all (ending_after e Dominant) bits in
    let less = le-max_left (most_stuffed (ending_after e Dominant) (length bits)) (most_stuffed (ending_after e Recessive) (length bits)) in
    omega (arith, later, less)
most_of_all e (Recessive ∷ bits) =
    let later = most_of_all (ending_after e Recessive) bits in
    let less = le-max_right (most_stuffed (ending_after e Dominant) (length bits)) (most_stuffed (ending_after e Recessive) (length bits)) in
    omega (arith, later, less)

-- and some have as many
pub most_of_some : (e : Ending) (n : ℕ) → (bits : List Level) × (length bits ≡ n) × ((ending_from e bits).stuffed ≡ most_stuffed e n)
unfolding most_stuffed
most_of_some e zero = ([], refl, refl)
most_of_some e (suc n) = elim (cases_lt (most_stuffed (ending_after e Dominant) n) (most_stuffed (ending_after e Recessive) n)) [
  | inl less ↦
      (let (bits, long, many) = most_of_some (ending_after e Recessive) n in
      (Recessive ∷ bits, ap suc long, many ∙ sym (max-eq_right (omega (arith, less)))))
  | inr more ↦
      (let (bits, long, many) = most_of_some (ending_after e Dominant) n in
      (Dominant ∷ bits, ap suc long, many ∙ sym (max-eq_left (omega (arith, more)))))
]

-- After a run of r bits the first stuff bit needs 5 - r bits more, and each later one four.
pub most_is : (last : Level) (run stuffed n : ℕ) → 0 < run → run < 5 → most_stuffed (made last run stuffed) n ≡ stuffed + (n + run - 1) / 4
unfolding most_stuffed
most_is last run stuffed zero h k = omega (arith, h, k)
most_is last zero stuffed (suc n) h k = absurd (omega (arith, h))
most_is Dominant (suc zero) stuffed (suc n) h k =
    let one = most_is Dominant 2 stuffed n (omega arith) (omega arith) in
    let other = most_is Recessive 1 stuffed n (omega arith) (omega arith) in
    max-eq_left (omega (arith, one, other)) ∙ one ∙ omega arith
most_is Dominant (suc (suc zero)) stuffed (suc n) h k =
    let one = most_is Dominant 3 stuffed n (omega arith) (omega arith) in
    let other = most_is Recessive 1 stuffed n (omega arith) (omega arith) in
    max-eq_left (omega (arith, one, other)) ∙ one ∙ omega arith
most_is Dominant (suc (suc (suc zero))) stuffed (suc n) h k =
    let one = most_is Dominant 4 stuffed n (omega arith) (omega arith) in
    let other = most_is Recessive 1 stuffed n (omega arith) (omega arith) in
    max-eq_left (omega (arith, one, other)) ∙ one ∙ omega arith
most_is Dominant (suc (suc (suc (suc zero)))) stuffed (suc n) h k =
    let one = most_is Recessive 1 (stuffed + 1) n (omega arith) (omega arith) in
    let other = most_is Recessive 1 stuffed n (omega arith) (omega arith) in
    max-eq_left (omega (arith, one, other)) ∙ one ∙ omega arith
most_is Recessive (suc zero) stuffed (suc n) h k =
    let one = most_is Recessive 2 stuffed n (omega arith) (omega arith) in
    let other = most_is Dominant 1 stuffed n (omega arith) (omega arith) in
    max-eq_right (omega (arith, one, other)) ∙ one ∙ omega arith
most_is Recessive (suc (suc zero)) stuffed (suc n) h k =
    let one = most_is Recessive 3 stuffed n (omega arith) (omega arith) in
    let other = most_is Dominant 1 stuffed n (omega arith) (omega arith) in
    max-eq_right (omega (arith, one, other)) ∙ one ∙ omega arith
most_is Recessive (suc (suc (suc zero))) stuffed (suc n) h k =
    let one = most_is Recessive 4 stuffed n (omega arith) (omega arith) in
    let other = most_is Dominant 1 stuffed n (omega arith) (omega arith) in
    max-eq_right (omega (arith, one, other)) ∙ one ∙ omega arith
most_is Recessive (suc (suc (suc (suc zero)))) stuffed (suc n) h k =
    let one = most_is Dominant 1 (stuffed + 1) n (omega arith) (omega arith) in
    let other = most_is Dominant 1 stuffed n (omega arith) (omega arith) in
    max-eq_right (omega (arith, one, other)) ∙ one ∙ omega arith
most_is last (suc (suc (suc (suc (suc run))))) stuffed (suc n) h k = absurd (omega (arith, k))
