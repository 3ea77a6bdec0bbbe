-- Ten bits in a row of a stuffed list have an edge from recessive to dominant.
use Rattle.std.proofs.Common.{◌≡◌, ℕ, zero, suc, ◌+◌, ◌<◌, ◌≤◌, ◌∙◌, List, [], ◌∷◌, ◌++◌, length, Bool, true, false, not, ◌&&◌, Option, Some, None, refl, sym, ap, arith, ◌-◌, replicate, inl, inr, ◌⊎◌}
use Rattle.std.proofs.lemmas.Bool.{and_parts, and_right, both_ways, cases_lt, cases_Bool, not-true}
use Rattle.wl_level.specs.declared.Level.{Level}
use Rattle.wl_level.specs.declared.Level.TheVariants.{Dominant, Recessive}
use Rattle.wl_level.specs.Levels.{is_dominant, same}
use Rattle.wl_level.specs.Places.{at, before, first_place, IsFirstPlace}
use Rattle.wl_level.proofs.Callers.{at_new, at_old, before_old, first_is, first_none, recessive_from, dominant_from, other_level}
use Rattle.wl_frame.specs.Stuffing.{is_stuff, Stuffs, ends_six, first_six, NoSixBefore}
use Rattle.wl_frame.specs.Laws.{IsEdge, up_to_ack}
use Rattle.wl_frame.proofs.OneStuffing.{same_back}
use Rattle.wl_frame.proofs.Stuffed.{stuff_old, length_more, before_more}

-- no six equal bits end anywhere in a list
abbrev HasNoSix : List Level → Type 0
HasNoSix y = NoSixBefore y (length y)

stuffed_no_six : (x y : List Level) → Stuffs y x → HasNoSix y
stuffed_no_six x y s k below = elim (cases_Bool (is_stuff y k)) [
  | inl due ↦ and_right (is_stuff y k) (same (at y k) (before y k)) (ap (λ l. same l (before y k)) (s.opposite k below due) ∙ same_back (before y k))
  | inr free ↦ ap (λ b. b && same (at y k) (before y k)) free
]

-- nor with a bit more that is no sixth one
no_six_more : (y : List Level) (b : Level) → HasNoSix y → (is_stuff y (length y) && same b (before y (length y))) ≡ false → HasNoSix (y ++ b ∷ [])
no_six_more y b none last k below = elim (cases_lt k (length y)) [
  | inl early ↦
      ap (λ s. s && same (at (y ++ b ∷ []) k) (before (y ++ b ∷ []) k)) (stuff_old y b k (omega arith))
      ∙ ap (λ l. is_stuff y k && same l (before (y ++ b ∷ []) k)) (at_old y b k early)
      ∙ ap (λ l. is_stuff y k && same (at y k) l) (before_old y b k (omega arith)) ∙ none k early
  | inr late ↦
      (let here : k ≡ length y = omega (arith, length_more y b) in
      ap (ends_six (y ++ b ∷ [])) here
      ∙ ap (λ s. s && same (at (y ++ b ∷ []) (length y)) (before (y ++ b ∷ []) (length y))) (stuff_old y b (length y) (omega arith))
      ∙ ap (λ l. is_stuff y (length y) && same l (before (y ++ b ∷ []) (length y))) (at_new y b)
      ∙ ap (λ l. is_stuff y (length y) && same b l) (before_old y b (length y) (omega arith)) ∙ last)
]

ack_no_six : (x y : List Level) → Stuffs y x → HasNoSix (up_to_ack y)
ack_no_six x y s =
    no_six_more (y ++ Recessive ∷ []) Dominant
    (no_six_more y Recessive (stuffed_no_six x y s) (ap (λ b. b && same Recessive (before y (length y))) s.closed))
    (and_right (is_stuff (y ++ Recessive ∷ []) (length (y ++ Recessive ∷ []))) (same Dominant (before (y ++ Recessive ∷ []) (length (y ++ Recessive ∷ []))))
    (ap (same Dominant) (before_more y Recessive)))

abbrev is_edge : List Level → ℕ → Bool
is_edge z k = not (is_dominant (before z k)) && is_dominant (at z k)

edge_is : (z : List Level) (k : ℕ) → is_edge z k ≡ true → IsEdge z k
edge_is z k h =
    let parts = and_parts (not (is_dominant (before z k))) (is_dominant (at z k)) h in
    record { was = recessive_from (before z k) (not-true (is_dominant (before z k)) parts.0); is = dominant_from (at z k) parts.1 }

-- without an edge a recessive bit is followed by a recessive one, and before a dominant one is a dominant one
goes_recessive : (a b : Level) → (not (is_dominant a) && is_dominant b) ≡ false → a ≡ Recessive → b ≡ Recessive
goes_recessive Recessive Recessive h e = refl
goes_recessive Recessive Dominant h e = cc
goes_recessive Dominant Recessive h e = refl
goes_recessive Dominant Dominant h e = cc

was_dominant : (a b : Level) → (not (is_dominant a) && is_dominant b) ≡ false → b ≡ Dominant → a ≡ Dominant
was_dominant Dominant b h e = refl
was_dominant Recessive Recessive h e = cc
was_dominant Recessive Dominant h e = cc

-- six equal bits from place m on
six_equal : (z : List Level) (m : ℕ) (l : Level) → same l l ≡ true → at z m ≡ l → at z (suc m) ≡ l → at z (suc (suc m)) ≡ l → at z (suc (suc (suc m))) ≡ l
    → at z (suc (suc (suc (suc m)))) ≡ l → at z (suc (suc (suc (suc (suc m))))) ≡ l → ends_six z (suc (suc (suc (suc (suc m))))) ≡ true
six_equal z m l s a b c d e f =
    (λ i. (same (a i) (b i) && same (b i) (c i) && same (c i) (d i) && same (d i) (e i)) && same (f i) (e i))
    ∙ ap (λ t. (t && t && t && t) && t) s

module _ (z : List Level) (n : ℕ) (none : HasNoSix z) (room : n + 10 ≤ length z) (no_edge : (i : ℕ) → i < 10 → is_edge z (i + n) ≡ false) where
  on : (i k : ℕ) → i < 10 → i + n ≡ k → before z k ≡ Recessive → at z k ≡ Recessive
  on i k h e was = goes_recessive (before z k) (at z k) (ap (is_edge z) (sym e) ∙ no_edge i h) was

  back : (i k : ℕ) → i < 10 → i + n ≡ k → at z k ≡ Dominant → before z k ≡ Dominant
  back i k h e is = was_dominant (before z k) (at z k) (ap (is_edge z) (sym e) ∙ no_edge i h) is

  all_recessive : at z (suc (suc (suc (suc n)))) ≡ Recessive → ends_six z (suc (suc (suc (suc (suc (suc (suc (suc (suc n))))))))) ≡ true
  all_recessive a4 =
      let a5 : at z (suc (suc (suc (suc (suc n))))) ≡ Recessive = on 5 (suc (suc (suc (suc (suc n))))) (omega arith) (omega arith) a4 in
      let a6 : at z (suc (suc (suc (suc (suc (suc n)))))) ≡ Recessive = on 6 (suc (suc (suc (suc (suc (suc n)))))) (omega arith) (omega arith) a5 in
      let a7 : at z (suc (suc (suc (suc (suc (suc (suc n))))))) ≡ Recessive = on 7 (suc (suc (suc (suc (suc (suc (suc n))))))) (omega arith) (omega arith) a6 in
      let a8 : at z (suc (suc (suc (suc (suc (suc (suc (suc n)))))))) ≡ Recessive = on 8 (suc (suc (suc (suc (suc (suc (suc (suc n)))))))) (omega arith) (omega arith) a7 in
      let a9 : at z (suc (suc (suc (suc (suc (suc (suc (suc (suc n))))))))) ≡ Recessive = on 9 (suc (suc (suc (suc (suc (suc (suc (suc (suc n))))))))) (omega arith) (omega arith) a8 in
      six_equal z (suc (suc (suc (suc n)))) Recessive refl a4 a5 a6 a7 a8 a9

  -- the bit before the ten, and the first five of them
  all_dominant : at z (suc (suc (suc (suc n)))) ≡ Dominant → before z n ≡ Dominant
  all_dominant a4 =
      back 0 n (omega arith) (omega arith) (back 1 (suc n) (omega arith) (omega arith) (back 2 (suc (suc n)) (omega arith) (omega arith)
      (back 3 (suc (suc (suc n))) (omega arith) (omega arith) (back 4 (suc (suc (suc (suc n)))) (omega arith) (omega arith) a4))))

dominant_six : (z : List Level) (n : ℕ) → HasNoSix z → n + 10 ≤ length z → ((i : ℕ) → i < 10 → is_edge z (i + n) ≡ false)
    → at z (suc (suc (suc (suc n)))) ≡ Dominant → ⊥
dominant_six z zero none room no_edge a4 =
    let first : Recessive ≡ Dominant = all_dominant z zero none room no_edge a4 in
    cc
dominant_six z (suc m) none room no_edge a4 =
    let a3 : at z (suc (suc (suc (suc m)))) ≡ Dominant = back z (suc m) none room no_edge 4 (suc (suc (suc (suc (suc m))))) (omega arith) (omega arith) a4 in
    let a2 : at z (suc (suc (suc m))) ≡ Dominant = back z (suc m) none room no_edge 3 (suc (suc (suc (suc m)))) (omega arith) (omega arith) a3 in
    let a1 : at z (suc (suc m)) ≡ Dominant = back z (suc m) none room no_edge 2 (suc (suc (suc m))) (omega arith) (omega arith) a2 in
    let a0 : at z (suc m) ≡ Dominant = back z (suc m) none room no_edge 1 (suc (suc m)) (omega arith) (omega arith) a1 in
    let was : at z m ≡ Dominant = back z (suc m) none room no_edge 0 (suc m) (omega arith) (omega arith) a0 in
    both_ways (ends_six z (suc (suc (suc (suc (suc m)))))) (none (suc (suc (suc (suc (suc m))))) (omega arith)) (six_equal z m Dominant refl was a0 a1 a2 a3 a4)

no_ten : (z : List Level) (n : ℕ) → HasNoSix z → n + 10 ≤ length z → ((i : ℕ) → i < 10 → is_edge z (i + n) ≡ false) → ⊥
no_ten z n none room no_edge =
    let last : ℕ = suc (suc (suc (suc (suc (suc (suc (suc (suc n)))))))) in
    elim (cases_Bool (is_dominant (at z (suc (suc (suc (suc n))))))) [
      | inl high ↦ dominant_six z n none room no_edge (dominant_from (at z (suc (suc (suc (suc n))))) high)
      | inr low ↦ both_ways (ends_six z last) (none last (omega arith)) (all_recessive z n none room no_edge (recessive_from (at z (suc (suc (suc (suc n))))) low))
    ]

cases_found : (o : Option ℕ) → ((k : ℕ) × (o ≡ Some k)) ⊎ (o ≡ None)
cases_found (Some k) = inl (k, refl)
cases_found None = inr refl

pub edge_within : (x y : List Level) (n : ℕ) → Stuffs y x → n + 10 ≤ length (up_to_ack y) → (k : ℕ) × (n ≤ k) × (k < n + 10) × IsEdge (up_to_ack y) k
edge_within x y n s room =
    let z : List Level = up_to_ack y in
    let test : ℕ → Bool = λ i. is_edge z (i + n) in
    elim (cases_found (first_place test 10)) [
      | inl found ↦
          (let first : IsFirstPlace test 10 found.0 = first_is test 10 found.0 found.1 in
          (found.0 + n, omega arith, omega (arith, first.inside), edge_is z (found.0 + n) first.passes))
      | inr none ↦ absurd (no_ten z n (ack_no_six x y s) room (first_none test 10 none))
    ]

-- five dominant bits, five recessive ones, of which the first is a stuff bit, and the stuff bit after them
abbrev slow_bits : List Level
slow_bits = replicate 5 Dominant ++ replicate 4 Recessive

abbrev slow_line : List Level
slow_line = replicate 5 Dominant ++ replicate 5 Recessive ++ Dominant ∷ []

slow_no_six : first_six slow_line ≡ None
slow_no_six = refl

slow_stuffs : Stuffs slow_line slow_bits
slow_stuffs = record {
  content = refl;
  opposite = λ k below due.
      other_level (at slow_line k) (before slow_line k)
      (ap (λ b. b && same (at slow_line k) (before slow_line k)) (sym due) ∙ first_none (ends_six slow_line) 11 slow_no_six k below);
  closed = refl;
}

none_of_nine : first_place (λ i. is_edge (up_to_ack slow_line) (i + 1)) 9 ≡ None
none_of_nine = refl

is_edge_at : (z : List Level) (k : ℕ) → IsEdge z k → is_edge z k ≡ true
is_edge_at z k h = ap (λ l. not (is_dominant l) && is_dominant (at z k)) h.was ∙ ap is_dominant h.is

nine_without : (k : ℕ) → 1 ≤ k → k < 1 + 9 → IsEdge (up_to_ack slow_line) k → ⊥
nine_without k low high h =
    let back_one : (k - 1) + 1 ≡ k = omega arith in
    both_ways (is_edge (up_to_ack slow_line) k)
    (ap (is_edge (up_to_ack slow_line)) (sym back_one) ∙ first_none (λ i. is_edge (up_to_ack slow_line) (i + 1)) 9 none_of_nine (k - 1) (omega arith))
    (is_edge_at (up_to_ack slow_line) k h)

pub nine_are_few : (x : List Level) × (y : List Level) × (n : ℕ) × Stuffs y x × (n + 9 ≤ length (up_to_ack y)) × ((k : ℕ) → n ≤ k → k < n + 9 → IsEdge (up_to_ack y) k → ⊥)
nine_are_few = (slow_bits, slow_line, 1, slow_stuffs, omega arith, nine_without)
