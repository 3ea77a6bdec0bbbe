-- Stuff bits in a list: they do not change when the list grows after them, and what one more bit does.
use Rattle.std.proofs.Common.{◌≡◌, ℕ, zero, suc, ◌+◌, ◌*◌, ◌<◌, ◌≤◌, ◌∙◌, List, [], ◌∷◌, ◌++◌, length, Bool, true, false, cond, ◌&&◌, refl, sym, ap, arith, length-append, add-one, append-nil, inl, inr, subst}
use Rattle.std.specs.Prelude.{nat_le}
use Rattle.std.proofs.lemmas.Bool.{le-leb, lt-leb, both_ways, cases_lt}
use Rattle.wl_level.specs.declared.Level.{Level}
use Rattle.wl_level.specs.declared.Level.TheVariants.{Recessive}
use Rattle.wl_level.specs.Levels.{same, opposite}
use Rattle.wl_level.specs.Places.{at, before, run_at}
use Rattle.wl_level.proofs.Callers.{at_new, at_old, at_front, before_old, run_at_front, run_positive, run_le, same_opposite}
use Rattle.wl_frame.specs.Stuffing.{is_stuff, destuffed_bits, destuffed_list, Stuffs}

five_run : (r : ℕ) (a b c d : Bool) → 0 < r
    → (a && b && c && d) ≡ nat_le 5 (cond d (suc (cond c (suc (cond b (suc (cond a (suc r) 1)) 1)) 1)) 1)
five_run r true true true true h = sym (le-leb 5 (suc (suc (suc (suc r)))) (omega arith))
five_run r false true true true h = refl
five_run r a false true true h = and_out a
  where
    and_out : (a : Bool) → (a && false && true && true) ≡ false
    and_out true = refl
    and_out false = refl
five_run r a b false true h = and_out (a && b)
  where
    and_out : (a : Bool) → (a && false && true) ≡ false
    and_out true = refl
    and_out false = refl
five_run r a b c false h = and_out (a && b && c)
  where
    and_out : (a : Bool) → (a && false) ≡ false
    and_out true = refl
    and_out false = refl

-- a stuff bit is due exactly after a run of five
pub stuff_run : (y : List Level) (n : ℕ) → is_stuff y n ≡ nat_le 5 (run_at y n)
stuff_run y zero = refl
stuff_run y (suc zero) = refl
stuff_run y (suc (suc zero)) = sym (lt-leb 5 (run_at y 2) (omega (arith, run_le y 2)))
stuff_run y (suc (suc (suc zero))) = sym (lt-leb 5 (run_at y 3) (omega (arith, run_le y 3)))
stuff_run y (suc (suc (suc (suc zero)))) = sym (lt-leb 5 (run_at y 4) (omega (arith, run_le y 4)))
stuff_run y (suc (suc (suc (suc (suc n))))) =
    five_run (run_at y (suc n)) (same (at y n) (at y (suc n))) (same (at y (suc n)) (at y (suc (suc n)))) (same (at y (suc (suc n))) (at y (suc (suc (suc n))))) (same (at y (suc (suc (suc n)))) (at y (suc (suc (suc (suc n)))))) (run_positive y n)

-- whether a stuff bit is due at a place, and what is kept before it, follows from the front up to there
pub stuff_front : (y more : List Level) (n : ℕ) → n ≤ length y → is_stuff (y ++ more) n ≡ is_stuff y n
stuff_front y more n h = stuff_run (y ++ more) n ∙ ap (nat_le 5) (run_at_front y more n h) ∙ sym (stuff_run y n)

pub kept_front : (y more : List Level) (n : ℕ) → n ≤ length y → destuffed_bits (y ++ more) n ≡ destuffed_bits y n
kept_front y more zero h = refl
kept_front y more (suc n) h =
    ap (λ ks. ks ++ cond (is_stuff (y ++ more) n) [] (at (y ++ more) n ∷ [])) (kept_front y more n (omega arith))
    ∙ ap (λ s. destuffed_bits y n ++ cond s [] (at (y ++ more) n ∷ [])) (stuff_front y more n (omega arith))
    ∙ ap (λ a. destuffed_bits y n ++ cond (is_stuff y n) [] (a ∷ [])) (at_front y more n (omega arith))

module _ (y : List Level) (b : Level) where
  pub length_more : length (y ++ b ∷ []) ≡ suc (length y)
  length_more = length-append y (b ∷ []) ∙ add-one (length y)

  pub stuff_old : (n : ℕ) → n ≤ length y → is_stuff (y ++ b ∷ []) n ≡ is_stuff y n
  stuff_old n h = stuff_front y (b ∷ []) n h

  pub kept_old : (n : ℕ) → n ≤ length y → destuffed_bits (y ++ b ∷ []) n ≡ destuffed_bits y n
  kept_old n h = kept_front y (b ∷ []) n h

  -- one bit more is kept, where none is due
  pub destuffed_more : destuffed_list (y ++ b ∷ []) ≡ destuffed_list y ++ cond (is_stuff y (length y)) [] (b ∷ [])
  destuffed_more =
      ap (destuffed_bits (y ++ b ∷ [])) length_more
      ∙ ap (λ ks. ks ++ cond (is_stuff (y ++ b ∷ []) (length y)) [] (at (y ++ b ∷ []) (length y) ∷ [])) (kept_old (length y) (omega arith))
      ∙ ap (λ s. destuffed_bits y (length y) ++ cond s [] (at (y ++ b ∷ []) (length y) ∷ [])) (stuff_old (length y) (omega arith))
      ∙ ap (λ a. destuffed_bits y (length y) ++ cond (is_stuff y (length y)) [] (a ∷ [])) (at_new y b)

  run_from : (n : ℕ) → n ≡ length y → run_at (y ++ b ∷ []) (suc n) ≡ cond (same (before y n) b) (suc (run_at y n)) 1
  run_from zero e = elim (same Recessive b) as (λ s. ◌≡◌ {A = ℕ} 1 (cond s 1 1)) [ true ↦ refl | false ↦ refl ]
  run_from (suc n) e =
      ap (λ a. cond (same a (at (y ++ b ∷ []) (suc n))) (suc (run_at (y ++ b ∷ []) (suc n))) 1) (at_old y b n (omega arith))
      ∙ ap (λ a. cond (same (at y n) a) (suc (run_at (y ++ b ∷ []) (suc n))) 1) (ap (at (y ++ b ∷ [])) e ∙ at_new y b)
      ∙ ap (λ r. cond (same (at y n) b) (suc r) 1) (run_at_front y (b ∷ []) (suc n) (omega arith))

  -- the run at the end
  pub run_next_place : run_at (y ++ b ∷ []) (suc (length y)) ≡ cond (same (before y (length y)) b) (suc (run_at y (length y))) 1
  run_next_place = run_from (length y) refl

  pub run_more : run_at (y ++ b ∷ []) (length (y ++ b ∷ [])) ≡ cond (same (before y (length y)) b) (suc (run_at y (length y))) 1
  run_more = ap (run_at (y ++ b ∷ [])) length_more ∙ run_from (length y) refl

  pub before_more : before (y ++ b ∷ []) (length (y ++ b ∷ [])) ≡ b
  before_more = ap (before (y ++ b ∷ [])) length_more ∙ at_new y b

-- each stuff bit is the opposite of the bit before it
abbrev pub Opposes : List Level → Type 0
Opposes y = (k : ℕ) → k < length y → is_stuff y k ≡ true → at y k ≡ opposite (before y k)

pub opposes_more : (y : List Level) (b : Level) → Opposes y → (is_stuff y (length y) ≡ true → b ≡ opposite (before y (length y))) → Opposes (y ++ b ∷ [])
opposes_more y b h here k lt due = elim (cases_lt k (length y)) [
  | inl below ↦
      at_old y b k below ∙ h k below (sym (stuff_old y b k (omega arith)) ∙ due) ∙ ap opposite (sym (before_old y b k (omega arith)))
  | inr above ↦
      (let same_place : k ≡ length y = omega (arith, length_more y b) in
      let due_here : is_stuff y (length y) ≡ true = sym (stuff_old y b (length y) (omega arith)) ∙ ap (is_stuff (y ++ b ∷ [])) (sym same_place) ∙ due in
      ap (at (y ++ b ∷ [])) same_place ∙ at_new y b ∙ here due_here
      ∙ ap opposite (sym (before_old y b (length y) (omega arith)) ∙ ap (before (y ++ b ∷ [])) (sym same_place)))
]

-- one bit more, where the run stays below five
pub pushed : (y x : List Level) (b : Level) → Stuffs y x → cond (same (before y (length y)) b) (suc (run_at y (length y))) 1 < 5
    → Stuffs (y ++ b ∷ []) (x ++ b ∷ [])
pushed y x b s h = record {
  content = destuffed_more y b ∙ ap (λ due. destuffed_list y ++ cond due [] (b ∷ [])) s.closed ∙ ap (λ ks. ks ++ b ∷ []) s.content;
  opposite = opposes_more y b s.opposite (λ due. absurd (both_ways (is_stuff y (length y)) s.closed due));
  closed = stuff_run (y ++ b ∷ []) (length (y ++ b ∷ [])) ∙ ap (nat_le 5) (run_more y b) ∙ lt-leb 5 _ h;
}

-- the run after a stuff bit
pub run_stuffed : (y : List Level) (b : Level) → run_at ((y ++ b ∷ []) ++ opposite b ∷ []) (length ((y ++ b ∷ []) ++ opposite b ∷ [])) ≡ 1
run_stuffed y b =
    run_more (y ++ b ∷ []) (opposite b)
    ∙ ap (λ l. cond (same l (opposite b)) (suc (run_at (y ++ b ∷ []) (length (y ++ b ∷ [])))) 1) (before_more y b)
    ∙ ap (λ d. cond d (suc (run_at (y ++ b ∷ []) (length (y ++ b ∷ [])))) 1) (same_opposite b)

-- one bit more and a stuff bit, where the run reaches five
pub stuffed_more : (y x : List Level) (b : Level) → Stuffs y x → cond (same (before y (length y)) b) (suc (run_at y (length y))) 1 ≡ 5
    → Stuffs ((y ++ b ∷ []) ++ opposite b ∷ []) (x ++ b ∷ [])
stuffed_more y x b s h =
    let due : is_stuff (y ++ b ∷ []) (length (y ++ b ∷ [])) ≡ true = stuff_run (y ++ b ∷ []) (length (y ++ b ∷ [])) ∙ ap (nat_le 5) (run_more y b ∙ h) in
    record {
      content =
          destuffed_more (y ++ b ∷ []) (opposite b) ∙ ap (λ d. destuffed_list (y ++ b ∷ []) ++ cond d [] (opposite b ∷ [])) due ∙ append-nil (destuffed_list (y ++ b ∷ []))
          ∙ destuffed_more y b ∙ ap (λ d. destuffed_list y ++ cond d [] (b ∷ [])) s.closed ∙ ap (λ ks. ks ++ b ∷ []) s.content;
      opposite =
          opposes_more (y ++ b ∷ []) (opposite b) (opposes_more y b s.opposite (λ d. absurd (both_ways (is_stuff y (length y)) s.closed d))) (λ _. ap opposite (sym (before_more y b)));
      closed =
          stuff_run ((y ++ b ∷ []) ++ opposite b ∷ []) (length ((y ++ b ∷ []) ++ opposite b ∷ [])) ∙ ap (nat_le 5) (run_stuffed y b);
    }

-- y is x with its stuff bits, and ends in a run of this level and length
pub record IsStuffing (y x : List Level) (last : Level) (run : ℕ) : Type 0 where
  pub stuffs : Stuffs y x
  pub run_is : run ≡ run_at y (length y)
  pub last_is : last ≡ before y (length y)
  pub small : run < 5
  pub room : 4 * length y + run ≤ 5 * length x

run_next : (y x : List Level) (last : Level) (run : ℕ) (b : Level) → IsStuffing y x last run
    → cond (same last b) (run + 1) 1 ≡ cond (same (before y (length y)) b) (suc (run_at y (length y))) 1
run_next y x last run b s =
    ap (λ l. cond (same l b) (run + 1) 1) s.last_is
    ∙ ap (λ r. cond (same (before y (length y)) b) r 1) (add-one run ∙ ap suc s.run_is)

run_bound : (s : Bool) (run : ℕ) → cond s (run + 1) 1 ≤ run + 1
run_bound true run = omega arith
run_bound false run = omega arith

pub stuffing_more : (y x : List Level) (last : Level) (run : ℕ) (b : Level) (next : ℕ) → IsStuffing y x last run
    → next ≡ cond (same last b) (run + 1) 1 → (next ≡ 5 → ⊥) → IsStuffing (y ++ b ∷ []) (x ++ b ∷ []) b next
stuffing_more y x last run b next s e ne =
    let bound : next ≤ run + 1 = omega (arith, e, run_bound (same last b) run) in
    let run_of_five : run < 5 = s.small in
    let below : next < 5 = omega arith in
    let is : next ≡ cond (same (before y (length y)) b) (suc (run_at y (length y))) 1 = e ∙ run_next y x last run b s in
    let room : 4 * length y + run ≤ 5 * length x = s.room in
    record {
      stuffs = pushed y x b s.stuffs (let P : ℕ → Type 0 = λ n. n < 5 in subst P is below);
      run_is = is ∙ sym (run_more y b);
      last_is = sym (before_more y b);
      small = below;
      room = omega (arith, length_more y b, length_more x b);
    }

pub stuffing_stuffed : (y x : List Level) (last : Level) (run : ℕ) (b : Level) → IsStuffing y x last run
    → 5 ≡ cond (same last b) (run + 1) 1 → IsStuffing ((y ++ b ∷ []) ++ opposite b ∷ []) (x ++ b ∷ []) (opposite b) 1
stuffing_stuffed y x last run b s e =
    let bound : 5 ≤ run + 1 = omega (arith, e, run_bound (same last b) run) in
    let room : 4 * length y + run ≤ 5 * length x = s.room in
    record {
      stuffs = stuffed_more y x b s.stuffs (sym (e ∙ run_next y x last run b s));
      run_is = sym (run_stuffed y b);
      last_is = sym (before_more (y ++ b ∷ []) (opposite b));
      small = omega arith;
      room = omega (arith, length_more (y ++ b ∷ []) (opposite b), length_more y b, length_more x b);
    }
