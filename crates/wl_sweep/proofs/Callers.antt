-- For this crate and those above it: tallies of members one after another, counts and first places of two lists, and parts of a range of numbers.
use Rattle.std.proofs.Common.{cond, eqb, ◌≡◌, ◌∙◌, ◌+◌, ◌-◌, ◌*◌, ◌^◌, ◌<◌, ◌≤◌, ℕ, zero, suc, Bool, true, false, List, [], ◌∷◌, ◌++◌, length, map, Some, option_map, refl, sym, subst, ap, arith, inl, inr}
use Rattle.std.specs.Int.{div_ceil}
use Rattle.std.specs.List.{count_by, list_all, position_from, range_with_len}
use Rattle.std.specs.Option.{option_or}
use Rattle.std.specs.Prelude.{◌&&◌}
use Rattle.std.proofs.lemmas.Bool.{cases_Bool, eq-eqb, eqb-false, eqb-true, ne_eqb}
use Rattle.std.proofs.lemmas.Grind.{div_ceil_times}
use Rattle.std.proofs.lemmas.List.FromFn.{map-range_with_len_more, length-map-range_with_len}
use Rattle.std.proofs.lemmas.List.Recursion.{is_count_by}
use Rattle.std.proofs.lemmas.List.Sums.{sum_by-append, count_by-le-length}
use Rattle.wl_sweep.specs.Family.{capped}
use Rattle.wl_sweep.specs.Tallies.{part_start}

pub capped-small : (n : ℕ) → n < 2 ^ 64 → capped n ≡ n
capped-small n small = omega arith

module _ {X : Type 0} (p : X → Bool) where
  first-append : (i : ℕ) (xs ys : List X) → position_from p i (xs ++ ys) ≡ option_or (position_from p i xs) (position_from p (i + length xs) ys)
  first-append i [] ys = ap (λ k. position_from p k ys) (omega arith)
  first-append i (x ∷ xs) ys =
      elim (cases_Bool (p x)) [
        | inl passes ↦ rw passes refl
        | inr fails ↦ rw fails (first-append (i + 1) xs ys ∙ ap (λ k. option_or (position_from p (i + 1) xs) (position_from p k ys)) (omega arith))
      ]

  pub first-shift : (k i : ℕ) (xs : List X) → k + (i + length xs) < 2 ^ 64 → option_map (λ n. capped (k + n)) (position_from p i xs) ≡ position_from p (k + i) xs
  first-shift k i [] small = refl
  first-shift k i (x ∷ xs) small =
      elim (cases_Bool (p x)) [
        | inl passes ↦ rw passes (ap Some (capped-small (k + i) (omega arith)))
        | inr fails ↦ rw fails (first-shift k (i + 1) xs (omega arith) ∙ ap (λ m. position_from p m xs) (omega arith))
      ]

  -- the first one of two lists that passes
  pub first-joined : (xs ys : List X) → length xs + length ys < 2 ^ 64
      → option_or (position_from p 0 xs) (option_map (λ n. capped (length xs + n)) (position_from p 0 ys)) ≡ position_from p 0 (xs ++ ys)
  first-joined xs ys small =
      ap (λ o. option_or (position_from p 0 xs) o) (first-shift (length xs) 0 ys (omega arith) ∙ ap (λ m. position_from p m ys) (omega arith))
      ∙ sym (first-append 0 xs ys)

  pub count-joined : (xs ys : List X) → length xs + length ys < 2 ^ 64 → capped (count_by p xs + count_by p ys) ≡ count_by p (xs ++ ys)
  count-joined xs ys small =
      capped-small (count_by p xs + count_by p ys) (omega (arith, count_by-le-length p xs, count_by-le-length p ys))
      ∙ sym (sum_by-append (λ x. cond (p x) 1 0) xs ys)

one_more : (c l : ℕ) (all : Bool) → eqb c l ≡ all → eqb (1 + c) (suc l) ≡ all
one_more c l true is = let same = eqb-true c l is in eq-eqb (1 + c) (suc l) (omega (arith, same))
one_more c l false is = let other = eqb-false c l is in ne_eqb (1 + c) (suc l) (λ e. other (omega (arith, e)))

counted : (b : Bool) (c l : ℕ) (all : Bool) → eqb c l ≡ all → c ≤ l → eqb (cond b (1 + c) c) (suc l) ≡ (b && all)
counted true c l all is few = one_more c l all is
counted false c l all is few = ne_eqb c (suc l) (λ e. absurd (omega (arith, e, few)))

module _ {X : Type 0} (p : X → Bool) where
  abbrev count : List X → ℕ
  count [] = 0
  count (x ∷ xs) = cond (p x) (1 + count xs) (count xs)

  same : (xs : List X) → count xs ≡ count_by p xs
  same xs = is_count_by count p refl (λ x ys. refl) xs

  all_of : (xs : List X) → eqb (count xs) (length xs) ≡ list_all p xs
  all_of [] = refl
  all_of (x ∷ xs) =
      counted (p x) (count xs) (length xs) (list_all p xs) (all_of xs) (subst (λ n. n ≤ length xs) (sym (same xs)) (count_by-le-length p xs))

  -- as many are counted as there are, exactly if all pass
  pub all_counted : (xs : List X) → eqb (count_by p xs) (length xs) ≡ list_all p xs
  all_counted xs = ap (λ n. eqb n (length xs)) (sym (same xs)) ∙ all_of xs

-- a tally is that of two others, one after the other
abbrev pub JoinsBy : {X T : Type 0} → (List X → T) → T → T → T → Type 0
JoinsBy {X} tally t u r = (xs ys : List X) → t ≡ tally xs → u ≡ tally ys → length xs + length ys < 2 ^ 64 → r ≡ tally (xs ++ ys)

module _ {X : Type 0} (f : ℕ → X) where
  -- what is made of so many numbers from one on
  abbrev pub made : ℕ → ℕ → List X
  made from n = map f (range_with_len from n)

  -- one more
  pub made_more : (from n j : ℕ) → from + n ≡ j → made from (n + 1) ≡ made from n ++ f j ∷ []
  made_more from n j e = map-range_with_len_more f from n j e

  -- so many, and after them so many more
  pub made_joined : (from m n : ℕ) → made from (m + n) ≡ made from m ++ made (from + m) n
  made_joined from zero n =
      ap (λ k. made from k) {x = zero + n} {y = n} (omega arith)
      ∙ ap (λ k. made k n) {x = from} {y = from + zero} (omega arith)
  made_joined from (suc m) n =
      ap (λ k. made from k) {x = suc m + n} {y = suc (m + n)} (omega arith)
      ∙ ap (λ rest. f from ∷ rest)
      (made_joined (from + 1) m n
      ∙ ap (λ k. made (from + 1) m ++ made k n) {x = from + 1 + m} {y = from + suc m} (omega arith))

  pub made_length : (from n : ℕ) → length (made from n) ≡ n
  made_length from n = length-map-range_with_len f from n

  -- those up to another number, and after them those up to a third
  pub made_up : (from mid to : ℕ) → from ≤ mid → mid ≤ to → made from (to - from) ≡ made from (mid - from) ++ made mid (to - mid)
  made_up from mid to low high =
      ap (λ k. made from k) {x = to - from} {y = (mid - from) + (to - mid)} (omega arith)
      ∙ made_joined from (mid - from) (to - mid)
      ∙ ap (λ k. made from (mid - from) ++ made k (to - mid)) {x = from + (mid - from)} {y = mid} (omega arith)

module _ {X T : Type 0} (f : ℕ → X) (tally : List X → T) where
  -- the tally of one more
  pub tally_by_one : (from run : ℕ) (t u r : T) → from ≤ run → run < 2 ^ 32 → JoinsBy tally t u r
      → t ≡ tally (made f from (run - from)) → u ≡ tally (f run ∷ []) → r ≡ tally (made f from (run + 1 - from))
  tally_by_one from run t u r low small joins before here =
      joins (made f from (run - from)) (f run ∷ []) before here
      (let count : length (made f from (run - from)) ≡ run - from = made_length f from (run - from) in
      let one : length (f run ∷ []) ≡ 1 = refl in omega arith)
      ∙ ap tally (sym (ap (λ k. made f from k) {x = run + 1 - from} {y = (run - from) + 1} (omega arith)
      ∙ made_more f from (run - from) run (omega arith)))

  -- the tally of those up to another number
  pub tally_by_more : (from mid to : ℕ) (t u r : T) → from ≤ mid → mid ≤ to → to < 2 ^ 32 → JoinsBy tally t u r
      → t ≡ tally (made f from (mid - from)) → u ≡ tally (made f mid (to - mid)) → r ≡ tally (made f from (to - from))
  tally_by_more from mid to t u r low high small joins before here =
      joins (made f from (mid - from)) (made f mid (to - mid)) before here
      (let count : length (made f from (mid - from)) ≡ mid - from = made_length f from (mid - from) in
      let more : length (made f mid (to - mid)) ≡ to - mid = made_length f mid (to - mid) in omega arith)
      ∙ ap tally (sym (made_up f from mid to low high))

part_low : (from to size w : ℕ) → from ≤ to → from ≤ part_start from to size w
part_low from to size w h = omega arith

part_high : (from to size w : ℕ) → part_start from to size w ≤ to
part_high from to size w = omega arith

part_grows : (from to size w : ℕ) → part_start from to size w ≤ part_start from to size (w + 1)
part_grows from to size w = omega arith

-- the last part ends with the last number
part_last : (from to size w : ℕ) → from ≤ to → to - from ≤ size * w → part_start from to size w ≡ to
part_last from to size w h enough = omega arith

module _ {X T : Type 0} (f : ℕ → X) (tally : List X → T) (from to size : ℕ) where
  -- the tally of the parts so far and one more
  pub tally_by_part : (w : ℕ) (t u r : T) → from ≤ to → to < 2 ^ 32 → JoinsBy tally t u r
      → t ≡ tally (made f from (part_start from to size w - from))
      → u ≡ tally (made f (part_start from to size w) (part_start from to size (w + 1) - part_start from to size w))
      → r ≡ tally (made f from (part_start from to size (w + 1) - from))
  tally_by_part w t u r low small joins before here =
      let high : part_start from to size (w + 1) ≤ to = part_high from to size (w + 1) in
      tally_by_more f tally from (part_start from to size w) (part_start from to size (w + 1)) t u r
      (part_low from to size w low) (part_grows from to size w) (omega arith) joins before here

  -- after the last part it is that of all
  pub tally_of_parts : (workers : ℕ) (t : T) → from ≤ to → 0 < workers → size ≡ div_ceil (to - from) workers
      → t ≡ tally (made f from (part_start from to size workers - from)) → t ≡ tally (made f from (to - from))
  tally_of_parts workers t low some is before =
      let covers : to - from ≤ div_ceil (to - from) workers * workers = (div_ceil_times (to - from) workers some).0 in
      let enough : to - from ≤ size * workers = rw (sym is) at covers in
      before ∙ ap (λ k. tally (made f from (k - from))) (part_last from to size workers low enough)
