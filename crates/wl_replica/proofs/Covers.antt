-- A tick is in the intervals of an increasing list where an odd number of its edges lies at it or before.
use Rattle.std.proofs.Math.Bool.{not-not}
use Rattle.std.proofs.Common.{◌≡◌, ℕ, suc, ◌<◌, Bool, true, false, ◌&&◌, ◌||◌, inl, inr, List, [], ◌∷◌, refl, sym, ◌∙◌, ap, arith, nat_lt, nat_le}
use Rattle.std.proofs.lemmas.Bool.{cases_lt, le-leb, lt-leb, lt-ltb, le-ltb, and_left, and_right, and_from}
use Rattle.wl_record_core.specs.Truth.{count_below, IsIncreasing, odd}
use Rattle.wl_record_core.specs.TableLaws.{TableLaws}
use Rattle.wl_intervals.specs.Pairs.{covers}
use Rattle.wl_replica.specs.Known.{intervals}

pub or_true : (a b : Bool) → a ≡ true → (a || b) ≡ true
or_true a b h = ap (λ v. v || b) h

or_false : (a b : Bool) → a ≡ false → (a || b) ≡ b
or_false a b h = ap (λ v. v || b) h

module _ (tables : TableLaws) where
  open tables use {count_first, skip_first, count_none, count_less}

  pub covers_odd : (xs : List ℕ) (h t : ℕ) → IsIncreasing xs → t < h → covers (intervals xs h) t ≡ odd (count_below (suc t) xs)
  covers_odd [] h t i b = refl
  covers_odd (x ∷ []) h t i b = elim (cases_lt t x) [
    | inl early ↦
        let n : count_below (suc t) (x ∷ []) ≡ 0 = skip_first (suc t) x [] early in
        or_false (nat_le x t && nat_lt t h) false (and_left _ _ (lt-leb x t early)) ∙ sym (ap odd n)
    | inr late ↦
        let n : count_below (suc t) (x ∷ []) ≡ 1 = count_first (suc t) x [] (omega arith) in
        or_true (nat_le x t && nat_lt t h) false (and_from _ _ (le-leb x t late) (lt-ltb t h b)) ∙ sym (ap odd n)
  ]
  covers_odd (x ∷ y ∷ xs) h t i b =
      let r = covers_odd xs h t i.1.1 b in
      let xy = i.0.0 in
      elim (cases_lt t x) [
        | inl early ↦
            let z = count_none y xs i.1.0 in
            let w = count_less (suc t) (suc y) xs (omega arith) in
            let a = skip_first (suc t) x (y ∷ xs) early in
            let c = skip_first (suc t) y xs (omega arith) in
            let e : count_below (suc t) xs ≡ 0 = omega arith in
            let n : count_below (suc t) (x ∷ y ∷ xs) ≡ 0 = omega arith in
            or_false (nat_le x t && nat_lt t y) (covers (intervals xs h) t) (and_left _ _ (lt-leb x t early)) ∙ (r ∙ (ap odd e ∙ sym (ap odd n)))
        | inr late ↦ elim (cases_lt t y) [
          | inl mid ↦
              let z = count_none y xs i.1.0 in
              let w = count_less (suc t) (suc y) xs (omega arith) in
              let a = count_first (suc t) x (y ∷ xs) (omega arith) in
              let c = skip_first (suc t) y xs mid in
              let n : count_below (suc t) (x ∷ y ∷ xs) ≡ 1 = omega arith in
              or_true (nat_le x t && nat_lt t y) (covers (intervals xs h) t) (and_from _ _ (le-leb x t late) (lt-ltb t y mid)) ∙ sym (ap odd n)
          | inr past ↦
              let a = count_first (suc t) x (y ∷ xs) (omega arith) in
              let c = count_first (suc t) y xs (omega arith) in
              let n : count_below (suc t) (x ∷ y ∷ xs) ≡ suc (suc (count_below (suc t) xs)) = omega arith in
              or_false (nat_le x t && nat_lt t y) (covers (intervals xs h) t) (and_right _ _ (le-ltb t y past))
              ∙ (r ∙ sym (ap odd n ∙ not-not (odd (count_below (suc t) xs))))
        ]
      ]
