-- The first frame of a list that was sent at a tick or later.
use Rattle.std.proofs.Common.{◌≡◌, ◌∙◌, sym, ap, arith, refl, ℕ, zero, suc, ◌+◌, ◌<◌, ◌≤◌, Bool, cond, List, [], ◌∷◌, ◌++◌, append-nil, length, get_or, set, take, drop}
use Rattle.std.specs.List.{All}
use Rattle.std.proofs.Math.ListN.{drop_of_length-le}
use Rattle.std.proofs.lemmas.Bool.{lt-leb, le-leb}
use Rattle.std.proofs.lemmas.List.{drop_more, length-take, set_at, take-append-drop, take_all}
use Rattle.wl_delivery.specs.declared.instances.Instance.{Instance}
use Rattle.wl_delivery.specs.Instances.{taken_again, with_taken}

-- each was sent before a tick
abbrev pub AreEarly : ℕ → List Instance → Type 0
AreEarly tick xs = All (λ i. i.sent < tick) xs

-- those in front that were sent before aren't meant
early_front : (tick : ℕ) (xs : List Instance) (k : ℕ) → AreEarly tick (take k xs) → with_taken tick xs ≡ take k xs ++ with_taken tick (drop k xs)
early_front tick [] zero h = refl
early_front tick [] (suc k) h = refl
early_front tick (x ∷ xs) zero h = refl
early_front tick (x ∷ xs) (suc k) h =
    ap (λ (b : Bool). cond b (taken_again x ∷ xs) (x ∷ with_taken tick xs)) (lt-leb tick x.sent (h 0 x (omega arith)))
    ∙ ap (λ (ys : List Instance). x ∷ ys) (early_front tick xs k (λ i d b. h (suc i) d (omega arith)))

-- one of a list in the place of another
set_there : (xs : List Instance) (k : ℕ) (d new : Instance) → k < length xs → set xs k new ≡ take k xs ++ new ∷ drop (k + 1) xs
set_there xs k d new b =
    let split : xs ≡ take k xs ++ get_or xs k d ∷ drop (k + 1) xs = sym (take-append-drop k xs) ∙ ap (λ (r : List Instance). take k xs ++ r) (drop_more xs k d b) in
    ap (λ (l : List Instance). set l k new) split
    ∙ set_at (take k xs) (get_or xs k d) (drop (k + 1) xs) new k (let t = length-take k xs in omega (arith, t, b))

-- the first of the others is, if it was sent then or later
pub found : (tick : ℕ) (xs : List Instance) (k : ℕ) (d : Instance) → k < length xs → AreEarly tick (take k xs) → tick ≤ (get_or xs k d).sent
    → set xs k (taken_again (get_or xs k d)) ≡ with_taken tick xs
found tick xs k d b h late =
    set_there xs k d (taken_again (get_or xs k d)) b
    ∙ ap (λ (ys : List Instance). take k xs ++ ys)
    (sym (ap (with_taken tick) (drop_more xs k d b)
    ∙ ap (λ (t : Bool). cond t (taken_again (get_or xs k d) ∷ drop (k + 1) xs) (get_or xs k d ∷ with_taken tick (drop (k + 1) xs)))
    (le-leb tick (get_or xs k d).sent late)))
    ∙ sym (early_front tick xs k h)

-- nothing is, if all were sent before
pub none_found : (tick : ℕ) (xs : List Instance) (k : ℕ) → length xs ≤ k → AreEarly tick (take k xs) → with_taken tick xs ≡ xs
none_found tick xs k long h =
    early_front tick xs k h ∙ ap (λ (ys : List Instance). take k xs ++ with_taken tick ys) (drop_of_length-le xs long)
    ∙ append-nil (take k xs) ∙ take_all k xs long
