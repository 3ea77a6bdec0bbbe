-- What is made of a list element by element, beside what is made of the whole list.
use Rattle.std.proofs.Common.{◌≡◌, ℕ, ◌+◌, ◌<◌, ◌≤◌, List, [], ◌∷◌, ◌++◌, length, get_or, drop, Result, Ok, Err, refl, sym, ap, ◌∙◌, append_assoc, add-one, suc}
use Rattle.std.proofs.Math.Seq.{drop-cons}
use Rattle.std.specs.List.{enumerate_from}
use Rattle.std.proofs.lemmas.List.{append-nil, drop_all}
use Rattle.wl_apply.specs.declared.fault.ApplyFault.{ApplyFault}
use Rattle.wl_apply.specs.Answers.{each_made, if_made}

-- the element at a place, and what is left after it
drop-at : {X : Type 0} (xs : List X) (i : ℕ) (x : X) → i < length xs → x ≡ get_or xs i x → drop i xs ≡ x ∷ drop (i + 1) xs
drop-at xs i x within is = rw add-one (drop-cons xs i x within ∙ ap (λ y. y ∷ drop (suc i) xs) (sym is))

-- these, and what is made of the rest after them
abbrev pub joined : {U : Type 0} → List U → Result (List U) ApplyFault → Result (List U) ApplyFault
joined front r = if_made r (λ ys. Ok (front ++ ys))

joined-none : {U : Type 0} (r : Result (List U) ApplyFault) → joined [] r ≡ r
joined-none (Ok ys) = refl
joined-none (Err e) = refl

joined-more : {U : Type 0} (front : List U) (y : U) (r : Result (List U) ApplyFault)
    → joined (front ++ y ∷ []) r ≡ joined front (if_made r (λ ys. Ok (y ∷ ys)))
joined-more front y (Ok ys) = ap (λ l. Ok l) (append_assoc front (y ∷ []) ys)
joined-more front y (Err e) = refl

-- what was made of the first of the numbered values, and what has to be made of all
abbrev pub IsSoFar : {T U : Type 0} → (ℕ × T → Result U ApplyFault) → List U → ℕ → List T → Type 0
IsSoFar make front n xs = joined front (each_made make (enumerate_from n (drop n xs))) ≡ each_made make (enumerate_from 0 xs)

pub at_first : {T U : Type 0} (make : ℕ × T → Result U ApplyFault) (xs : List T) → IsSoFar make [] 0 xs
at_first make xs = joined-none (each_made make (enumerate_from 0 xs))

made_next : {T U : Type 0} (make : ℕ × T → Result U ApplyFault) (n : ℕ) (x : T) (rest : List T) (y : U) → make (n, x) ≡ Ok y
    → each_made make (enumerate_from n (x ∷ rest)) ≡ if_made (each_made make (enumerate_from (n + 1) rest)) (λ ys. Ok (y ∷ ys))
made_next make n x rest y made = rw made refl

refused_next : {T U : Type 0} (make : ℕ × T → Result U ApplyFault) (n : ℕ) (x : T) (rest : List T) (e : ApplyFault) → make (n, x) ≡ Err e
    → each_made make (enumerate_from n (x ∷ rest)) ≡ Err e
refused_next make n x rest e refused = rw refused refl

-- one more
pub made_one : {T U : Type 0} (make : ℕ × T → Result U ApplyFault) (front new : List U) (n : ℕ) (xs : List T) (x : T) (y : U) → n < length xs
    → x ≡ get_or xs n x → make (n, x) ≡ Ok y → new ≡ front ++ y ∷ [] → IsSoFar make front n xs → IsSoFar make new (n + 1) xs
made_one make front new n xs x y within is made grown part =
    let before = rw (drop-at xs n x within is, made_next make n x (drop (n + 1) xs) y made) at part in
    rw grown (joined-more front y (each_made make (enumerate_from (n + 1) (drop (n + 1) xs))) ∙ before)

-- one is refused
pub refused_one : {T U : Type 0} (make : ℕ × T → Result U ApplyFault) (front : List U) (n : ℕ) (xs : List T) (x : T) (e : ApplyFault) → n < length xs
    → x ≡ get_or xs n x → make (n, x) ≡ Err e → IsSoFar make front n xs → each_made make (enumerate_from 0 xs) ≡ Err e
refused_one make front n xs x e within is refused part =
    let before = rw (drop-at xs n x within is, refused_next make n x (drop (n + 1) xs) e refused) at part in sym before

-- all are made
pub made_all : {T U : Type 0} (make : ℕ × T → Result U ApplyFault) (front : List U) (n : ℕ) (xs : List T) → length xs ≤ n
    → IsSoFar make front n xs → each_made make (enumerate_from 0 xs) ≡ Ok front
made_all make front n xs past part =
    let before = rw (drop_all n xs past, append-nil front) at part in sym before
