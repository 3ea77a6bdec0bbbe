-- What is made of a list element by element, beside what is made of the whole list.
use Rattle.std.proofs.Common.{◌≡◌, ◌≢◌, ℕ, ◌+◌, ◌<◌, ◌≤◌, List, [], ◌∷◌, ◌++◌, length, get_or, drop, Result, Ok, Err, refl, sym, ap, ◌∙◌, append_assoc}
use Rattle.std.specs.List.{enumerate_from}
use Rattle.std.proofs.lemmas.List.{append-nil, drop_all}
use Rattle.wl_device.specs.Devices.{Answer}
use Rattle.wl_setup.specs.declared.fault.SetupFault.{SetupFault}
use Rattle.wl_setup.specs.declared.fault.SetupFault.TheVariants.{Memory}
use Rattle.wl_setup.specs.declared.plan_text.PlanText.{PlanText}
use Rattle.wl_setup.specs.Reading.{ReadsPlan}
use Rattle.wl_setup.specs.Plans.{after, each, IsAnswer}
use Rattle.wl_setup.proofs.Loops.{drop-at}

-- these, and what is made of the rest after them
abbrev pub joined : {U : Type 0} → List U → Result (List U) SetupFault → Result (List U) SetupFault
joined front r = after r (λ ys. Ok (front ++ ys))

pub joined-none : {U : Type 0} (r : Result (List U) SetupFault) → joined [] r ≡ r
joined-none (Ok ys) = refl
joined-none (Err e) = refl

joined-more : {U : Type 0} (front : List U) (y : U) (r : Result (List U) SetupFault)
    → joined (front ++ y ∷ []) r ≡ joined front (after r (λ ys. Ok (y ∷ ys)))
joined-more front y (Ok ys) = ap (λ l. Ok l) (append_assoc front (y ∷ []) ys)
joined-more front y (Err e) = refl

-- what was made of the first of the numbered values, and what has to be made of all
abbrev pub IsSoFar : {T U : Type 0} → (ℕ × T → Result U SetupFault) → List U → ℕ → List T → Type 0
IsSoFar make front n xs = joined front (each make (enumerate_from n (drop n xs))) ≡ each make (enumerate_from 0 xs)

pub at_first : {T U : Type 0} (make : ℕ × T → Result U SetupFault) (xs : List T) → IsSoFar make [] 0 xs
at_first make xs = joined-none (each make (enumerate_from 0 xs))

made_next : {T U : Type 0} (make : ℕ × T → Result U SetupFault) (n : ℕ) (x : T) (rest : List T) (y : U) → make (n, x) ≡ Ok y
    → each make (enumerate_from n (x ∷ rest)) ≡ after (each make (enumerate_from (n + 1) rest)) (λ ys. Ok (y ∷ ys))
made_next make n x rest y made = rw made refl

refused_next : {T U : Type 0} (make : ℕ × T → Result U SetupFault) (n : ℕ) (x : T) (rest : List T) (e : SetupFault) → make (n, x) ≡ Err e
    → each make (enumerate_from n (x ∷ rest)) ≡ Err e
refused_next make n x rest e refused = rw refused refl

-- one more
pub made_one : {T U : Type 0} (make : ℕ × T → Result U SetupFault) (front new : List U) (n : ℕ) (xs : List T) (x : T) (y : U) → n < length xs
    → x ≡ get_or xs n x → make (n, x) ≡ Ok y → new ≡ front ++ y ∷ [] → IsSoFar make front n xs → IsSoFar make new (n + 1) xs
made_one make front new n xs x y within is made grown part =
    let before = rw (drop-at xs n x within is, made_next make n x (drop (n + 1) xs) y made) at part in
    rw grown (joined-more front y (each make (enumerate_from (n + 1) (drop (n + 1) xs))) ∙ before)

-- one is refused
pub refused_one : {T U : Type 0} (make : ℕ × T → Result U SetupFault) (front : List U) (n : ℕ) (xs : List T) (x : T) (e : SetupFault) → n < length xs
    → x ≡ get_or xs n x → make (n, x) ≡ Err e → IsSoFar make front n xs → each make (enumerate_from 0 xs) ≡ Err e
refused_one make front n xs x e within is refused part =
    let before = rw (drop-at xs n x within is, refused_next make n x (drop (n + 1) xs) e refused) at part in sym before

-- all are made
pub made_all : {T U : Type 0} (make : ℕ × T → Result U SetupFault) (front : List U) (n : ℕ) (xs : List T) → length xs ≤ n
    → IsSoFar make front n xs → each make (enumerate_from 0 xs) ≡ Ok front
made_all make front n xs past part =
    let before = rw (drop_all n xs past, append-nil front) at part in sym before

-- the same of values without a number
abbrev pub IsMadeSoFar : {T U : Type 0} → (T → Result U SetupFault) → List U → ℕ → List T → Type 0
IsMadeSoFar make front n xs = joined front (each make (drop n xs)) ≡ each make xs

pub none_made : {T U : Type 0} (make : T → Result U SetupFault) (xs : List T) → IsMadeSoFar make [] 0 xs
none_made make xs = joined-none (each make xs)

one_made : {T U : Type 0} (make : T → Result U SetupFault) (x : T) (rest : List T) (y : U) → make x ≡ Ok y → each make (x ∷ rest) ≡ after (each make rest) (λ ys. Ok (y ∷ ys))
one_made make x rest y made = rw made refl

one_refused : {T U : Type 0} (make : T → Result U SetupFault) (x : T) (rest : List T) (e : SetupFault) → make x ≡ Err e → each make (x ∷ rest) ≡ Err e
one_refused make x rest e refused = rw refused refl

pub made_another : {T U : Type 0} (make : T → Result U SetupFault) (front new : List U) (n : ℕ) (xs : List T) (x : T) (y : U) → n < length xs
    → x ≡ get_or xs n x → make x ≡ Ok y → new ≡ front ++ y ∷ [] → IsMadeSoFar make front n xs → IsMadeSoFar make new (n + 1) xs
made_another make front new n xs x y within is made grown part =
    let before = rw (drop-at xs n x within is, one_made make x (drop (n + 1) xs) y made) at part in
    rw grown (joined-more front y (each make (drop (n + 1) xs)) ∙ before)

pub refused_another : {T U : Type 0} (make : T → Result U SetupFault) (front : List U) (n : ℕ) (xs : List T) (x : T) (e : SetupFault) → n < length xs
    → x ≡ get_or xs n x → make x ≡ Err e → IsMadeSoFar make front n xs → each make xs ≡ Err e
refused_another make front n xs x e within is refused part =
    let before = rw (drop-at xs n x within is, one_refused make x (drop (n + 1) xs) e refused) at part in sym before

pub made_each : {T U : Type 0} (make : T → Result U SetupFault) (front : List U) (n : ℕ) (xs : List T) → length xs ≤ n
    → IsMadeSoFar make front n xs → each make xs ≡ Ok front
made_each make front n xs past part =
    let before = rw (drop_all n xs past, append-nil front) at part in sym before

-- an answer that isn't out of memory is the one that was wanted
answered : {T : Type 0} (wanted answer : Result T SetupFault) → IsAnswer wanted answer → answer ≢ Err Memory → answer ≡ wanted
answered wanted (Ok x) given not_memory = sym given
answered wanted (Err e) given not_memory = sym (given (λ memory. not_memory (ap (λ f. Err f) memory)))

module _ {S A : Type 0} (gives : S → Answer → S → Type 0) (make : PlanText → Result A SetupFault) (s t : S) where
  -- what is made of a text that was read
  abbrev pub Gives : Result A SetupFault → Type 0
  Gives answer = (read : Result PlanText SetupFault) × ReadsPlan gives s read t × (answer ≡ after read make)

  pub planned : (text : PlanText) (answer : Result A SetupFault) → ReadsPlan gives s (Ok text) t → IsAnswer (make text) answer → answer ≢ Err Memory → Gives answer
  planned text answer reads given not_memory = (Ok text, reads, answered (make text) answer given not_memory)

  -- a fault of the text itself
  pub not_planned : (e : SetupFault) (answer : Result A SetupFault) → (e ≢ Memory → ReadsPlan gives s (Err e) t) → answer ≡ Err e → answer ≢ Err Memory → Gives answer
  not_planned e answer reads is not_memory = (Err e, reads (λ same. not_memory (is ∙ ap (λ f. Err f) same)), is)
