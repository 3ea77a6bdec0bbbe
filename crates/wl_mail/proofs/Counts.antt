-- Letters that were counted, sender by sender.
use Rattle.std.proofs.Common.{◌≡◌, ℕ, zero, suc, ◌<◌, ◌≤◌, ◌+◌, List, [], ◌∷◌, length, map, get_or, slice_set, add-one, refl, sym, ap, ◌∙◌, arith}
use Rattle.std.proofs.lemmas.List.{length-map}
use Rattle.wl_mail.specs.Senders.{one_letter_more, one_letter_more_to}

counted_next : (k : ℕ) (counts : List ℕ) (d : ℕ) → k < length counts → slice_set (one_letter_more_to k counts) k (one_letter_more (get_or (one_letter_more_to k counts) k d)) ≡ one_letter_more_to (suc k) counts
counted_next zero [] d b = absurd (omega arith)
counted_next zero (n ∷ counts) d b = refl
counted_next (suc k) [] d b = absurd (omega arith)
counted_next (suc k) (n ∷ counts) d b = ap (λ xs. one_letter_more n ∷ xs) (counted_next k counts d (omega arith))

all_counted : (counts : List ℕ) → one_letter_more_to (length counts) counts ≡ map one_letter_more counts
all_counted [] = refl
all_counted (n ∷ counts) = ap (λ xs. one_letter_more n ∷ xs) (all_counted counts)

count_stays : (k : ℕ) (counts : List ℕ) → length (one_letter_more_to k counts) ≡ length counts
count_stays zero counts = refl
count_stays (suc k) [] = refl
count_stays (suc k) (n ∷ counts) = ap suc (count_stays k counts)

-- as many senders as there are counts
pub as_many : {A : Type 0} (f : A → ℕ) (senders : List A) (counts : List ℕ) → map f senders ≡ counts → length senders ≡ length counts
as_many f senders counts e = sym (length-map senders f) ∙ ap length e

pub still_as_many : {A : Type 0} (f : A → ℕ) (senders : List A) (k : ℕ) (counts : List ℕ) → map f senders ≡ one_letter_more_to k counts → length senders ≡ length counts
still_as_many f senders k counts e = as_many f senders (one_letter_more_to k counts) e ∙ count_stays k counts

-- so one more, where the number at that place is raised
pub counted_more : (counts xs : List ℕ) (i n m end : ℕ) → xs ≡ one_letter_more_to i counts → i < end → end ≡ length counts → m ≡ get_or xs i 0 → n ≡ one_letter_more m
    → slice_set xs i n ≡ one_letter_more_to (i + 1) counts
counted_more counts xs i n m end was low all at next =
    ap (slice_set xs i) (next ∙ ap one_letter_more at)
    ∙ (ap (λ ys. slice_set ys i (one_letter_more (get_or ys i 0))) was ∙ rw add-one (counted_next i counts 0 (omega arith)))

pub counted_all : (counts xs : List ℕ) (i end : ℕ) → xs ≡ one_letter_more_to i counts → i ≤ end → end ≤ i → end ≡ length counts → xs ≡ map one_letter_more counts
counted_all counts xs i end was up down all =
    let e : i ≡ length counts = omega arith in
    was ∙ (ap (λ k. one_letter_more_to k counts) e ∙ all_counted counts)
