-- The line and the column of a place, byte by byte.
use Rattle.std.proofs.Common.{◌≡◌, ◌∙◌, ℕ, Bool, true, false, ◌||◌, List, [], ◌∷◌, ◌++◌, if◌then◌else◌, refl, ap, sym, inl, inr, ◌+◌, ◌<◌, length, length-append, filter, take, get_or, arith}
use Rattle.std.specs.List.{list_any}
use Rattle.std.proofs.lemmas.Bool.{cases_Bool}
use Rattle.std.proofs.lemmas.List.{take_more}
use Rattle.std.proofs.lemmas.List.Elements.{filter-append}
use Rattle.std.proofs.lemmas.List.Folds.{list_any-append}
use Rattle.wl_explain.specs.Refusals.{begins_letter, column_behind, column_number, in_line, is_newline}

with_end : (t u : Bool) → u ≡ true → (t || (u || false)) ≡ true
with_end true u e = refl
with_end false u e = rw e refl

without_end : (t u : Bool) → u ≡ false → (t || (u || false)) ≡ t
without_end true u e = refl
without_end false u e = rw e refl

-- a newline ends the line
pub line_ends : (xs : List ℕ) (b : ℕ) → is_newline b ≡ true → in_line (xs ++ b ∷ []) ≡ []
line_ends [] b e = rw e refl
line_ends (x ∷ xs) b e =
    let any : list_any is_newline (x ∷ (xs ++ b ∷ [])) ≡ true =
    list_any-append is_newline (x ∷ xs) (b ∷ []) ∙ with_end (list_any is_newline (x ∷ xs)) (is_newline b) e in
    rw any (line_ends xs b e)

-- any other byte goes on with it
pub line_goes_on : (xs : List ℕ) (b : ℕ) → is_newline b ≡ false → in_line (xs ++ b ∷ []) ≡ in_line xs ++ b ∷ []
line_goes_on [] b e = rw e refl
line_goes_on (x ∷ xs) b e =
    let same : list_any is_newline (x ∷ (xs ++ b ∷ [])) ≡ list_any is_newline (x ∷ xs) =
    list_any-append is_newline (x ∷ xs) (b ∷ []) ∙ without_end (list_any is_newline (x ∷ xs)) (is_newline b) e in
    elim (cases_Bool (list_any is_newline (x ∷ xs))) [
      | inl some ↦ rw (same, some) (line_goes_on xs b e)
      | inr none ↦ rw (same, none) refl
    ]

-- a byte more, and the column
pub column_more : (xs : List ℕ) (b c : ℕ) → c ≡ column_number xs → column_behind c b ≡ column_number (xs ++ b ∷ [])
column_more xs b c e =
    elim (cases_Bool (is_newline b)) [
      | inl ends ↦ rw (ends, line_ends xs b ends) refl
      | inr other ↦ rw (other, line_goes_on xs b other, filter-append begins_letter (in_line xs) (b ∷ []), length-append (filter begins_letter (in_line xs)) (filter begins_letter (b ∷ []))) (counts (begins_letter b))
    ]
  where
    counts : (t : Bool) → (if t then c + 1 else c) ≡ 1 + (length (filter begins_letter (in_line xs)) + length (if t then b ∷ [] else []))
    counts true = omega (arith, e)
    counts false = omega (arith, e)

-- behind a place of a list
pub column_next : (xs : List ℕ) (i d c : ℕ) → i < length xs → c ≡ column_number (take i xs) → column_behind c (get_or xs i d) ≡ column_number (take (i + 1) xs)
column_next xs i d c within e = column_more (take i xs) (get_or xs i d) c e ∙ ap column_number (sym (take_more xs i d within))
