-- What a post keeps, and what it hands out.
use Rattle.std.proofs.Common.{◌≡◌, ◌<◌, ◌≤◌, ℕ, ◌+◌, List, [], ◌∷◌, ◌++◌, length, slice_get, slice_index_or, inr, refl, sym, subst, ap, ◌∙◌, arith}
use Rattle.std.proofs.lemmas.Option.{slice_get_read}
use Rattle.std.specs.Arc.{arc_value}
use Rattle.wl_group.specs.GroupValue.{GroupValue, with_records}
use Rattle.wl_mail.specs.declared.letter.Letter.{Letter}
use Rattle.wl_mail.specs.Posts.{PostValue, KeepsLetters, HandedOut}

-- a post with one letter more
pub one_kept : (old : PostValue) (sent : List ℕ) (before mid after : List Letter) (handed : ℕ) (letter : Letter) → record { sent = sent; kept = before; handed = handed } ≡ old
    → length before ≤ handed → mid ≡ before → after ≡ mid ++ letter ∷ [] → KeepsLetters old (record { sent = sent; kept = after; handed = handed })
one_kept old sent before mid after handed letter is all same more =
    subst (λ (p : PostValue). KeepsLetters p (record { sent = sent; kept = after; handed = handed })) is
    (record { sent = refl; kept = inr (all, (letter, more ∙ ap (λ xs. xs ++ letter ∷ []) same)) })

-- whatever is counted, the letters stay
pub kept_counted : (old mid : PostValue) (sent : List ℕ) (kept : List Letter) (handed n : ℕ) → record { sent = sent; kept = kept; handed = handed } ≡ mid → KeepsLetters old mid
    → KeepsLetters old (record { sent = sent; kept = kept; handed = n })
kept_counted old mid sent kept handed n is keeps =
    let more : KeepsLetters old (record { sent = sent; kept = kept; handed = handed }) = subst (KeepsLetters old) (sym is) keeps in
    record { sent = more.sent; kept = more.kept }

-- the letter at the next place is handed out
pub letter_handed : (old mid : PostValue) (sent : List ℕ) (kept : List Letter) (handed : ℕ) (letter : Letter) (before after : GroupValue)
    → record { sent = sent; kept = kept; handed = handed } ≡ mid → mid.handed ≡ old.handed → mid.handed < length mid.kept → letter ≡ slice_index_or kept handed letter
    → arc_value letter.plan ≡ before.plan → after ≡ with_records (arc_value letter.records).items before → HandedOut old (record { sent = sent; kept = kept; handed = handed + 1 }) before after
letter_handed old mid sent kept handed letter before after is same inside at of taken =
    let same_handed : handed ≡ mid.handed = ap (λ (p : PostValue). p.handed) is in
    let same_kept : kept ≡ mid.kept = ap (λ (p : PostValue). p.kept) is in
    let low : handed < length kept = subst (λ (xs : List Letter). handed < length xs) (sym same_kept) (omega arith) in
    let here : handed ≡ old.handed = same_handed ∙ same in record {
      letter = letter;
      next = ap (slice_get kept) (sym here) ∙ slice_get_read kept (length kept) handed letter refl low at;
      plan_is = of;
      taken = taken;
      counted = omega arith;
    }
