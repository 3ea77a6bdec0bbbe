-- For crates above, too: what a reader over a text in memory gives.
use Rattle.std.proofs.Common.{◌≡◌, ◌≤◌, ◌<◌, ◌∙◌, ℕ, List, [], ◌∷◌, ◌++◌, length, sym, ap, subst, arith, inl, inr, append_assoc, length-append}
use Rattle.std.proofs.lemmas.List.{append-nil}
use Rattle.wl_device.specs.Bounded.{ReadsUpTo}
use Rattle.wl_device.specs.Devices.{Answer, moved, ended, again, failed, Run, moved_bytes, AllGoOn}
use Rattle.wl_device.specs.Limits.{most_calls-is}
use Rattle.wl_device.specs.declared.bounded.Ended.TheVariants as reading
use Rattle.wl_setup.specs.Limits.{most_bytes, most_bytes-is}
use Rattle.wl_engines.specs.Reader.{GivesRest}

module _ {S : Type 0} (rest : S → List ℕ) where
  abbrev pub gives : S → Answer → S → Type 0
  gives s a t = GivesRest (rest s) a (rest t)

  -- what was left at first is what came, and what is left now
  pub rest_came : (answers : List Answer) (s t : S) → Run gives s answers t → rest s ≡ moved_bytes answers ++ rest t
  rest_came [] s t e = ap rest e
  rest_came (moved b ∷ answers) s t (m, g, r) =
      g.0 ∙ ap (λ l. b ++ l) (rest_came answers m t r) ∙ sym (append_assoc b (moved_bytes answers) (rest t))
  rest_came (ended ∷ answers) s t (m, g, r) = g.0 ∙ sym g.1 ∙ rest_came answers m t r
  rest_came (again ∷ answers) s t (m, g, r) = absurd g
  rest_came (failed ∷ answers) s t (m, g, r) = absurd g

  -- after the end nothing is left
  none_left : (front : List Answer) (s t : S) → Run gives s (front ++ ended ∷ []) t → rest t ≡ []
  none_left [] s t (m, g, e) = ap rest (sym e) ∙ g.1
  none_left (a ∷ front) s t (m, g, r) = none_left front m t r

  -- it doesn't fail
  never_fails : (front : List Answer) (s t : S) → Run gives s (front ++ failed ∷ []) t → ⊥
  never_fails [] s t (m, g, e) = g
  never_fails (a ∷ front) s t (m, g, r) = never_fails front m t r

  -- each call before the end brings a byte at least
  few_calls : (answers : List Answer) (s t : S) → AllGoOn answers → Run gives s answers t → length answers ≤ length (moved_bytes answers)
  few_calls [] s t goes e = omega arith
  few_calls (moved b ∷ answers) s t goes (m, g, r) = omega (arith, few_calls answers m t goes.1 r, g.1, length-append b (moved_bytes answers))
  few_calls (ended ∷ answers) s t goes h = absurd goes.0
  few_calls (again ∷ answers) s t goes (m, g, r) = absurd g
  few_calls (failed ∷ answers) s t goes h = absurd goes.0

module _ {S : Type 0} (rest : S → List ℕ) (s s' : S) (text : List ℕ) where
  -- what was read up to its end is the text
  pub whole : ReadsUpTo (gives rest) s most_bytes text reading.End s' → (text ≡ rest s) × (length text ≤ most_bytes)
  whole (answers, by, few) =
      let none : rest s' ≡ [] = none_left rest by.ends.0 s s' (subst (λ all. Run (gives rest) s all s') by.ends.1 by.run) in (
        sym by.bytes_are ∙ sym (append-nil (moved_bytes answers)) ∙ ap (λ l. moved_bytes answers ++ l) (sym none) ∙ sym (rest_came rest answers s s' by.run),
        subst (λ (l : List ℕ). length l ≤ most_bytes) by.bytes_are few,
      )

  -- the reader doesn't break off
  pub unbroken : ReadsUpTo (gives rest) s most_bytes text reading.Broken s' → ⊥
  unbroken (answers, by, few) = elim by.ends [
    | inl f ↦ never_fails rest f.0 s s' (subst (λ all. Run (gives rest) s all s') f.1 by.run)
    | inr f ↦ omega (arith, f.0, few, few_calls rest answers s s' f.1 by.run, most_calls-is, most_bytes-is)
  ]

  -- what is too much is of a text that is too long
  pub too_long : ReadsUpTo (gives rest) s most_bytes text reading.Full s' → most_bytes < length (rest s)
  too_long (answers, by, keep) =
      omega (arith, keep.4, ap length (rest_came rest answers s s' by.run), length-append (moved_bytes answers) (rest s'))
