-- Small facts that proofs of this crate share: of a written place, of true lists, and of options and results.
use Rattle.std.proofs.Common.{◌≡◌, ℕ, List, [], ◌∷◌, ◌++◌, true, Option, Some, None, is_some, Result, Ok, Err, OnErr, inl, inr, refl, sym, subst}
use Rattle.std.specs.Prelude.{◌==◌}
use Rattle.std.proofs.lemmas.Bool.{cases_eq, cond-true, cond-false, eq-eqb, ne_eqb, false≢true}
use Rattle.wl_record_core.specs.declared.record.Record.{Record}
use Rattle.wl_record_core.specs.Truth.{AreTrueOf}
use Rattle.wl_group.specs.Party.{put}
use Rattle.wl_group.specs.PartyLaws.{PutLaws, PartyLaws}

-- a written place, and another
pub put_at : {A : Type 0} (f : ℕ → A) (i : ℕ) (a : A) (P : A → Type 0) (j : ℕ) → (j ≡ i → P a) → ((j ≡ i → ⊥) → P (f j)) → P (put f i a j)
put_at f i a P j here_is other_is = elim (cases_eq j i) [
  | inl e ↦ subst P (sym (cond-true (j == i) a (f j) (eq-eqb j i e))) (here_is e)
  | inr n ↦ subst P (sym (cond-false (j == i) a (f j) (ne_eqb j i n))) (other_is n)
]

pub true_append : (nodes : ℕ) (table : ℕ → List ℕ) (qs rs : List Record) → AreTrueOf nodes table qs → AreTrueOf nodes table rs → AreTrueOf nodes table (qs ++ rs)
true_append nodes table [] rs p q = q
true_append nodes table (r ∷ qs) rs p q = (p.0, true_append nodes table qs rs p.1 q)

puts : {A : Type 0} → PutLaws A
puts = record {
  here = λ f i j a e. cond-true (j == i) a (f j) (eq-eqb j i e);
  elsewhere = λ f i j a n. cond-false (j == i) a (f j) (ne_eqb j i n);
}

pub party_laws : PartyLaws
party_laws = record { parties = puts; members = puts; true_append = true_append }

pub is_there : (o : Option ℕ) → is_some o ≡ true → (k : ℕ) × (o ≡ Some k)
is_there None h = absurd (false≢true h)
is_there (Some k) h = (k, refl)

-- a fact that holds anyway holds at an error
pub on_err : {T E P : Type 0} (r : Result T E) → P → OnErr r P
on_err (Ok x) p = tt
on_err (Err e) p = p
