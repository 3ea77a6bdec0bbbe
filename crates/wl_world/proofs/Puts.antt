-- A fact of a family with one put at a place: it holds there, and it held elsewhere.
use Rattle.std.proofs.Common.{◌≡◌, ℕ, inl, inr, sym, subst}
use Rattle.std.proofs.lemmas.Bool.{cases_eq}
use Rattle.wl_group.specs.Party.{put}
use Rattle.wl_group.specs.PartyLaws.{PutLaws}

pub put_at : {A : Type 0} → PutLaws A → (f : ℕ → A) (i : ℕ) (a : A) (P : A → Type 0) (j : ℕ) → (j ≡ i → P a) → ((j ≡ i → ⊥) → P (f j)) → P (put f i a j)
put_at puts f i a P j here elsewhere = elim (cases_eq j i) [
  | inl e ↦ subst P (sym (puts.here f i j a e)) (here e)
  | inr n ↦ subst P (sym (puts.elsewhere f i j a n)) (elsewhere n)
]
