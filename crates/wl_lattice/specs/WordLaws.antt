-- The two words keep the laws, and what can be read back from a joined one.
use Rattle.std.specs.Prelude.{◌≡◌, ◌⊎◌, ℕ, refl}
use Rattle.std.proofs.Common.{ap, arith, sym, ◌∙◌, inl, inr}
use Rattle.std.proofs.lemmas.Bool.{cases_eq}
use Rattle.std.proofs.lemmas.Bool.Decides.{nat_tests}
use Rattle.wl_lattice.specs.Laws.{JoinLaws}
use Rattle.wl_lattice.specs.Words.{max_word, joined_max, joined_flat}
use Rattle.wl_lattice.specs.declared.MaxWord.{MaxWord}
use Rattle.wl_lattice.specs.declared.FlatWord.{FlatWord}
use Rattle.wl_lattice.specs.declared.FlatWord.TheVariants.{Nothing, Value, Clash}

pub max_laws : JoinLaws (λ (w : MaxWord). Unit {0}) (max_word 0) joined_max
max_laws = record {
  commutes = λ a b. ap max_word (omega arith);
  associates = λ a b c. ap max_word (omega arith);
  idempotent = λ a. ap max_word (omega arith);
  neutral = λ a h. ap max_word (omega arith);
  is_word-least = tt;
  is_word-joined = λ a b p q. tt;
}

flat_commutes : (a b : FlatWord) → joined_flat a b ≡ joined_flat b a
flat_commutes Nothing Nothing = refl
flat_commutes Nothing (Value y) = refl
flat_commutes Nothing Clash = refl
flat_commutes (Value x) Nothing = refl
flat_commutes (Value x) (Value y) = grind (arith, nat_tests)
flat_commutes (Value x) Clash = refl
flat_commutes Clash Nothing = refl
flat_commutes Clash (Value y) = refl
flat_commutes Clash Clash = refl

three_values : (x y z : ℕ) → joined_flat (joined_flat (Value x) (Value y)) (Value z) ≡ joined_flat (Value x) (joined_flat (Value y) (Value z))
three_values x y z = grind (arith, nat_tests)

clash_last : (x y : ℕ) → joined_flat (joined_flat (Value x) (Value y)) Clash ≡ Clash
clash_last x y = grind (arith, nat_tests)

nothing_last : (x y : ℕ) → joined_flat (joined_flat (Value x) (Value y)) Nothing ≡ joined_flat (Value x) (Value y)
nothing_last x y = grind (arith, nat_tests)

flat_associates : (a b c : FlatWord) → joined_flat (joined_flat a b) c ≡ joined_flat a (joined_flat b c)
flat_associates Nothing b c = refl
flat_associates (Value x) Nothing c = refl
flat_associates (Value x) (Value y) Nothing = nothing_last x y
flat_associates (Value x) (Value y) (Value z) = three_values x y z
flat_associates (Value x) (Value y) Clash = clash_last x y
flat_associates (Value x) Clash c = refl
flat_associates Clash b c = refl

flat_idempotent : (a : FlatWord) → joined_flat a a ≡ a
flat_idempotent Nothing = refl
flat_idempotent (Value x) = grind (arith, nat_tests)
flat_idempotent Clash = refl

pub flat_laws : JoinLaws (λ (w : FlatWord). Unit {0}) Nothing joined_flat
flat_laws = record {
  commutes = flat_commutes;
  associates = flat_associates;
  idempotent = flat_idempotent;
  neutral = λ a h. refl;
  is_word-least = tt;
  is_word-joined = λ a b p q. tt;
}

-- ---- what can be read back
same_values : (x y : ℕ) → x ≡ y → joined_flat (Value x) (Value y) ≡ Value x
same_values x y e = grind (arith, nat_tests)

other_values : (x y : ℕ) → ¬ (x ≡ y) → joined_flat (Value x) (Value y) ≡ Clash
other_values x y n = grind (arith, nat_tests)

pub value_from : (a b : FlatWord) (x : ℕ) → joined_flat a b ≡ Value x → (a ≡ Value x) ⊎ (b ≡ Value x)
value_from Nothing b x h = inr h
value_from (Value y) Nothing x h = inl h
value_from (Value y) (Value z) x h = elim (cases_eq y z) [
  | inl e ↦ inl (sym (same_values y z e) ∙ h)
  | inr n ↦ absurd (let c : Clash ≡ Value x = sym (other_values y z n) ∙ h in cc)
]
value_from (Value y) Clash x h = cc
value_from Clash b x h = cc

pub clash_from : (a b : FlatWord) → joined_flat a b ≡ Clash
    → (a ≡ Clash) ⊎ ((b ≡ Clash) ⊎ ((x : ℕ) × (y : ℕ) × (a ≡ Value x) × (b ≡ Value y) × ¬ (x ≡ y)))
clash_from Nothing b h = inr (inl h)
clash_from (Value x) Nothing h = cc
clash_from (Value x) (Value y) h = elim (cases_eq x y) [
  | inl e ↦ absurd (let c : Value x ≡ Clash = sym (same_values x y e) ∙ h in cc)
  | inr n ↦ inr (inr (x, y, refl, refl, n))
]
clash_from (Value x) Clash h = inr (inl refl)
clash_from Clash b h = inl refl

pub value_stays : (x : ℕ) (b : FlatWord) → (joined_flat (Value x) b ≡ Value x) ⊎ (joined_flat (Value x) b ≡ Clash)
value_stays x Nothing = inl refl
value_stays x (Value y) = elim (cases_eq x y) [ inl e ↦ inl (same_values x y e) | inr n ↦ inr (other_values x y n) ]
value_stays x Clash = inr refl

pub value_kept : (x : ℕ) (b : FlatWord) → joined_flat (Value x) b ≡ b → ¬ (b ≡ Clash) → b ≡ Value x
value_kept x b h n = elim (value_stays x b) [ inl e ↦ sym h ∙ e | inr e ↦ absurd (n (sym h ∙ e)) ]
