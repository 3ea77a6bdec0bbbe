-- Small facts that proofs of this crate share: of options, numbers and orders, of words, and of a run of edges.
use Rattle.std.proofs.Common.{◌≡◌, ◌⊎◌, inl, inr, ℕ, zero, suc, ◌<◌, ◌||◌, true, false, Option, Some, None, max, nat_lt, refl, sym, subst, arith}
use Rattle.std.specs.Prelude.{◌==◌}
use Rattle.std.proofs.lemmas.Bool.{and_parts, cases_eq, cases_lt, false≢true}
use Rattle.std.proofs.lemmas.Bool.Decides.{nat_tests}
use Rattle.wl_lattice.specs.declared.FlatWord.{FlatWord}
use Rattle.wl_lattice.specs.declared.FlatWord.TheVariants as flat
use Rattle.wl_lattice.specs.Maps.{joined_options}
use Rattle.wl_replica.specs.Known.{is_tick, tick_in, run_goes_on, is_run}

pub some_is : {A : Type 0} (a b : A) → Some a ≡ Some b → a ≡ b
some_is a b h = cc

pub nothing_more : {W : Type 0} (join : W → W → W) (a : Option W) → joined_options join a None ≡ a
nothing_more join None = refl
nothing_more join (Some v) = refl

pub max_cases : (a b : ℕ) → (max a b ≡ a) ⊎ (max a b ≡ b)
max_cases a b = elim (cases_lt a b) [ inl l ↦ inr (omega arith) | inr g ↦ inl (omega arith) ]

-- no number is below 0, and those below a next number
pub none_below : (m : ℕ) → false ≡ nat_lt m 0
none_below m = grind (arith, nat_tests)

pub below_next : (m n : ℕ) → nat_lt m (suc n) ≡ (nat_lt m n || (m == n))
below_next m n = grind (arith, nat_tests)

pub not_same : (m n : ℕ) → nat_lt m n ≡ true → (m == n) ≡ false
not_same m n h = grind (arith, nat_tests)

-- a word that is a tick is that tick
pub tick_is : (w : FlatWord) → is_tick w ≡ true → w ≡ flat.Value (tick_in w)
tick_is (flat.Value t) h = refl
tick_is flat.Nothing h = absurd (false≢true h)
tick_is flat.Clash h = absurd (false≢true h)

-- each edge of a run goes on
pub run_part : (e : ℕ → FlatWord) (s : ℕ → ℕ) (m n : ℕ) → is_run e s m ≡ true → n < m → run_goes_on e s n ≡ true
run_part e s zero n h b = absurd (omega arith)
run_part e s (suc m) n h b = elim (cases_eq n m) [
  | inl same ↦ subst (λ v. run_goes_on e s v ≡ true) (sym same) (and_parts _ _ h).1
  | inr other ↦ run_part e s m n (and_parts _ _ h).0 (omega arith)
]
