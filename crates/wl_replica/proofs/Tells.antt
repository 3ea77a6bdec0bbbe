-- The two tests tell the words that hold something.
use Rattle.std.specs.Prelude.{◌≡◌, ℕ, suc, max, Bool, true, false, not, ◌||◌, ◌==◌, if◌then◌else◌, cond, None, Some, List, [], ◌∷◌, refl}
use Rattle.std.specs.List.{cons_option}
use Rattle.std.proofs.Common.{ap, sym, ◌∙◌, arith}
use Rattle.std.proofs.lemmas.Bool.Decides.{nat_tests}
use Rattle.wl_lattice.specs.declared.FlatWord.{FlatWord}
use Rattle.wl_lattice.specs.declared.FlatWord.TheVariants.{Nothing, Value, Clash}
use Rattle.wl_lattice.specs.Words.{joined_flat, joined_max, max_word}
use Rattle.std.specs.FinMap.{empty, same_map, get-from_sorted, get-empty}
use Rattle.wl_replica.specs.Dense.{words_shown}
use Rattle.wl_replica.specs.Keys.{Key, key_cmp}
use Rattle.wl_replica.proofs.KeyLaws.{key_cmp_total, exact_keys}
use Rattle.wl_replica.specs.Dense.{holds_edge, holds_silence}
use Rattle.wl_replica.proofs.Shown.{Tells}

two_values : (b : Bool) (x : ℕ) → holds_edge (if b then Value x else Clash) ≡ true
two_values true x = refl
two_values false x = refl

over_edge : (v w : FlatWord) → holds_edge (joined_flat v w) ≡ (holds_edge v || holds_edge w)
over_edge Nothing w = refl
over_edge (Value x) Nothing = refl
over_edge (Value x) (Value y) = two_values (x == y) x
over_edge (Value x) Clash = refl
over_edge Clash w = refl

empty_edge : (w : FlatWord) → holds_edge w ≡ false → w ≡ Nothing
empty_edge Nothing e = refl
empty_edge (Value x) e = cc
empty_edge Clash e = cc

pub right_edge : (w : FlatWord) → joined_flat w Nothing ≡ w
right_edge Nothing = refl
right_edge (Value x) = refl
right_edge Clash = refl

same_value : (x : ℕ) → (x == x) ≡ true
same_value x = grind (arith, nat_tests)

pub flat_same : (w : FlatWord) → joined_flat w w ≡ w
flat_same Nothing = refl
flat_same (Value x) = ap (λ b. if b then Value x else Clash) (same_value x)
flat_same Clash = refl

pub next_false : (a b : ℕ) → (suc a == suc b) ≡ false → (a == b) ≡ false
next_false a b h = grind (arith, nat_tests)

pub tells_edge : Tells Nothing joined_flat holds_edge
tells_edge = record { none = refl; over = over_edge; empty = empty_edge; left = λ w. refl; right = right_edge }

over_number : (m n : ℕ) → not (max m n == 0) ≡ (not (m == 0) || not (n == 0))
over_number m n = grind (arith, nat_tests)

empty_number : (n : ℕ) → not (n == 0) ≡ false → n ≡ 0
empty_number n e = grind (arith, nat_tests)

pub tells_silence : Tells (max_word 0) joined_max holds_silence
tells_silence = record {
  none = refl;
  over = λ v w. over_number v.word w.word;
  empty = λ w e. ap max_word (empty_number w.word e);
  left = λ w. ap max_word (omega arith);
  right = λ w. ap max_word (omega arith);
}

pub shown_nothing : {W : Type 0} (holds : W → Bool) (es : List (Key × W)) → es ≡ [] → words_shown holds es ≡ empty {R = key_cmp}
shown_nothing holds es e = ap (words_shown holds) e ∙ same_map key_cmp_total exact_keys _ _ (λ q. get-from_sorted key_cmp [] q tt ∙ sym (get-empty key_cmp q))

pub one_silence : {A : Type 0} (b : Bool) (x : A) → cond (not b) (x ∷ []) [] ≡ cons_option (if b then None else Some x) []
one_silence true x = refl
one_silence false x = refl
