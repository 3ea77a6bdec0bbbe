-- Pairs and arrays of words keep the laws.
use Rattle.std.specs.Prelude.{◌≡◌, ℕ, max, List, [], ◌∷◌, length, replicate, All, refl}
use Rattle.std.proofs.Common.{arith}
use Rattle.std.proofs.lemmas.List.Elements.{All-cons, All-head, All-tail, All-replicate}
use Rattle.std.proofs.Math.ListN.{length-replicate}
use Prim.Native.Nat.{zero, suc}
use Rattle.wl_lattice.specs.Laws.{JoinLaws}
use Rattle.wl_lattice.specs.Products.{joined_lists, AreWords}

module _ {W : Type 0} {is_word : W → Type 0} {least : W} {joined : W → W → W} (laws : JoinLaws is_word least joined) where
  lists_commute : (xs ys : List W) → joined_lists joined xs ys ≡ joined_lists joined ys xs
  lists_commute [] [] = refl
  lists_commute [] (y ∷ ys) = refl
  lists_commute (x ∷ xs) [] = refl
  lists_commute (x ∷ xs) (y ∷ ys) = λ i. laws.commutes x y i ∷ lists_commute xs ys i

  lists_associate : (xs ys zs : List W) → joined_lists joined (joined_lists joined xs ys) zs ≡ joined_lists joined xs (joined_lists joined ys zs)
  lists_associate [] ys zs = refl
  lists_associate (x ∷ xs) [] zs = refl
  lists_associate (x ∷ xs) (y ∷ ys) [] = refl
  lists_associate (x ∷ xs) (y ∷ ys) (z ∷ zs) = λ i. laws.associates x y z i ∷ lists_associate xs ys zs i

  lists_idempotent : (xs : List W) → joined_lists joined xs xs ≡ xs
  lists_idempotent [] = refl
  lists_idempotent (x ∷ xs) = λ i. laws.idempotent x i ∷ lists_idempotent xs i

  lists_neutral : (n : ℕ) (xs : List W) → length xs ≡ n → All is_word xs → joined_lists joined (replicate n least) xs ≡ xs
  lists_neutral zero [] e h = refl
  lists_neutral zero (x ∷ xs) e h = refl
  lists_neutral (suc n) [] e h = absurd (omega arith)
  lists_neutral (suc n) (x ∷ xs) e h = λ i. laws.neutral x (All-head is_word x xs h) i ∷ lists_neutral n xs (omega arith) (All-tail is_word x xs h) i

  pub length-joined_lists : (xs ys : List W) → length (joined_lists joined xs ys) ≡ max (length xs) (length ys)
  length-joined_lists [] ys = omega arith
  length-joined_lists (x ∷ xs) [] = omega arith
  length-joined_lists (x ∷ xs) (y ∷ ys) = omega (arith, length-joined_lists xs ys)

  All-joined_lists : (xs ys : List W) → All is_word xs → All is_word ys → All is_word (joined_lists joined xs ys)
  All-joined_lists [] ys p q = q
  All-joined_lists (x ∷ xs) [] p q = p
  All-joined_lists (x ∷ xs) (y ∷ ys) p q =
      All-cons is_word _ _ (laws.is_word-joined x y (All-head is_word x xs p) (All-head is_word y ys q)) (All-joined_lists xs ys (All-tail is_word x xs p) (All-tail is_word y ys q))

  -- an array of words is a word
  pub array_laws : (n : ℕ) → JoinLaws (AreWords is_word n) (replicate n least) (joined_lists joined)
  array_laws n = record {
    commutes = lists_commute;
    associates = lists_associate;
    idempotent = lists_idempotent;
    neutral = λ a h. lists_neutral n a h.count h.each;
    is_word-least = record { count = length-replicate n least; each = All-replicate is_word n least laws.is_word-least };
    is_word-joined = λ a b p q. record { count = omega (arith, length-joined_lists a b, p.count, q.count); each = All-joined_lists a b p.each q.each };
  }

-- a pair of words is a word
pub pair_laws : {V W : Type 0} {is_v : V → Type 0} {is_w : W → Type 0} {v : V} {w : W} {join_v : V → V → V} {join_w : W → W → W}
    → JoinLaws is_v v join_v → JoinLaws is_w w join_w → JoinLaws (λ (p : V × W). is_v p.0 × is_w p.1) (v, w) (λ p q. (join_v p.0 q.0, join_w p.1 q.1))
pair_laws first second = record {
  commutes = λ a b i. (first.commutes a.0 b.0 i, second.commutes a.1 b.1 i);
  associates = λ a b c i. (first.associates a.0 b.0 c.0 i, second.associates a.1 b.1 c.1 i);
  idempotent = λ a i. (first.idempotent a.0 i, second.idempotent a.1 i);
  neutral = λ a h i. (first.neutral a.0 h.0 i, second.neutral a.1 h.1 i);
  is_word-least = (first.is_word-least, second.is_word-least);
  is_word-joined = λ a b p q. (first.is_word-joined a.0 b.0 p.0 q.0, second.is_word-joined a.1 b.1 p.1 q.1);
}
