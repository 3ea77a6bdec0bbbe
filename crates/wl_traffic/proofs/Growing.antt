-- Lists and folds that grow by one.
use Rattle.std.proofs.Common.{◌≡◌, ◌∙◌, sym, ap, arith, refl, zero-add, add-one, ℕ, suc, Bool, true, false, ◌&&◌, ◌||◌, ◌+◌, ◌*◌, ◌/◌, ◌%◌, ◌<◌, ◌≤◌, List, [], ◌∷◌, ◌++◌, length, fold, nat_lt, is_some, Option, Some, get_or, take, append-nil}
use Rattle.std.specs.List.{All, flat_map, list_all, list_any, range_with_len}
use Rattle.std.proofs.Math.Nat.{add-mul, mul_assoc, div-add-mod, mul-add-div}
use Rattle.std.proofs.lemmas.List.{take_more}
use Rattle.std.proofs.lemmas.List.Concat.{flat_map-append}
use Rattle.std.proofs.lemmas.List.Folds.{list_all-append, list_any-append}
use Rattle.std.proofs.lemmas.List.Sums.{fold-append}
use Rattle.std.proofs.lemmas.Bool.{cond_both}
use Rattle.wl_delivery.specs.declared.joining.Joining.{Joining}
use Rattle.wl_delivery.specs.Joining.{joining_by, joining_with}
use Rattle.wl_level.specs.declared.Level.TheVariants.{Dominant, Recessive}
use Rattle.wl_level.proofs.Callers.{range_more}
use Rattle.wl_level.specs.declared.Level.{Level}
use Rattle.wl_node.specs.Limits.{most_run_quanta}
use Rattle.wl_traffic.specs.Known.{IsKnownQuantum}

-- what one element more gives
pub flat_more : {X A : Type 0} (f : X → List A) (xs : List X) (i : ℕ) (d : X) → i < length xs
    → flat_map f (take (i + 1) xs) ≡ flat_map f (take i xs) ++ f (get_or xs i d)
flat_more f xs i d within =
    ap (flat_map f) (take_more xs i d within) ∙ flat_map-append f (take i xs) (get_or xs i d ∷ [])
    ∙ ap (λ ys. flat_map f (take i xs) ++ ys) (append-nil (f (get_or xs i d)))

-- what one number more gives
below_more : {A : Type 0} (f : List ℕ → A) (n : ℕ) → f (range_with_len 0 (n + 1)) ≡ f (range_with_len 0 n ++ n ∷ [])
below_more f n = ap f (ap (range_with_len 0) (add-one n) ∙ range_more 0 n ∙ ap (λ x. range_with_len 0 n ++ x ∷ []) (zero-add n))

pub any_below_more : (p : ℕ → Bool) (n : ℕ) → list_any p (range_with_len 0 (n + 1)) ≡ (list_any p (range_with_len 0 n) || p n)
any_below_more p n =
    below_more (list_any p) n ∙ list_any-append p (range_with_len 0 n) (n ∷ [])
    ∙ ap (λ b. list_any p (range_with_len 0 n) || b) (elim (p n) as (λ v. (v || false) ≡ v) [ true ↦ refl | false ↦ refl ])

pub all_below_more : (p : ℕ → Bool) (n : ℕ) → list_all p (range_with_len 0 (n + 1)) ≡ (list_all p (range_with_len 0 n) && p n)
all_below_more p n =
    below_more (list_all p) n ∙ list_all-append p (range_with_len 0 n) (n ∷ [])
    ∙ ap (λ b. list_all p (range_with_len 0 n) && b) (elim (p n) as (λ v. (v && true) ≡ v) [ true ↦ refl | false ↦ refl ])

pub fold_below_more : {A : Type 0} (f : A → ℕ → A) (a : A) (n : ℕ) → fold f a (range_with_len 0 (n + 1)) ≡ f (fold f a (range_with_len 0 n)) n
fold_below_more f a n = below_more (fold f a) n ∙ fold-append f a (range_with_len 0 n) (n ∷ [])

pub flat_below_more : {A : Type 0} (f : ℕ → List A) (n : ℕ) → flat_map f (range_with_len 0 (n + 1)) ≡ flat_map f (range_with_len 0 n) ++ f n
flat_below_more f n =
    below_more (flat_map f) n ∙ flat_map-append f (range_with_len 0 n) (n ∷ []) ∙ ap (λ ys. flat_map f (range_with_len 0 n) ++ ys) (append-nil (f n))

-- the last of known quanta is known
pub last_known : (samples : List (ℕ × Level)) (last : Option ℕ) → IsKnownQuantum last → All (λ s. s.0 ≤ most_run_quanta) samples
    → IsKnownQuantum (fold (λ (at : Option ℕ) (s : ℕ × Level). Some s.0) last samples)
last_known [] last k h = k
last_known (s ∷ samples) last k h = last_known samples (Some s.0) (h 0 s (omega arith)) (λ i d b. h (suc i) d (omega arith))

-- and so that at which a node takes part at first
pub joined_known : (samples : List (ℕ × Level)) (j : Joining) → IsKnownQuantum j.at → All (λ s. s.0 ≤ most_run_quanta) samples
    → IsKnownQuantum (fold joining_with j samples).at
joined_known [] j k h = k
joined_known (s ∷ samples) j k h = joined_known samples (joining_with j s) (one j s k (h 0 s (omega arith))) (λ i d b. h (suc i) d (omega arith))
  where
    by : (j : Joining) (quantum : ℕ) (level : Level) → IsKnownQuantum j.at → quantum ≤ most_run_quanta → IsKnownQuantum (joining_by j quantum level).at
    by j quantum Dominant k le = k
    by j quantum Recessive k le = cond_both (nat_lt j.run 10) (record j { run = j.run + 1 }) (record j { at = Some quantum }) (λ (x : Joining). IsKnownQuantum x.at) (λ yes. k) (λ no. le)

    one : (j : Joining) (s : ℕ × Level) → IsKnownQuantum j.at → s.0 ≤ most_run_quanta → IsKnownQuantum (joining_with j s).at
    one j (quantum, level) k le = cond_both (is_some j.at) j (joining_by j quantum level) (λ (x : Joining). IsKnownQuantum x.at) (λ yes. k) (λ no. by j quantum level k le)

-- a mean by parts, so that it stays below 2^128
parts : (n s : ℕ) → n * (s / n * 100) + s % n * 100 ≡ s * 100
parts n s = ap (λ x. x + s % n * 100) (sym (mul_assoc n (s / n) 100)) ∙ sym (add-mul (n * (s / n)) (s % n) 100) ∙ ap (λ x. x * 100) (div-add-mod s n)

pub mean_by_parts : (n s : ℕ) → 0 < n → s / n * 100 + s % n * 100 / n ≡ s * 100 / n
mean_by_parts n s some = sym (mul-add-div some (s / n * 100) (s % n * 100)) ∙ ap (λ x. x / n) (parts n s)
