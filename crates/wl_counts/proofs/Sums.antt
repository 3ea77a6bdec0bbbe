-- Sums below a number, and a sum over frames as one over messages.
use Rattle.std.proofs.Common.{◌≡◌, ◌∙◌, ap, refl, sym, ℕ, zero, suc, ◌+◌, ◌*◌, ◌<◌, ◌≤◌, eqb, arith, inl, inr}
use Rattle.std.proofs.Math.Nat.{mul-le-mul_right}
use Rattle.std.proofs.lemmas.Bool.{cases_eq, eq-eqb, ne_eqb}
use Rattle.wl_counts.specs.Counts.{one_if, sum_below, message_count}

pub sum_le : (f g : ℕ → ℕ) (n : ℕ) → ((k : ℕ) → k < n → f k ≤ g k) → sum_below f n ≤ sum_below g n
sum_le f g zero h = omega arith
sum_le f g (suc n) h =
    let old : sum_below f n ≤ sum_below g n = sum_le f g n (λ k below. h k (omega arith)) in
    let last : f n ≤ g n = h n (omega arith) in
    omega arith

pub sum_same : (f g : ℕ → ℕ) (n : ℕ) → ((k : ℕ) → k < n → f k ≡ g k) → sum_below f n ≡ sum_below g n
sum_same f g zero h = refl
sum_same f g (suc n) h =
    let old : sum_below f n ≡ sum_below g n = sum_same f g n (λ k below. h k (omega arith)) in
    let last : f n ≡ g n = h n (omega arith) in
    omega arith

pub sum_zero : (f : ℕ → ℕ) (n : ℕ) → ((k : ℕ) → k < n → f k ≡ 0) → sum_below f n ≡ 0
sum_zero f zero h = refl
sum_zero f (suc n) h =
    let old : sum_below f n ≡ 0 = sum_zero f n (λ k below. h k (omega arith)) in
    let last : f n ≡ 0 = h n (omega arith) in
    omega arith

pub sum_plus : (f g : ℕ → ℕ) (n : ℕ) → sum_below (λ k. f k + g k) n ≡ sum_below f n + sum_below g n
sum_plus f g zero = refl
sum_plus f g (suc n) =
    let old : sum_below (λ k. f k + g k) n ≡ sum_below f n + sum_below g n = sum_plus f g n in
    omega arith

-- the one message that a frame is of
once : (d e : ℕ) (c : ℕ → ℕ) → d ≡ e → one_if (eqb d e) * c e ≡ c e
once d e c same = ap (λ b. one_if b * c e) (eq-eqb d e same) ∙ (let h : 1 * c e ≡ c e = omega arith in h)

never : (d e : ℕ) (c : ℕ → ℕ) → (d ≡ e → ⊥) → one_if (eqb d e) * c e ≡ 0
never d e c other = ap (λ b. one_if b * c e) (ne_eqb d e other) ∙ (let h : 0 * c e ≡ 0 = omega arith in h)

sum_past : (d : ℕ) (c : ℕ → ℕ) (n : ℕ) → n ≤ d → sum_below (λ e. one_if (eqb d e) * c e) n ≡ 0
sum_past d c n h = sum_zero (λ e. one_if (eqb d e) * c e) n (λ e below. never d e c (λ same. omega arith))

sum_one : (d : ℕ) (c : ℕ → ℕ) (n : ℕ) → d < n → sum_below (λ e. one_if (eqb d e) * c e) n ≡ c d
sum_one d c zero h = absurd (omega arith)
sum_one d c (suc n) h = elim (cases_eq d n) [
  | inl same ↦
      (let before : sum_below (λ e. one_if (eqb d e) * c e) n ≡ 0 = sum_past d c n (omega arith) in
      let here : one_if (eqb d n) * c n ≡ c n = once d n c same in
      let cost : c n ≡ c d = ap c (sym same) in
      omega arith)
  | inr other ↦
      (let less : d < n = omega arith in
      let before : sum_below (λ e. one_if (eqb d e) * c e) n ≡ c d = sum_one d c n less in
      let here : one_if (eqb d n) * c n ≡ 0 = never d n c other in
      omega arith)
]

pub by_messages : (message cost : ℕ → ℕ) (n messages : ℕ) → ((k : ℕ) → k < n → message k < messages)
    → sum_below (λ k. cost (message k)) n ≡ sum_below (λ e. message_count message e n * cost e) messages
by_messages message cost zero messages known =
    let none : sum_below (λ e. message_count message e 0 * cost e) messages ≡ 0 = sum_zero (λ e. message_count message e 0 * cost e) messages (λ e below. let h : 0 * cost e ≡ 0 = omega arith in h) in
    sym none
by_messages message cost (suc n) messages known =
    let old : sum_below (λ k. cost (message k)) n ≡ sum_below (λ e. message_count message e n * cost e) messages =
    by_messages message cost n messages (λ k below. known k (omega arith)) in
    let last : sum_below (λ e. one_if (eqb (message n) e) * cost e) messages ≡ cost (message n) = sum_one (message n) cost messages (known n (omega arith)) in
    let both : sum_below (λ e. message_count message e n * cost e + one_if (eqb (message n) e) * cost e) messages ≡ sum_below (λ e. message_count message e n * cost e) messages + sum_below (λ e. one_if (eqb (message n) e) * cost e) messages =
    sum_plus (λ e. message_count message e n * cost e) (λ e. one_if (eqb (message n) e) * cost e) messages in
    let split : sum_below (λ e. message_count message e (suc n) * cost e) messages ≡ sum_below (λ e. message_count message e n * cost e + one_if (eqb (message n) e) * cost e) messages =
    sum_same (λ e. message_count message e (suc n) * cost e) (λ e. message_count message e n * cost e + one_if (eqb (message n) e) * cost e) messages
    (λ e below. apart (message_count message e n) (one_if (eqb (message n) e)) (cost e)) in
    omega arith
  where
    apart : (a b c : ℕ) → (a + b) * c ≡ a * c + b * c
    apart a b c = omega arith

pub by_counts : (message cost most : ℕ → ℕ) (n messages : ℕ) → ((k : ℕ) → k < n → message k < messages) → ((e : ℕ) → e < messages → message_count message e n ≤ most e) → sum_below (λ k. cost (message k)) n ≤ sum_below (λ e. most e * cost e) messages
by_counts message cost most n messages known few =
    let e1 = by_messages message cost n messages known in
    let e2 = sum_le (λ e. message_count message e n * cost e) (λ e. most e * cost e) messages (λ e below. mul-le-mul_right (cost e) (few e below)) in
    omega arith
