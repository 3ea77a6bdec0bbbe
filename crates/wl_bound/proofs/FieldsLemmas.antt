-- The arbitration field of a frame as its bits spell it is the number by which a queue picks it.
use Rattle.std.proofs.Common.{◌≡◌, ◌∙◌, refl, ap, ℕ, zero, suc, ◌+◌, ◌*◌, ◌/◌, ◌%◌, ◌^◌, ◌<◌, List, Bool, true, false, arith}
use Rattle.std.specs.Prelude.{◌==◌}
use Rattle.std.specs.Int.{bit_at}
use Rattle.std.proofs.lemmas.Nat.Bits.{bit_at-lt}
use Rattle.std.proofs.lemmas.Nat.{mod-pow-add}
use Rattle.wl_frame.specs.Crc.{level_of_bit}
use Rattle.wl_frame.specs.Grammar.{Content, IsContent, bits_of}
use Rattle.wl_frame.specs.Header.{number_bits, one_bit}
use Rattle.wl_node.specs.Queues.{field_number}
use Rattle.wl_bound.specs.Fields.{bit_number, field_of, first_bits}

-- bit k of a number, as its level spells it
abbrev spelled : ℕ → ℕ → ℕ
spelled n k = bit_number (level_of_bit (bit_at n k == 1))

spelled_is : (n k : ℕ) → spelled n k ≡ bit_at n k
spelled_is n k = by (bit_at n k) (bit_at-lt n k)
  where
    by : (b : ℕ) → b < 2 → bit_number (level_of_bit (b == 1)) ≡ b
    by zero less = refl
    by (suc zero) less = refl
    by (suc (suc b)) less = absurd (omega arith)

-- a number, and the k low bits of another one after it
abbrev followed_by : (k x n : ℕ) → ℕ
followed_by zero x n = x
followed_by (suc k) x n = followed_by k (2 * x + spelled n k) n

low_bits : (n k : ℕ) → n % 2 ^ suc k ≡ bit_at n k * 2 ^ k + n % 2 ^ k
low_bits n k = ap (λ j. n % 2 ^ j) (let e : suc k ≡ 1 + k = omega arith in e) ∙ mod-pow-add n 1 k

followed_is : (k x n : ℕ) → followed_by k x n ≡ x * 2 ^ k + n % 2 ^ k
followed_is zero x n = omega arith
followed_is (suc k) x n =
    let rest = followed_is k (2 * x + spelled n k) n in
    let one = spelled_is n k in
    let low = low_bits n k in
    let p : 2 ^ suc k ≡ 2 * 2 ^ k = omega arith in
    let e : spelled n k * 2 ^ k ≡ bit_at n k * 2 ^ k = ap (λ b. b * 2 ^ k) one in
    let f : x * 2 ^ suc k ≡ x * (2 * 2 ^ k) = ap (λ y. x * y) p in
    omega arith

-- the fields of both formats
base_bits : (id dlc : ℕ) (remote : Bool) (bytes : List ℕ) → first_bits (bits_of (record { extended = false; id = id; remote = remote; dlc = dlc; bytes = bytes })) 12 ≡ followed_by 1 (followed_by 11 0 id) (one_bit remote)
unfolding bits_of number_bits
base_bits id dlc remote bytes = refl

extended_bits : (id dlc : ℕ) (remote : Bool) (bytes : List ℕ) → first_bits (bits_of (record { extended = true; id = id; remote = remote; dlc = dlc; bytes = bytes })) 32
    ≡ followed_by 1 (followed_by 18 (2 * (2 * followed_by 11 0 (id / 2 ^ 18) + 1) + 1) (id % 2 ^ 18)) (one_bit remote)
unfolding bits_of number_bits
extended_bits id dlc remote bytes = refl

same_bit : (remote : Bool) → one_bit remote % 2 ^ 1 ≡ one_bit remote
same_bit true = refl
same_bit false = refl

number_is : (extended : Bool) (id dlc : ℕ) (remote : Bool) (bytes : List ℕ) → IsContent (record { extended = extended; id = id; remote = remote; dlc = dlc; bytes = bytes })
    → field_of (record { extended = extended; id = id; remote = remote; dlc = dlc; bytes = bytes }) ≡ field_number (record { extended = extended; id = id; remote = remote; dlc = dlc; bytes = bytes })
unfolding field_of
number_is true id dlc remote bytes is =
    let bits = extended_bits id dlc remote bytes in
    let high = followed_is 11 0 (id / 2 ^ 18) in
    let low = followed_is 18 (2 * (2 * followed_by 11 0 (id / 2 ^ 18) + 1) + 1) (id % 2 ^ 18) in
    let last = followed_is 1 (followed_by 18 (2 * (2 * followed_by 11 0 (id / 2 ^ 18) + 1) + 1) (id % 2 ^ 18)) (one_bit remote) in
    let bit = same_bit remote in
    let most = is.id in
    let fits : id / 2 ^ 18 < 2 ^ 11 = omega arith in
    let all : id / 2 ^ 18 % 2 ^ 11 ≡ id / 2 ^ 18 = omega arith in
    omega arith
number_is false id dlc remote bytes is =
    let bits = base_bits id dlc remote bytes in
    let high = followed_is 11 0 id in
    let last = followed_is 1 (followed_by 11 0 id) (one_bit remote) in
    let bit = same_bit remote in
    let most = is.id in
    omega arith

-- the two numbers are one
pub one_number : (c : Content) → IsContent c → field_of c ≡ field_number c
one_number c is = number_is c.extended c.id c.dlc c.remote c.bytes is
