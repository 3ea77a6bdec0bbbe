-- Digits of a number, from those of its front and of its rest.
use Rattle.std.proofs.Common.{◌≡◌, arith, ℕ, ◌/◌, ◌%◌, ◌<◌, ◌∷◌, ◌++◌, false}
use Rattle.std.specs.Fmt.{digit_glyph}
use Rattle.wl_report.specs.Lines.{hexadecimal}

pub three_digits : (n : ℕ) → n < 4096 → digit_glyph false (n / 256) ∷ hexadecimal 2 (n % 256) ≡ hexadecimal 3 n
three_digits n small =
    let high : n / 16 / 16 % 16 ≡ n / 256 = omega arith in
    let mid : n % 256 / 16 % 16 ≡ n / 16 % 16 = omega arith in
    let low : n % 256 % 16 ≡ n % 16 = omega arith in
    rw (high, mid, low)

pub four_digits : (n : ℕ) → hexadecimal 2 (n / 256) ++ hexadecimal 2 (n % 256) ≡ hexadecimal 4 n
four_digits n =
    let front : n / 16 / 16 ≡ n / 256 = omega arith in
    let mid : n % 256 / 16 % 16 ≡ n / 16 % 16 = omega arith in
    let low : n % 256 % 16 ≡ n % 16 = omega arith in
    rw (front, mid, low)

pub eight_digits : (n : ℕ) → hexadecimal 4 (n / 65536) ++ hexadecimal 4 (n % 65536) ≡ hexadecimal 8 n
eight_digits n =
    let front : n / 16 / 16 / 16 / 16 ≡ n / 65536 = omega arith in
    let third : n % 65536 / 16 / 16 / 16 % 16 ≡ n / 16 / 16 / 16 % 16 = omega arith in
    let second : n % 65536 / 16 / 16 % 16 ≡ n / 16 / 16 % 16 = omega arith in
    let first : n % 65536 / 16 % 16 ≡ n / 16 % 16 = omega arith in
    let low : n % 65536 % 16 ≡ n % 16 = omega arith in
    rw (front, third, second, first, low)
