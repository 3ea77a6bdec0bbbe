-- The greatest deviation that the segments tolerate, by division.
use Rattle.std.proofs.Common.{ℕ, ◌-◌, ◌*◌, ◌/◌, ◌<◌, ◌≤◌, min, arith}
use Rattle.std.proofs.Math.Nat.{div-mul-le_self, mul-le-mul_right}
use Rattle.std.proofs.lemmas.Nat.{le-div}
use Rattle.wl_segments.specs.Lengths.{Lengths, AreLengths, IsTolerated, bit_quanta}

-- the greatest deviation by the length of 13 bits but for PHASE_SEG2, and by that of 10 bits
abbrev pub flagged_ppm : Lengths → ℕ
flagged_ppm l = 1000000 * min l.ps1 l.ps2 / (2 * (13 * bit_quanta l - l.ps2))

abbrev pub stuffed_ppm : Lengths → ℕ
stuffed_ppm l = 1000000 * l.sjw / (20 * bit_quanta l)

-- what is at most a quotient passes the inequality, and what passes it is at most the quotient
times_two : (n x m : ℕ) → n ≤ m / (2 * x) → 2 * n * x ≤ m
times_two n x m h =
    let below : n * (2 * x) ≤ m / (2 * x) * (2 * x) = mul-le-mul_right (2 * x) h in
    omega (arith, div-mul-le_self m (2 * x))

halved : (n x m : ℕ) → 0 < x → 2 * n * x ≤ m → n ≤ m / (2 * x)
halved n x m h low = le-div n m (2 * x) (omega arith) (omega arith)

times_twenty : (n x m : ℕ) → n ≤ m / (20 * x) → 20 * n * x ≤ m
times_twenty n x m h =
    let below : n * (20 * x) ≤ m / (20 * x) * (20 * x) = mul-le-mul_right (20 * x) h in
    omega (arith, div-mul-le_self m (20 * x))

parted : (n x m : ℕ) → 0 < x → 20 * n * x ≤ m → n ≤ m / (20 * x)
parted n x m h low = le-div n m (20 * x) (omega arith) (omega arith)

-- a deviation is tolerated exactly where it is at most both quotients
pub tolerated : (l : Lengths) (n : ℕ) → n ≤ flagged_ppm l → n ≤ stuffed_ppm l → IsTolerated l n
tolerated l n flagged stuffed = record {
  flagged = times_two n (13 * bit_quanta l - l.ps2) (1000000 * min l.ps1 l.ps2) flagged;
  stuffed = times_twenty n (bit_quanta l) (1000000 * l.sjw) stuffed;
}

pub tolerated_low : (l : Lengths) → AreLengths l → (n : ℕ) → IsTolerated l n → n ≤ min (flagged_ppm l) (stuffed_ppm l)
tolerated_low l h n t =
    let long : 0 < bit_quanta l = omega arith in
    let far : 0 < 13 * bit_quanta l - l.ps2 = omega arith in
    let flagged : n ≤ flagged_ppm l = halved n (13 * bit_quanta l - l.ps2) (1000000 * min l.ps1 l.ps2) far t.flagged in
    let stuffed : n ≤ stuffed_ppm l = parted n (bit_quanta l) (1000000 * l.sjw) long t.stuffed in
    omega arith
