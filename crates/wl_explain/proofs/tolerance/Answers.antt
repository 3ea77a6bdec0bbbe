use Rattle.std.proofs.Common.{◌≡◌, ℕ, ◌*◌, ◌-◌, ◌/◌, ◌<◌, ◌≤◌, min, arith}
use Rattle.std.proofs.Math.Nat.{le-div_iff_mul-le, le-min, min-le_left, min-le_right}
use Rattle.wl_segments.specs.Lengths.{bit_quanta}
use Rattle.wl_explain.specs.Figures.{tolerance}
use Rattle.wl_explain.proofs.tolerance.Goals as goal

-- what is within two quotients is within the lesser of them
within : (x m d n e : ℕ) → 0 < d → 0 < e → 2 * x * d ≤ m → 20 * x * e ≤ n → x ≤ min (m / (2 * d)) (n / (20 * e))
within x m d n e p q h k =
    let a : x * (2 * d) ≤ m = omega (arith, h) in
    let b : x * (20 * e) ≤ n = omega (arith, k) in
    le-min ((le-div_iff_mul-le {k = 2 * d} {x = x} {y = m} (omega (arith, p))).1 a) ((le-div_iff_mul-le {k = 20 * e} {x = x} {y = n} (omega (arith, q))).1 b)

flagged : (x m d : ℕ) → 0 < d → x ≤ m / (2 * d) → 2 * x * d ≤ m
flagged x m d p h = let a : x * (2 * d) ≤ m = (le-div_iff_mul-le {k = 2 * d} {x = x} {y = m} (omega (arith, p))).0 h in omega (arith, a)

stuffed : (x n e : ℕ) → 0 < e → x ≤ n / (20 * e) → 20 * x * e ≤ n
stuffed x n e p h = let a : x * (20 * e) ≤ n = (le-div_iff_mul-le {k = 20 * e} {x = x} {y = n} (omega (arith, p))).0 h in omega (arith, a)

both : (a b : ℕ) → a ≤ b → b ≤ a → a ≡ b
both a b h k = omega (arith, h, k)

pub returns : goal.returns
returns c =
    let l = c.args.segments.now in
    let t = c.greatest_ppm.result in
    let d : ℕ = 13 * bit_quanta l - l.ps2 in
    let e : ℕ = bit_quanta l in
    let m : ℕ = 1000000 * min l.ps1 l.ps2 in
    let n : ℕ = 1000000 * l.sjw in
    let p : 0 < d = omega arith in
    let q : 0 < e = omega arith in
    both t (tolerance l) (within t m d n e p q c.greatest_ppm.ensures.reached.flagged c.greatest_ppm.ensures.reached.stuffed)
    (c.greatest_ppm.ensures.greatest (tolerance l) (record {
      flagged = flagged (tolerance l) m d p (min-le_left (m / (2 * d)) (n / (20 * e)));
      stuffed = stuffed (tolerance l) n e q (min-le_right (m / (2 * d)) (n / (20 * e)));
    }))
