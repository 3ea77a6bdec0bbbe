use Rattle.std.proofs.Common.{ℕ, ◌*◌, ◌/◌, ◌^◌, ◌<◌, ◌≤◌, arith}
use Rattle.std.proofs.lemmas.Nat.{div_below}
use Rattle.std.proofs.Math.Nat.{mul-le-mul}
use Rattle.wl_bound.proofs.oscillator.shortest_at.Goals as goal

-- a million of a quantum's ticks at most
small : (n d parts : ℕ) → 0 < d → n ≤ 1048576 * d → parts ≤ 1000000 → n * parts / d < 2 ^ 41
small n d parts low slow few =
    let most : n * parts ≤ 1048576 * d * 1000000 = mul-le-mul slow few in
    div_below (n * parts) d (2 ^ 41) low (omega arith)

pub returns-clause-most : goal.returns-clause-most
returns-clause-most c =
    small _ _ c.saturating_sub-parts.result c.requires.rate.divides c.requires.rate.not_slow
    (omega (arith, c.saturating_sub-parts.ensures))
