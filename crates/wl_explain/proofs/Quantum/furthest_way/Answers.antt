use Rattle.std.proofs.Common.{◌≡◌, ℕ, ◌+◌, ◌-◌, ◌*◌, ◌<◌, ◌≤◌, ◌/◌, arith}
use Rattle.std.proofs.lemmas.Nat.{le-div}
use Rattle.wl_explain.proofs.Quantum.furthest_way.Goals as goal

-- what is back in time is at most the quotient
in_time : (way prop ps1 n d : ℕ) → 0 < d → 2 * way * d + n ≤ (1 + prop + ps1) * n → way ≤ (prop + ps1) * n / (2 * d)
in_time way prop ps1 n d low h = le-div way ((prop + ps1) * n) (2 * d) (omega arith) (omega arith)

pub returns-clause-furthest : goal.returns-clause-furthest
returns-clause-furthest c way back =
    let l = c.args.segments.now in
    let e : c.sample_at.result - 1 ≡ l.prop + l.ps1 = omega (arith, c.sample_at.ensures.place) in
    rw (e, c.num.ensures.num, c.den.ensures.den)
    (in_time way l.prop l.ps1 c.args.self.now.num c.args.self.now.den c.den.ensures.quantum.divides back.in_time)
