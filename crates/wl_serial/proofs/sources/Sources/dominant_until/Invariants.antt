use Rattle.std.proofs.Common.{ℕ, ◌<◌, length}
use Rattle.wl_serial.specs.LineAt.{IsDriving}
use Rattle.wl_serial.proofs.sources.Sources.dominant_until.Given as goal

-- up to there one of the nodes drives dominant
abbrev pub invariant-loop-i : goal.invariant-loop-i
invariant-loop-i l = (u : ℕ) → u < l.until → IsDriving (length l.plan.nodes) u l.self
