use Rattle.std.proofs.Common.{◌≡◌, drop, length}
use Rattle.wl_sweep.specs.Findings.{like}
use Rattle.wl_sweep.proofs.finding.like.Given as goal

abbrev pub invariant-loop-i : goal.invariant-loop-i
invariant-loop-i l = (length l.one ≡ length l.other) × (like (drop l.i l.one) (drop l.i l.other) ≡ like l.one l.other)
