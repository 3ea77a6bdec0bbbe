use Rattle.std.proofs.Common.{◌≡◌, take}
use Rattle.wl_node.specs.Extremes.{phase_totals}
use Rattle.wl_node.proofs.phase_totals.PhaseTotals.of.Given as goal

-- the totals of the edges so far
abbrev pub invariant-loop-error : goal.invariant-loop-error
invariant-loop-error l = l.totals ≡ phase_totals (take l.error-index l.phases)
