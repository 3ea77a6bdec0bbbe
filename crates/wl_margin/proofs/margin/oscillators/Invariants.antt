use Rattle.wl_margin.proofs.PaceLemmas.{IsSoFar}
use Rattle.wl_margin.proofs.margin.oscillators.Given as goal

-- these, and those of the nodes that are left, are all
abbrev pub invariant-loop-deviation : goal.invariant-loop-deviation
invariant-loop-deviation l = IsSoFar l.all l.deviation-index l.deviations
