use Rattle.std.proofs.Common.{◌≡◌, ◌++◌, map, drop}
use Rattle.wl_sweep.specs.Changes.{rate_on}
use Rattle.wl_sweep.proofs.change.rates_on.Given as goal

abbrev pub invariant-loop-rate : goal.invariant-loop-rate
invariant-loop-rate l = l.all ++ map (rate_on l.side) (drop l.rate-index l.rates) ≡ map (rate_on l.side) l.rates
