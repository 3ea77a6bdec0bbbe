use Rattle.std.proofs.Common.{◌≡◌, ◌++◌, map, drop}
use Rattle.wl_sweep.specs.Changes.{rate_with}
use Rattle.wl_sweep.proofs.change.rates_with.Given as goal

abbrev pub invariant-loop-rate : goal.invariant-loop-rate
invariant-loop-rate l = l.all ++ map (rate_with l.key l.value) (drop l.rate-index l.rates) ≡ map (rate_with l.key l.value) l.rates
