use Rattle.std.proofs.Common.{◌≡◌, drop}
use Rattle.std.specs.List.{list_any}
use Rattle.wl_sweep.specs.Vary.{rate_has}
use Rattle.wl_sweep.proofs.vary.rates_have.Given as goal

abbrev pub invariant-loop-rate : goal.invariant-loop-rate
invariant-loop-rate l = list_any (rate_has l.key) (drop l.rate-index l.rates) ≡ list_any (rate_has l.key) l.rates
