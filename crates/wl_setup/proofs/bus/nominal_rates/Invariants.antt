use Rattle.std.proofs.Common.{◌≡◌, ◌++◌, map, drop}
use Rattle.wl_setup.specs.Buses.{nominal}
use Rattle.wl_setup.proofs.bus.nominal_rates.Given as goal

-- those of the rates that are left follow on these
abbrev pub invariant-loop-text : goal.invariant-loop-text
invariant-loop-text l = l.all ++ map nominal (drop l.text-index l.texts) ≡ map nominal l.texts
