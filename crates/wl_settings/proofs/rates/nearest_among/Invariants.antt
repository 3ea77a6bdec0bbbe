use Rattle.std.proofs.Common.{◌≡◌, drop}
use Rattle.wl_settings.specs.Rates.{nearest_among}
use Rattle.wl_settings.proofs.NearRates.{merged_rates}
use Rattle.wl_settings.proofs.rates.nearest_among.Given as goal

-- the nearest one of all is that of those so far and those that are left
abbrev pub invariant-loop-setting : goal.invariant-loop-setting
invariant-loop-setting l = merged_rates l.nearest (nearest_among l.asked l.controller (drop l.setting-index l.settings)) ≡ nearest_among l.asked l.controller l.settings
