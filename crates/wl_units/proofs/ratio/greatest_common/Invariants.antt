use Rattle.std.proofs.Common.{◌≡◌, ◌-◌}
use Rattle.wl_units.specs.Ratios.{euclid, greatest_common}
use Rattle.wl_units.proofs.ratio.greatest_common.Given as goal

-- the steps that are left
abbrev pub invariant-loop-step : goal.invariant-loop-step
invariant-loop-step l = euclid (200 - l._step) l.a l.b ≡ greatest_common l.fn.a l.fn.b
