use Rattle.std.proofs.Common.{◌≡◌, ◌+◌}
use Rattle.wl_settings.specs.Settings.{each_under, by_prescaler}
use Rattle.wl_settings.proofs.possible.possible_settings.Given as goal

-- those so far
abbrev pub invariant-loop-less : goal.invariant-loop-less
invariant-loop-less l = l.all ≡ each_under (λ less. by_prescaler l.asked l.controller (less + 1)) l.less
