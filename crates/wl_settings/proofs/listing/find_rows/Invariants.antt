use Rattle.std.proofs.Common.{take}
use Rattle.wl_settings.specs.Rankings.{AreFoundRows}
use Rattle.wl_settings.proofs.listing.find_rows.Given as goal

-- those of the settings so far
abbrev pub invariant-loop-setting : goal.invariant-loop-setting
invariant-loop-setting l = AreFoundRows l.asked l.controller (take l.setting-index l.settings) l.rows.items
