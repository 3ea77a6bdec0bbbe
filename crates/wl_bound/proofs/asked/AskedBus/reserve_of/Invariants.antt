use Rattle.std.proofs.Common.{◌≡◌}
use Rattle.wl_bound.specs.Helps.{lack_row, least, spare_row}
use Rattle.wl_bound.specs.Searches.{each}
use Rattle.wl_bound.specs.Terms.{greatest}
use Rattle.wl_bound.proofs.asked.AskedBus.reserve_of.Given as goal

-- the worst rows so far
abbrev pub invariant-loop-i : goal.invariant-loop-i
invariant-loop-i l =
    (l.lack ≡ greatest l.i each (lack_row l.self.bus.family.now l.self.bus.setting l.self.senders l.inequality))
    × (l.spare ≡ least l.i each (spare_row l.self.bus.family.now l.self.bus.setting l.self.senders l.inequality))
