use Rattle.std.proofs.Common.{◌≡◌}
use Rattle.wl_bound.specs.Families.{only_listens}
use Rattle.wl_bound.specs.Conditions.{is_asked}
use Rattle.wl_bound.specs.Helps.{lack_at}
use Rattle.wl_bound.specs.Terms.{greatest}
use Rattle.wl_bound.proofs.asked.AskedBus.lack_row.Given as goal

-- the worst pair so far
abbrev pub invariant-loop-j : goal.invariant-loop-j
invariant-loop-j l = l.lack ≡ greatest l.j (is_asked (only_listens l.self.bus.family.now.cable) l.inequality l.i) (lack_at l.self.bus.family.now l.self.bus.setting l.self.senders l.inequality l.i)
