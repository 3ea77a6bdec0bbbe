use Rattle.std.proofs.Common.{◌≡◌, ◌<◌, ◌≤◌, length}
use Rattle.wl_plan.specs.PlanLine.{line_of}
use Rattle.wl_group.specs.Member.{next_tick}
use Rattle.wl_group.specs.GroupValue.{members_now}
use Rattle.wl_group.specs.Through.{AreAhead}
use Rattle.wl_group.proofs.group.Group.look_ahead.Given as goal

abbrev pub invariant-loop : goal.invariant-loop
invariant-loop l =
    (l.self ≡ l.fn.self) × (0 < l.ahead.count) × (l.ahead.count ≤ length l.ahead.stretches)
    × AreAhead (line_of l.fn.self.plan) l.i (next_tick (line_of l.fn.self.plan) l.i (members_now l.fn.self l.i)) l.ahead.stretches l.ahead.count
