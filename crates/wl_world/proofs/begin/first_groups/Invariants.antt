use Rattle.std.proofs.Common.{◌≡◌, length}
use Rattle.wl_world.specs.WorldValue.{AreFirst}
use Rattle.wl_world.proofs.begin.first_groups.Given as goal

abbrev pub invariant-loop-h : goal.invariant-loop-h
invariant-loop-h l = (length l.groups.items ≡ l.h) × AreFirst l.plan l.grouping l.groups.items
