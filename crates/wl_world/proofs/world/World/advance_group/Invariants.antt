use Rattle.std.proofs.Common.{◌≡◌}
use Rattle.wl_plan.specs.PlanLine.{line_of}
use Rattle.wl_world.specs.Ended.{quanta_left_of}
use Rattle.wl_world.specs.WorldValue.{cast_of, IsWorldValue}
use Rattle.wl_world.proofs.MoveProofs.{HasAdvanced}
use Rattle.wl_world.proofs.world.World.advance_group.Given as goal

abbrev pub invariant-loop-node : goal.invariant-loop-node
invariant-loop-node l = record {
  same_plan : l.self.plan ≡ l.initial.self.plan;
  same_numbers : l.self.numbers ≡ l.initial.self.numbers;
  holds : IsWorldValue l.self;
  advanced : HasAdvanced (line_of l.initial.self.plan) (cast_of l.initial.self.numbers) l.group l.initial.self l.self;
}

abbrev pub decreases-loop-node : goal.decreases-loop-node
decreases-loop-node l = quanta_left_of l.self
