use Rattle.std.proofs.Common.{◌≡◌}
use Rattle.wl_plan.specs.PlanLine.{line_of}
use Rattle.wl_world.specs.Moves.{HasHanded}
use Rattle.wl_world.specs.WorldValue.{cast_of}
use Rattle.wl_world.proofs.world.World.deliver_to.Given as goal

abbrev pub invariant-loop-number : goal.invariant-loop-number
invariant-loop-number l = record {
  same_plan : l.self.plan ≡ l.initial.self.plan;
  same_numbers : l.self.numbers ≡ l.initial.self.numbers;
  handed : HasHanded (line_of l.initial.self.plan) (cast_of l.initial.self.numbers) l.group l.from l.number l.initial.self l.self;
}
