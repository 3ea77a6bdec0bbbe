use Rattle.std.proofs.Common.{◌≡◌}
use Rattle.wl_plan.specs.PlanLine.{line_of}
use Rattle.wl_world.specs.Moves.{HasExhaustedAll}
use Rattle.wl_world.specs.WorldValue.{cast_of}
use Rattle.wl_world.proofs.world.World.advance_all.Given as goal

abbrev pub invariant-loop-group : goal.invariant-loop-group
invariant-loop-group l = record {
  same_plan : l.self.plan ≡ l.initial.self.plan;
  same_numbers : l.self.numbers ≡ l.initial.self.numbers;
  exhausted : HasExhaustedAll (line_of l.initial.self.plan) (cast_of l.initial.self.numbers) l.group l.initial.self l.self;
}
