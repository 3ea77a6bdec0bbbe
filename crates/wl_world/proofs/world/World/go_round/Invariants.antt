use Rattle.std.proofs.Common.{◌≡◌, ◌+◌, ◌≤◌}
use Rattle.wl_plan.specs.PlanLine.{line_of}
use Rattle.wl_world.specs.Ended.{AreAtEnd, quanta_left_of}
use Rattle.wl_world.specs.WorldValue.{IsWorldValue, cast_of}
use Rattle.wl_world.proofs.MoveProofs.{HasMade}
use Rattle.wl_world.proofs.world.World.go_round.Given as goal

abbrev pub invariant-loop-self : goal.invariant-loop-self
invariant-loop-self l = record {
  same_plan : l.self.plan ≡ l.initial.self.plan;
  same_numbers : l.self.numbers ≡ l.initial.self.numbers;
  holds : IsWorldValue l.self;
  made : HasMade (line_of l.initial.self.plan) (cast_of l.initial.self.numbers) l.rounds l.known l.initial.self l.self;
  few : l.rounds + quanta_left_of l.self ≤ quanta_left_of l.initial.self;
  nothing : AreAtEnd l.initial.self → (l.rounds ≡ 0) × (l.self ≡ l.initial.self);
}

abbrev pub decreases-loop-self : goal.decreases-loop-self
decreases-loop-self l = quanta_left_of l.self
