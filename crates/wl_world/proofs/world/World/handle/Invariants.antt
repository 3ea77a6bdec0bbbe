use Rattle.std.proofs.Common.{◌≡◌, ◌≤◌, take, length, vec_len, vec_capacity}
use Rattle.wl_plan.specs.PlanLine.{line_of}
use Rattle.wl_world.specs.Scene.{Scene, run, answers}
use Rattle.wl_world.specs.WorldValue.{IsWorldAt, cast_of}
use Rattle.wl_world.proofs.world.World.handle.Given as goal

abbrev pub invariant-loop-i : goal.invariant-loop-i
invariant-loop-i l =
    let line = line_of l.initial.self.plan in
    let cast = cast_of l.initial.self.numbers in
    record {
      same_plan : l.self.plan ≡ l.initial.self.plan;
      same_numbers : l.self.numbers ≡ l.initial.self.numbers;
      room : length l.events ≤ vec_capacity l.answers;
      count : vec_len l.answers ≡ l.i;
      reached : (w : Scene) → IsWorldAt w l.initial.self → IsWorldAt (run line cast (take l.i l.events) w) l.self;
      answered : (w : Scene) → IsWorldAt w l.initial.self → l.answers.items ≡ answers line cast (take l.i l.events) w;
    }
