use Rattle.std.proofs.Common.{◌≡◌, ap, sym, subst, ◌∙◌, arith, take, get_or, take_all}
use Rattle.wl_plan.specs.PlanLine.{line_of}
use Rattle.wl_world.specs.declared.events.Event.TheVariants.{Advance}
use Rattle.wl_world.specs.Scene.{run, start, answers}
use Rattle.wl_world.specs.WorldValue.{IsWorldAt, cast_of}
use Rattle.wl_world.proofs.RunProofs.{at_start, stepped_on, reached_more, answered_more}
use Rattle.wl_world.proofs.world.World.handle.Goals as goal

pub returns-in-Err-step-clause-stopped : goal.returns-in-Err-step-clause-stopped
returns-in-Err-step-clause-stopped c =
    let line = line_of c.args.self.now.plan in
    let cast = cast_of c.args.self.now.numbers in (
      (omega arith),
      λ before h.
          let w = run line cast before (start line cast) in
          at_start IsWorldAt line cast before (take c.loop-i.i c.args.events.now) c.step.new.self
          (subst (λ v. IsWorldAt (run line cast (take c.loop-i.i c.args.events.now) w) v) (sym c.in-Err-step.ensures.err) (c.loop-i.invariant.reached w h)),
    )

pub loop-i-preserved : goal.loop-i-preserved
loop-i-preserved c =
    let line = line_of c.args.self.now.plan in
    let cast = cast_of c.args.self.now.numbers in
    let event = Advance 0 0 in
    let s = stepped_on IsWorldAt line (line_of c.loop-i.self.plan) cast (cast_of c.loop-i.self.numbers) (get_or c.args.events.now c.loop-i.i event) c.loop-i.self c.step.new.self c.in-Ok-step.answer
    (ap line_of c.loop-i.invariant.same_plan) (ap cast_of c.loop-i.invariant.same_numbers) c.in-Ok-step.ensures.ok in
    record {
      same_plan = c.in-Ok-step.ensures.plan ∙ c.loop-i.invariant.same_plan;
      same_numbers = c.in-Ok-step.ensures.grouping ∙ c.loop-i.invariant.same_numbers;
      room = let e = c.push_within.ensures.capacity in let f = c.loop-i.invariant.room in omega arith;
      count = let e = c.push_within.ensures.len in let f = c.loop-i.invariant.count in omega arith;
      reached = λ w h. reached_more IsWorldAt line cast c.args.events.now c.loop-i.i event w c.loop-i.self c.step.new.self c.in-Ok-step.answer c.loop-i-test.true (c.loop-i.invariant.reached w h) s;
      answered = λ w h. c.push_within.ensures.items ∙ answered_more IsWorldAt line cast c.args.events.now c.loop-i.i event w c.loop-i.self c.step.new.self c.in-Ok-step.answer c.loop-i.answers.items c.loop-i-test.true (c.loop-i.invariant.reached w h) s (c.loop-i.invariant.answered w h);
    }

pub returns-clause-ok : goal.returns-clause-ok
returns-clause-ok c = λ before h.
    let line = line_of c.args.self.now.plan in
    let cast = cast_of c.args.self.now.numbers in
    let w = run line cast before (start line cast) in
    let all : take c.loop-i.i c.args.events.now ≡ c.args.events.now = take_all c.loop-i.i c.args.events.now (omega arith) in (
      subst (λ v. c.loop-i.answers.items ≡ answers line cast v w) all (c.loop-i.invariant.answered w h),
      at_start IsWorldAt line cast before c.args.events.now c.loop-i.self (subst (λ v. IsWorldAt (run line cast v w) c.loop-i.self) all (c.loop-i.invariant.reached w h)),
    )
