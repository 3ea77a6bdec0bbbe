-- Round after round, each with fewer quanta left.
use Rattle.std.proofs.Common.{◌<◌, refl, sym, ◌∙◌, ap, subst, arith}
use Rattle.std.proofs.lemmas.Bool.{false≢true}
use Rattle.wl_plan.specs.PlanLine.{line_of}
use Rattle.wl_world.specs.Scene.{run, start}
use Rattle.wl_world.specs.Ended.{AreAtEnd, quanta_left_of}
use Rattle.wl_world.specs.Moves.{MovesLed, HasRounded}
use Rattle.wl_world.specs.WorldValue.{IsWorldAt, IsWorldValue, cast_of}
use Rattle.wl_world.proofs.RunProofs.{at_start, on_err}
use Rattle.wl_world.proofs.MoveProofs.{set_on, gone_on, made_none, made_more, made_gone, made_ended}
use Rattle.wl_world.proofs.EndProofs.{left_few, ended_on, unended_on, round_fewer}
use Rattle.wl_world.proofs.world.World.go_round.Goals as goal
use Rattle.wl_world.proofs.world.World.go_round.Goals.{After-self-in-loop-self}

pub loop-self-init : goal.loop-self-init
loop-self-init c = record {
  same_plan = refl;
  same_numbers = refl;
  holds = subst IsWorldValue c.self.view_is c.self.invariant;
  made = made_none (line_of c.args.self.now.plan) (cast_of c.args.self.now.numbers) c.args.self.now;
  few = omega arith;
  nothing = λ e. (refl, refl);
}

pub returns-in_err-known-clause-moved : goal.returns-in_err-known-clause-moved
returns-in_err-known-clause-moved c =
    let line = line_of c.args.self.now.plan in
    let cast = cast_of c.args.self.now.numbers in
    let mid = c.loop-self.self in
    let new = c.round.new.self in
    on_err c.from_residual.result (λ before h.
    let all = gone_on line cast c.args.self.now mid new (made_gone line cast c.loop-self.rounds c.loop-self.known c.args.self.now mid c.loop-self.invariant.made)
    (set_on (λ l d. MovesLed l d mid new) line (line_of mid.plan) cast (cast_of mid.numbers)
    (ap line_of c.loop-self.invariant.same_plan) (ap cast_of c.loop-self.invariant.same_numbers) c.in_err-known.ensures.moved) in
    let s = all (run line cast before (start line cast)) h in
    (s.0, s.1, at_start IsWorldAt line cast before s.0 new s.2))

-- a round runs some quantum
fewer : (c : After-self-in-loop-self) → quanta_left_of c.round.new.self < quanta_left_of c.loop-self.self
fewer c =
    let laws = c.laws_of_rounds.ensures in
    let made = c.loop-self.invariant in
    let line = line_of c.args.self.now.plan in
    let cast = cast_of c.args.self.now.numbers in
    let mid = c.loop-self.self in
    let new = c.round.new.self in
    round_fewer laws.simulation laws.sound laws.grouping laws.known laws.groups laws.family c.args.self.now mid new c.loop-self.rounds c.loop-self.known c.in_ok-known.known
    (subst IsWorldValue c.self.view_is c.self.invariant) made.holds (subst IsWorldValue c.self-in-loop-self.view_is c.self-in-loop-self.invariant) made.same_plan made.same_numbers
    (c.in_ok-known.ensures.plan ∙ made.same_plan) (c.in_ok-known.ensures.grouping ∙ made.same_numbers) made.made
    (unended_on laws.simulation laws.sound laws.grouping laws.known laws.groups laws.family line cast mid (ap line_of made.same_plan) (ap cast_of made.same_numbers) made.holds.staffed
    (λ e. false≢true (c.loop-self-test.ensures.1 e)))
    (set_on (λ l d. HasRounded l d c.loop-self.known c.in_ok-known.known mid new) line (line_of mid.plan) cast (cast_of mid.numbers) (ap line_of made.same_plan) (ap cast_of made.same_numbers)
    c.in_ok-known.ensures.rounded)

pub overflow_add-rounds : goal.overflow_add-rounds
overflow_add-rounds c =
    let laws = c.laws_of_rounds.ensures in
    let less = fewer ((goal.at.overflow_add-rounds c).After-self-in-loop-self) in
    let all = c.loop-self.invariant.few in
    let bound = left_few laws.grouping laws.simulation c.args.self.now
    (laws.sound c.args.self.now.plan (subst IsWorldValue c.self.view_is c.self.invariant).staffed.checked) in
    omega arith

pub loop-self-smaller : goal.loop-self-smaller
loop-self-smaller c = fewer ((goal.at.loop-self-smaller c).After-self-in-loop-self)

pub loop-self-preserved : goal.loop-self-preserved
loop-self-preserved c =
    let laws = c.laws_of_rounds.ensures in
    let made = c.loop-self.invariant in
    let line = line_of c.args.self.now.plan in
    let cast = cast_of c.args.self.now.numbers in
    let mid = c.loop-self.self in
    let new = c.round.new.self in
    record {
      same_plan = c.in_ok-known.ensures.plan ∙ made.same_plan;
      same_numbers = c.in_ok-known.ensures.grouping ∙ made.same_numbers;
      holds = subst IsWorldValue c.self-in-loop-self.view_is c.self-in-loop-self.invariant;
      made = made_more line cast c.loop-self.rounds c.loop-self.known c.in_ok-known.known c.args.self.now mid new made.made
          (unended_on laws.simulation laws.sound laws.grouping laws.known laws.groups laws.family line cast mid (ap line_of made.same_plan) (ap cast_of made.same_numbers) made.holds.staffed
          (λ e. false≢true (c.loop-self-test.ensures.1 e)))
          (set_on (λ l d. HasRounded l d c.loop-self.known c.in_ok-known.known mid new) line (line_of mid.plan) cast (cast_of mid.numbers) (ap line_of made.same_plan)
          (ap cast_of made.same_numbers) c.in_ok-known.ensures.rounded);
      few = (let less = fewer ((goal.at.loop-self-preserved c).After-self-in-loop-self) in let all = made.few in omega arith);
      nothing = λ e. absurd (false≢true (c.loop-self-test.ensures.1 (subst AreAtEnd (sym (made.nothing e).1) e)));
    }

pub returns-clause-settled : goal.returns-clause-settled
returns-clause-settled c = λ before h.
    let laws = c.laws_of_rounds.ensures in
    let line = line_of c.args.self.now.plan in
    let cast = cast_of c.args.self.now.numbers in
    let mid = c.loop-self.self in
    let made = c.loop-self.invariant in
    let s = made_ended line cast c.loop-self.rounds c.loop-self.known c.args.self.now mid made.made
    (ended_on laws.simulation laws.sound laws.grouping laws.known laws.groups laws.family line cast mid (ap line_of made.same_plan) (ap cast_of made.same_numbers) made.holds.staffed (c.loop-self-test.ensures.0 refl))
    (run line cast before (start line cast)) h in
    (s.0, s.1, at_start IsWorldAt line cast before s.0 mid s.2)
