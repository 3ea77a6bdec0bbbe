-- One stretch more is of the group's plan, and so are all where there is none.
use Rattle.std.proofs.Common.{◌≡◌, ℕ, ◌∙◌, List, sym, subst}
use Rattle.wl_plan.specs.PlanLine.{line_of}
use Rattle.wl_pulse.specs.declared.pulse.Pulse.{Pulse}
use Rattle.wl_group.specs.Member.{next_tick}
use Rattle.wl_group.specs.GroupValue.{GroupValue, members_now}
use Rattle.wl_group.specs.Through.{AreAhead}
use Rattle.wl_group.proofs.group.Group.look_ahead.Goals as goal

-- a group that is as it was has the stretches that it had
of_same : (now then : GroupValue) → then ≡ now → (i t : ℕ) (before after : List Pulse) (m n : ℕ) → AreAhead (line_of now.plan) i t before m
    → ((u : ℕ) → AreAhead (line_of then.plan) i u before m → AreAhead (line_of then.plan) i u after n) → AreAhead (line_of now.plan) i t after n
of_same now then same i t before after m n are more =
    subst (λ (g : GroupValue). AreAhead (line_of g.plan) i t after n) same
    (more t (subst (λ (g : GroupValue). AreAhead (line_of g.plan) i t before m) (sym same) are))

pub returns-then-not-look_on-clause-ahead : goal.returns-then-not-look_on-clause-ahead
returns-then-not-look_on-clause-ahead c =
    let t = next_tick (line_of c.args.self.now.plan) c.args.i (members_now c.args.self.now c.args.i) in
    of_same c.args.self.now c.loop.self c.loop.invariant.0 c.args.i t c.loop.ahead.stretches c.look_on.new.ahead.stretches c.loop.ahead.count c.look_on.new.ahead.count
    c.loop.invariant.3 c.look_on.ensures.ahead

pub loop-preserved : goal.loop-preserved
loop-preserved c =
    let t = next_tick (line_of c.args.self.now.plan) c.args.i (members_now c.args.self.now c.args.i) in (
      c.look_on.ensures.same ∙ c.loop.invariant.0,
      c.look_on.ensures.some,
      c.look_on.ensures.few,
      of_same c.args.self.now c.loop.self c.loop.invariant.0 c.args.i t c.loop.ahead.stretches c.look_on.new.ahead.stretches c.loop.ahead.count c.look_on.new.ahead.count
          c.loop.invariant.3 c.look_on.ensures.ahead,
    )
