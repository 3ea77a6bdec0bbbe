-- Each turn leads on, and what the group emits in it is given.
use Rattle.std.proofs.Common.{rules}
use Rattle.wl_group.specs.Led.{LedTo}
use Rattle.wl_worker.specs.Finished.{MembersEnded}
use Rattle.wl_worker.specs.Given.{GaveSince}
use Rattle.wl_worker.proofs.Emitted.{gave_nothing}
use Rattle.wl_worker.proofs.turns.run.Goals as goal

pub loop-turn-init : goal.loop-turn-init
loop-turn-init g c =
    ((λ p is. c.begin.ensures.same p is), c.led_laws.ensures.stays c.args.group.now, gave_nothing g.L.Link.gave c.args.group.now)

pub returns-then-branch-clause-finished : goal.returns-then-branch-clause-finished
returns-then-branch-clause-finished g c =
    let turned : LedTo c.loop-turn.group c.have_turn.new.group = search rules in
    let ended : MembersEnded c.have_turn.new.group = search rules in
    record { led = c.led_laws.ensures.joined c.args.group.now c.loop-turn.group c.have_turn.new.group c.loop-turn.invariant.1 turned; ended = ended }

pub loop-turn-preserved : goal.loop-turn-preserved
loop-turn-preserved g c =
    let turned : LedTo c.loop-turn.group c.have_turn.new.group = search rules in
    let given : GaveSince g.L.Link.gave c.args.group.now c.have_turn.new.group = search rules in (
      (λ p is. c.have_turn.ensures.same p (c.loop-turn.invariant.0 p is)),
      c.led_laws.ensures.joined c.args.group.now c.loop-turn.group c.have_turn.new.group c.loop-turn.invariant.1 turned,
      given,
    )
