-- A group that began again has emitted nothing, and one that didn't is where it was.
use Rattle.wl_group.specs.GroupValue.{belongs}
use Rattle.wl_worker.proofs.Emitted.{gave_anew}
use Rattle.wl_worker.proofs.turns.restart_if_asked.Goals as goal

pub returns-then-not-restart-clause-led : goal.returns-then-not-restart-clause-led
returns-then-not-restart-clause-led g c = c.led_laws.ensures.stays c.args.group.now

pub returns-in-Ok-clause-gave : goal.returns-in-Ok-clause-gave
returns-in-Ok-clause-gave g c first since =
    gave_anew g.L.Link.gave first c.begin_anew.new.group c.args.group.now.lists c.args.group.now.plan (belongs c.args.group.now) c.in-Ok.ensures.fresh
