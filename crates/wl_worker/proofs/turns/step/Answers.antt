-- What comes leads on, and then what the members do.
use Rattle.std.proofs.Common.{rules}
use Rattle.wl_group.specs.Led.{LedTo}
use Rattle.wl_worker.proofs.turns.step.Goals as goal

pub returns-clause-led : goal.returns-clause-led
returns-clause-led g c =
    let ran : LedTo c.come.new.group c.say.new.group = search rules in
    c.led_laws.ensures.joined c.args.group.now c.come.new.group c.say.new.group c.come.ensures.led ran
