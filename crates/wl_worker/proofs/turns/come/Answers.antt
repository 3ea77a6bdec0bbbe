-- What a link brings leads on.
use Rattle.wl_worker.proofs.Steps.{took_led}
use Rattle.wl_worker.proofs.turns.come.Goals as goal

pub returns-clause-led : goal.returns-clause-led
returns-clause-led g c = took_led c.led_laws.ensures c.args.group.now c.fetch.new.group c.fetch.ensures.took
