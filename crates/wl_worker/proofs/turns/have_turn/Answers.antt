-- A restart leads on, and then a step.
use Rattle.std.proofs.Common.{rules}
use Rattle.wl_group.specs.Led.{LedTo}
use Rattle.wl_worker.proofs.turns.have_turn.Goals as goal

pub returns-then-have_ended-clause-led : goal.returns-then-have_ended-clause-led
returns-then-have_ended-clause-led g c =
    let begun : LedTo c.args.group.now c.restart_if_asked.new.group = search rules in
    let stepped : LedTo c.restart_if_asked.new.group c.step.new.group = search rules in
    c.led_laws.ensures.joined c.args.group.now c.restart_if_asked.new.group c.step.new.group begun stepped

pub returns-in_ok-wait-clause-led : goal.returns-in_ok-wait-clause-led
returns-in_ok-wait-clause-led g c =
    let begun : LedTo c.args.group.now c.restart_if_asked.new.group = search rules in
    let stepped : LedTo c.restart_if_asked.new.group c.step.new.group = search rules in
    c.led_laws.ensures.joined c.args.group.now c.restart_if_asked.new.group c.step.new.group begun stepped

pub returns-else-is_idle-clause-led : goal.returns-else-is_idle-clause-led
returns-else-is_idle-clause-led g c =
    let begun : LedTo c.args.group.now c.restart_if_asked.new.group = search rules in
    let stepped : LedTo c.restart_if_asked.new.group c.step.new.group = search rules in
    c.led_laws.ensures.joined c.args.group.now c.restart_if_asked.new.group c.step.new.group begun stepped
