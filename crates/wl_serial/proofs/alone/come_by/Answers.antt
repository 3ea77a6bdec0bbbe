-- Before a delay has passed nothing has come.
use Rattle.std.proofs.Common.{◌≡◌, ◌+◌, ◌-◌, ◌∙◌, ap, sym, arith}
use Rattle.wl_record_core.specs.Truth.{count_below}
use Rattle.wl_serial.proofs.alone.come_by.Goals as goal

pub returns-then-t-delay : goal.returns-then-t-delay
returns-then-t-delay c =
    let none : c.args.t + 1 - c.args.delay ≡ 0 = omega (arith, c.if-t-delay.true) in
    sym (ap (λ n. count_below n c.args.changes.now) none ∙ c.table_laws.ensures.count_zero c.args.changes.now)

pub returns : goal.returns
returns c =
    let here : c.args.t - c.args.delay + 1 ≡ c.args.t + 1 - c.args.delay = omega (arith, c.if-t-delay.false) in
    c.count_until.ensures ∙ ap (λ n. count_below n c.args.changes.now) here
