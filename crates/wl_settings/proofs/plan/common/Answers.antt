use Rattle.std.proofs.Common.{◌≡◌, arith}
use Rattle.wl_settings.proofs.Euclid.{all_steps, no_steps, one_step}
use Rattle.wl_settings.proofs.plan.common.Goals as goal

pub loop-init : goal.loop-init
loop-init c = no_steps (c.args.a, c.args.b)

pub loop-preserved : goal.loop-preserved
loop-preserved c = one_step c.loop.counter (c.args.a, c.args.b) c.loop.pair c.step-pair.result c.loop.invariant c.step-pair.ensures

pub returns : goal.returns
returns c =
    let end = c.loop.auto.counter-end in
    let over = c.loop-test.false in
    let all : c.loop.counter ≡ 128 = omega arith in
    all_steps c.loop.counter c.args.a c.args.b c.loop.pair all c.loop.invariant
