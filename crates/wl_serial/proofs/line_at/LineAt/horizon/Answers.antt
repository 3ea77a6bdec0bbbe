-- Each node more is known a delay further.
use Rattle.std.proofs.Common.{◌≡◌, ◌<◌, length, subst, arith}
use Rattle.std.proofs.lemmas.List.{get_or_default}
use Rattle.wl_serial.proofs.Known.{IsHorizon, horizon_one_more, knows_others}
use Rattle.wl_serial.proofs.line_at.LineAt.horizon.Goals as goal

pub loop-i-preserved : goal.loop-i-preserved
loop-i-preserved c =
    let known = c.args.known.now in
    let others = c.args.self.now.others in
    let few = c.nodes-i-end.ensures.few in
    let b : c.loop-i.i < length known = omega (arith, c.loop-i-test.true, few, c.told-known) in
    let o : c.loop-i.i < length others = omega (arith, c.loop-i-test.true, few, c.requires.line.others.all) in
    let sum = c.saturating_add.ensures in
    let least = c.min-horizon.ensures in
    let ends = c.laws.ensures.checked.ends in
    horizon_one_more c.args.plan.now c.args.j c.args.running.now known others c.loop-i.i c.loop-i.horizon c.min-horizon.result c.saturating_add.result _ _ c.requires.known c.requires.line.others b o
    (get_or_default known c.loop-i.i 0 _ b) (get_or_default others c.loop-i.i 0 _ o) (omega (arith, sum)) (λ t before early. omega (arith, sum, before, early, ends)) (omega (arith, least))
    (omega (arith, least)) (λ t below early. omega (arith, least, below, early)) c.loop-i.invariant

pub returns-clause-known : goal.returns-clause-known
returns-clause-known c =
    let all : c.loop-i.i ≡ length c.args.running.now = omega (arith, c.loop-i-test.false, c.loop-i.auto.i-end, c.nodes-i-end.ensures.value, c.requires.running.all) in
    knows_others c.args.plan.now c.args.j c.args.running.now c.args.known.now c.args.self.now.others c.loop-i.horizon c.requires.known c.requires.line.others c.requires.running.all
    (subst (λ n. IsHorizon c.args.plan.now.end c.args.running.now c.args.known.now c.args.self.now.others n c.loop-i.horizon) all c.loop-i.invariant)
