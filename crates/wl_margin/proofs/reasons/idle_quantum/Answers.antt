use Rattle.wl_margin.proofs.FirstQuanta.{first_quantum}
use Rattle.wl_margin.proofs.reasons.idle_quantum.Goals as goal

pub returns : goal.returns
returns c =
    let reached = rw (c.idle_but.ensures.value, c.node.ensures) at c.first_not_before.ensures.reached in
    let least = rw (c.idle_but.ensures.value, c.node.ensures) at c.first_not_before.ensures.least in
    let near = rw c.idle_but.ensures.value at c.first_not_before.ensures.near in
    first_quantum c.args.plan.now c.args.i c.first_not_before.result reached least near
