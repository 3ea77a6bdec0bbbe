-- The delay from each other node stands at its number.
use Rattle.std.proofs.Common.{◌<◌, ◌^◌, ◌-◌, length, refl, arith}
use Rattle.wl_topology.specs.Limits.{most_places}
use Rattle.wl_serial.proofs.Known.{no_others, others_more, own_left_out}
use Rattle.wl_serial.proofs.line_at.delays_of_others.Goals as goal
use Rattle.wl_serial.proofs.line_at.delays_of_others.Goals.{then-i-j, else-i-j}

pub loop-i-init : goal.loop-i-init
loop-i-init c = no_others c.args.plan.now c.args.j most_places (2 ^ 64 - 1) refl (omega arith)

pub loop-i-preserved : goal.loop-i-preserved
loop-i-preserved c =
    let plan = c.args.plan.now in
    let node : c.loop-i.i < length plan.topology.places = omega (arith, c.loop-i-test.true, c.nodes-i-end.ensures.value, c.laws.ensures.checked.placed) in
    let own : c.args.j < length plan.topology.places = omega (arith, c.requires.node, c.laws.ensures.checked.placed) in
    elim c.if-i-j.branch [
      | then-i-j w ↦
          rw (w.others-is)
          (others_more plan c.args.j c.loop-i.others c.loop-i.i _
          (omega (arith, c.loop-i-test.true, c.nodes-i-end.ensures.value, c.laws.ensures.checked.few_nodes, c.loop-i.invariant.0)) c.loop-i.invariant w.delay.ensures.ticks
          w.delay.ensures.positive)
      | else-i-j w ↦ rw (w.others-is) (own_left_out plan c.args.j c.loop-i.others c.loop-i.i (omega (arith, w.if-i-j.false)) c.loop-i.invariant)
    ]
