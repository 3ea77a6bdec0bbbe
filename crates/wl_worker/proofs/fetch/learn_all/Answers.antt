use Rattle.std.proofs.Common.{◌≡◌, inl, inr, length, ◌∙◌, ap, sym, subst, arith}
use Rattle.std.proofs.Math.ListN.{length-set}
use Rattle.std.proofs.lemmas.Bool.{cases_lt}
use Rattle.wl_plan.specs.declared.plan.Plan.{Plan}
use Rattle.wl_worker.specs.Handed.{TellsNews}
use Rattle.wl_worker.proofs.Named.{still_of}
use Rattle.wl_worker.proofs.Seen.{one_node_more, others_left, no_node_handed}
use Rattle.wl_worker.proofs.Steps.{took_plan}
use Rattle.wl_worker.proofs.Took.{took_both, changed_both}
use Rattle.wl_worker.proofs.fetch.learn_all.Goals as goal

pub loop-node-preserved : goal.loop-node-preserved
loop-node-preserved c =
    let was = c.loop-node.invariant in
    let took = c.in_ok-taken.ensures.took in
    let joins = c.states_join_slot_by_slot.ensures in (
      c.in_ok-taken.ensures.here,
      c.in_ok-taken.ensures.name ∙ was.1,
      still_of c.args.hub.now c.loop-node.pass c.learn_node.new.pass c.loop-node.group c.learn_node.new.group took c.in_ok-taken.ensures.name was.2,
      took_plan c.loop-node.group c.learn_node.new.group took ∙ was.3,
      took_both c.taking_laws.ensures c.args.group.now c.loop-node.group c.learn_node.new.group was.4 took,
      subst (TellsNews c.args.group.now c.learn_node.new.group) (sym c.either-came.ensures)
          (changed_both c.taking_laws.ensures c.args.group.now c.loop-node.group c.learn_node.new.group was.4 took c.loop-node.came c.in_ok-taken.taken was.5 c.in_ok-taken.ensures.changed),
      one_node_more joins c.args.hub.now c.loop-node.pass c.learn_node.new.pass c.args.group.now c.loop-node.group c.learn_node.new.group c.args.handed.now c.loop-node.handed c.loop-node.node
          c.learn_node.new.handed (let n = was.8 in let t = c.loop-node-test.true in let few = c.nodes-nodes.ensures.few in omega arith) was.4 took c.in_ok-taken.ensures.others (was.7 c.loop-node.node (omega arith)) c.in_ok-taken.ensures.known was.6,
      others_left joins c.args.hub.now c.loop-node.pass c.learn_node.new.pass c.args.group.now c.loop-node.group c.learn_node.new.group c.args.handed.now c.loop-node.handed c.loop-node.node
          c.learn_node.new.handed was.7,
      length-set c.loop-node.handed c.loop-node.node c.learn_node.new.handed ∙ was.8,
    )

pub returns-clause-known : goal.returns-clause-known
returns-clause-known c = λ i low.
    let all : c.nodes-nodes.result ≡ length c.args.group.now.plan.nodes = c.nodes-nodes.ensures.value ∙ ap (λ (p : Plan). length p.nodes) c.plan.ensures.value in
    elim (cases_lt i (length c.args.group.now.plan.nodes)) [
      | inl node ↦ c.loop-node.invariant.6 i (let t = c.loop-node-test.false in omega (arith, all, node))
      | inr past ↦
          no_node_handed c.states_join_slot_by_slot.ensures c.args.hub.now c.args.pass.now c.loop-node.pass c.args.group.now.plan c.requires.of c.args.group.now c.loop-node.group
          c.loop-node.invariant.4 c.args.handed.now c.loop-node.handed i past (c.loop-node.invariant.7 i (let t = c.loop-node.auto.node-end in omega (arith, all, past)))
    ]
