use Rattle.std.proofs.Common.{◌≡◌, ◌∙◌, ap}
use Rattle.wl_clock.specs.Timing.{tick_of}
use Rattle.wl_node.specs.declared.setup.NodeSetup.{NodeSetup}
use Rattle.wl_node.specs.Reached.{node_setup, quanta_of}
use Rattle.wl_plan.specs.PlanLine.{setup_at}
use Rattle.wl_group.proofs.BeginProofs.{fresh_kept, fresh_listing}
use Rattle.wl_group.proofs.begin.fresh_cell.Goals as goal

pub returns-clause-cell : goal.returns-clause-cell
returns-clause-cell c =
    let setup : node_setup c.in_ok-node.node ≡ setup_at c.args.plan.now c.args.i = c.in_ok-node.ensures.setup ∙ (c.in_ok-setup.ensures ∙ c.node.ensures) in
    let is = c.in_ok-node.ensures.node in
    let none : quanta_of c.in_ok-node.node ≡ 0 = c.node_laws.ensures.counted c.in_ok-node.node _ is in
    fresh_kept c.args.plan.now c.args.i c.in_ok-node.node c.at-next.result c.ways_to.result c.simulation_laws.ensures c.laws.ensures.sound c.requires.node
    setup is none
    (c.at-next.ensures.tick ∙ ap (λ (s : NodeSetup). tick_of s.clock 0) (c.setup.ensures ∙ setup))
    c.ways_to.ensures

pub returns-clause-keeps : goal.returns-clause-keeps
returns-clause-keeps c = fresh_listing c.in_ok-node.node c.at-next.result c.ways_to.result c.args.lists c.in_ok-node.ensures.keeps
