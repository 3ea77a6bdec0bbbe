-- A fresh node has seen nothing and changed nothing.
use Rattle.std.proofs.Common.{◌∙◌, [], ap, refl}
use Rattle.wl_clock.specs.Timing.{tick_of}
use Rattle.wl_serial.proofs.Steps.{begins}
use Rattle.wl_serial.proofs.running_node.Running.begin.Goals as goal

pub returns-clause-running : goal.returns-clause-running
returns-clause-running c =
    begins c.args.plan.now c.args.i _ c.simulation_laws.ensures c.laws.ensures.sound c.requires.node
    (c.at-next.ensures.tick ∙ ap (λ u. tick_of u.clock 0) c.node-setup.ensures)
    refl
    c.in_ok-new_node.ensures.setup
    (c.node_laws.ensures.counted _ [] c.in_ok-new_node.ensures.node)
    c.in_ok-new_node.ensures.node
    c.new.ensures
