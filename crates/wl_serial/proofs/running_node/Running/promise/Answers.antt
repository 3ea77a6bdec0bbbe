-- Up to its reach no list of levels changes the drive.
use Rattle.std.proofs.Common.{◌≡◌, ◌+◌, ◌≤◌, length, ◌∙◌, ap, refl, arith}
use Rattle.wl_clock.specs.Timing.{tick_of}
use Rattle.wl_node.specs.Quiet.{quiet_of}
use Rattle.wl_plan.specs.Limits.{most_quanta, most_quanta-is, most_quiet-is}
use Rattle.wl_plan.specs.PlanLine.{setup_at, line_of}
use Rattle.wl_plan.specs.Simulation.{seen}
use Rattle.wl_serial.proofs.Steps.{quanta_most, promises}
use Rattle.wl_serial.proofs.running_node.Running.promise.Goals as goal

pub overflow_add-last : goal.overflow_add-last
overflow_add-last c =
    let few : c.quanta.result ≤ most_quanta =
    quanta_most c.args.plan.now c.args.i c.args.self.now c.quanta.result c.simulation_laws.ensures c.laws.ensures.sound
    c.requires.node c.requires.running c.quanta.ensures.value
    in
    omega (arith, few, c.quiet.ensures.most, most_quanta-is, most_quiet-is)

pub at-self-requires : goal.at-self-requires
at-self-requires c =
    let few : c.quanta.result ≤ most_quanta =
    quanta_most c.args.plan.now c.args.i c.args.self.now c.quanta.result c.simulation_laws.ensures c.laws.ensures.sound
    c.requires.node c.requires.running c.quanta.ensures.value
    in
    omega (arith, few, c.quiet.ensures.most, most_quanta-is, most_quiet-is)

pub returns-clause-running : goal.returns-clause-running
returns-clause-running c =
    let plan = c.args.plan.now in
    let levels = seen (line_of plan) c.args.i c.requires.running.0 in
    let quanta : c.quanta.result ≡ length levels = c.quanta.ensures.levels levels c.requires.running.1.runs.node in
    let quiet : c.quiet.result ≡ quiet_of (setup_at plan c.args.i) levels =
    c.quiet.ensures.value levels c.requires.running.1.runs.node ∙ ap (λ u. quiet_of u levels) c.requires.running.1.runs.at.setup
    in
    promises plan c.args.i c.args.self.now _ c.simulation_laws.ensures c.laws.ensures.sound c.requires.node c.requires.running refl refl refl
    (c.at-self.ensures.tick ∙ (ap (λ u. tick_of u.clock (c.quanta.result + c.quiet.result)) c.node.ensures
    ∙ (ap (λ n. tick_of (setup_at plan c.args.i).clock (n + c.quiet.result)) quanta
    ∙ ap (λ n. tick_of (setup_at plan c.args.i).clock (length levels + n)) quiet)))
