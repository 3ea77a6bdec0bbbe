-- The node sees recessive at no more quanta than its drive stands for.
use Rattle.std.proofs.Common.{◌≡◌, ◌+◌, ◌-◌, ◌∙◌, ap, sym, arith}
use Rattle.wl_clock.specs.Timing.{tick_of}
use Rattle.wl_plan.specs.Limits.{most_quanta-is}
use Rattle.wl_plan.specs.PlanLine.{setup_at, line_of}
use Rattle.wl_plan.specs.Simulation.{seen}
use Rattle.wl_serial.proofs.Resting.{stands}
use Rattle.wl_serial.proofs.Steps.{quanta_most}
use Rattle.wl_serial.proofs.running_node.Running.stands_until.Goals as goal

pub overflow_add-last : goal.overflow_add-last
overflow_add-last c =
    let few = quanta_most c.args.plan.now c.args.i c.args.self.now c.quanta.result c.simulation_laws.ensures c.laws.ensures.sound
    c.requires.node c.requires.running c.quanta.ensures.value in
    omega (arith, few, c.stays-stays.ensures.most, most_quanta-is)

pub returns : goal.returns
returns c some k run =
    let plan = c.args.plan.now in
    let i = c.args.i in
    let few = quanta_most plan i c.args.self.now c.quanta.result c.simulation_laws.ensures c.laws.ensures.sound
    c.requires.node c.requires.running c.quanta.ensures.value in
    let element = c.node.ensures in
    let here : c.quanta.result ≡ k = c.quanta.ensures.levels (seen (line_of plan) i k) run.runs.node ∙ c.simulation_laws.ensures.length_seen (line_of plan) i k in
    let min = c.min.ensures in
    let n = c.min.result - k in
    let last : c.min.result ≡ k + n = omega (arith, min, here, few, most_quanta-is) in
    let reach = c.at.ensures.tick ∙ (ap (λ u. tick_of u.clock c.min.result) element ∙ ap (λ q. tick_of (setup_at plan i).clock q) last) in
    stands plan i k n c.at.result c.args.self.now c.drive.result run c.drive.ensures (sym c.is_dominant.ensures ∙ c.if-is_dominant.false)
    (λ m b. c.stays-stays.ensures.stands m (omega (arith, b, min, here, last))) (omega (arith, reach))
