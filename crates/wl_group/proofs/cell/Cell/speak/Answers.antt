-- The records are those that the node says at its last quantum in the simulation.
use Rattle.std.proofs.Common.{◌≡◌, ◌+◌, ◌-◌, [], ◌∷◌, ◌++◌, ◌≤◌, ◌∙◌, List, sym, ap, arith}
use Rattle.wl_clock.specs.Timing.{tick_of}
use Rattle.wl_record_core.specs.declared.record.Record.{Record}
use Rattle.wl_record_core.specs.declared.record.Record.TheVariants.{Edge, Silence}
use Rattle.wl_node.specs.Limits.{most_quiet-is}
use Rattle.wl_node.specs.Reached.{quanta_of}
use Rattle.wl_plan.specs.Limits.{most_quanta, most_quanta-is}
use Rattle.wl_plan.specs.Line.{reach}
use Rattle.wl_plan.specs.PlanLine.{line_of}
use Rattle.wl_plan.specs.Simulation.{seen}
use Rattle.wl_group.proofs.SpokenProofs.{few_quanta, one_more, promise_is, says_no, says_change}
use Rattle.wl_group.proofs.cell.Cell.speak.Goals.{then-turned, else-turned}
use Rattle.wl_group.proofs.cell.Cell.speak.Goals as goal

pub overflow_sub-self : goal.overflow_sub-self
overflow_sub-self c =
    let more = one_more c.simulation_laws.ensures c.args.plan.now c.laws.ensures.sound c.args.i c.requires.node c.args.self.now c.requires.cell c.requires.some c.requires.inside (sym c.requires.turned ∙ c.if-turned.true) in
    omega arith

pub at-requires : goal.at-requires
at-requires c =
    let few : quanta_of c.args.self.now.node ≤ most_quanta = few_quanta c.simulation_laws.ensures c.args.plan.now c.laws.ensures.sound c.args.i c.requires.node c.args.self.now c.requires.cell c.requires.some c.requires.inside in
    omega (arith, few, c.quanta-quanta.ensures.value, most_quanta-is)

pub overflow_add-quanta : goal.overflow_add-quanta
overflow_add-quanta c =
    let few : quanta_of c.args.self.now.node ≤ most_quanta = few_quanta c.simulation_laws.ensures c.args.plan.now c.laws.ensures.sound c.args.i c.requires.node c.args.self.now c.requires.cell c.requires.some c.requires.inside in
    omega (arith, few, c.quanta-quanta.ensures.value, c.quiet.ensures.most, most_quanta-is, most_quiet-is)

pub at-requires-2 : goal.at-requires-2
at-requires-2 c =
    let few : quanta_of c.args.self.now.node ≤ most_quanta = few_quanta c.simulation_laws.ensures c.args.plan.now c.laws.ensures.sound c.args.i c.requires.node c.args.self.now c.requires.cell c.requires.some c.requires.inside in
    omega (arith, few, c.quanta-quanta.ensures.value, c.quiet.ensures.most, most_quanta-is, most_quiet-is)

pub returns : goal.returns
returns c =
    let i = c.args.i in
    let cell = c.args.self.now in
    let ran = c.quanta-quanta.ensures.value in
    let until : c.at-2.result ≡ reach (line_of c.args.plan.now) i (seen (line_of c.args.plan.now) i (quanta_of cell.node)) =
    c.at-2.ensures.tick
    ∙ (ap (λ k. tick_of c.setup.result.now.clock (k + c.quiet.result)) ran
    ∙ promise_is c.simulation_laws.ensures c.args.plan.now c.laws.ensures.sound c.args.i c.requires.node c.args.self.now c.requires.cell c.requires.some c.requires.inside
    c.setup.result.now c.setup.ensures c.quiet.result c.quiet.ensures.value) in
    c.push-2.ensures.items
    ∙ elim c.if-turned.branch [
      | then-turned w ↦
          ap (λ (rs : List Record). rs ++ Silence i cell.changed c.at-2.result ∷ [])
          (ap (λ e. e.items) w.emission-is ∙ (w.push.ensures.items ∙ ap (λ (rs : List Record). rs ++ Edge i (cell.changed - 1) w.at.result ∷ []) c.new-emission.ensures))
          ∙ (ap (λ t. Edge i (cell.changed - 1) t ∷ Silence i cell.changed c.at-2.result ∷ []) (w.at.ensures.tick ∙ ap (λ k. tick_of c.setup.result.now.clock (k - 1)) ran)
          ∙ says_change c.simulation_laws.ensures c.args.plan.now c.laws.ensures.sound c.args.i c.requires.node c.args.self.now c.requires.cell c.requires.some c.requires.inside
          (sym c.requires.turned ∙ w.if-turned.true) c.setup.result.now c.setup.ensures c.at-2.result until)
      | else-turned w ↦
          ap (λ (rs : List Record). rs ++ Silence i cell.changed c.at-2.result ∷ []) (ap (λ e. e.items) w.emission-is ∙ c.new-emission.ensures)
          ∙ says_no c.simulation_laws.ensures c.args.plan.now c.laws.ensures.sound c.args.i c.requires.node c.args.self.now c.requires.cell c.requires.some c.requires.inside
          (sym c.requires.turned ∙ w.if-turned.false) c.at-2.result until
    ]
