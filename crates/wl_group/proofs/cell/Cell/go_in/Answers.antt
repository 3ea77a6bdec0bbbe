-- Quanta in one stretch: they are counted by the clock, and each of them finds the level of the stretch.
use Rattle.std.proofs.Common.{◌-◌, ◌∙◌, refl, sym, arith}
use Rattle.std.proofs.lemmas.Result.{IfOk-weaker}
use Rattle.wl_group.specs.Running.{HasGone}
use Rattle.wl_group.specs.Through.{HasGoneIn}
use Rattle.wl_group.proofs.ThroughProofs.{counted_of, some_last, early_last, inside_last, few_last, finds_last, changed_most, gone_in}
use Rattle.wl_group.proofs.cell.Cell.go_in.Goals as goal

pub overflow_sub-last : goal.overflow_sub-last
overflow_sub-last c =
    let is = c.requires.cell in
    let counted = counted_of c.args.plan.now c.args.i c.args.self.now is c.args.stretch.until c.args.end c.requires.until c.requires.due c.requires.stop c.setup.result.now c.setup.ensures
    c.min.result c.min.ensures c.first_not_before-last.result c.first_not_before-last.ensures.reached c.first_not_before-last.ensures.least in
    let l = some_last c.simulation_laws.ensures c.args.plan.now c.laws.ensures.sound c.args.i c.requires.node c.args.self.now is c.args.stretch.until c.args.end c.first_not_before-last.result counted in
    let q = c.quanta-ran.ensures.value in
    omega arith

pub go-requires-clause-some : goal.go-requires-clause-some
go-requires-clause-some c =
    let is = c.requires.cell in
    let counted = counted_of c.args.plan.now c.args.i c.args.self.now is c.args.stretch.until c.args.end c.requires.until c.requires.due c.requires.stop c.setup.result.now c.setup.ensures
    c.min.result c.min.ensures c.first_not_before-last.result c.first_not_before-last.ensures.reached c.first_not_before-last.ensures.least in
    let l = some_last c.simulation_laws.ensures c.args.plan.now c.laws.ensures.sound c.args.i c.requires.node c.args.self.now is c.args.stretch.until c.args.end c.first_not_before-last.result counted in
    let q = c.quanta-ran.ensures.value in
    omega arith

pub go-requires-clause-quanta : goal.go-requires-clause-quanta
go-requires-clause-quanta c =
    let is = c.requires.cell in
    let counted = counted_of c.args.plan.now c.args.i c.args.self.now is c.args.stretch.until c.args.end c.requires.until c.requires.due c.requires.stop c.setup.result.now c.setup.ensures
    c.min.result c.min.ensures c.first_not_before-last.result c.first_not_before-last.ensures.reached c.first_not_before-last.ensures.least in
    let l = few_last c.simulation_laws.ensures c.args.plan.now c.laws.ensures.sound c.args.i c.requires.node c.args.self.now is c.args.stretch.until c.args.end c.first_not_before-last.result counted in
    let q = c.quanta-ran.ensures.value in
    omega arith

pub go-requires-clause-changed : goal.go-requires-clause-changed
go-requires-clause-changed c =
    changed_most c.args.plan.now c.laws.ensures.sound c.args.i c.requires.node c.args.self.now c.requires.cell

pub returns-clause-gone : goal.returns-clause-gone
returns-clause-gone c =
    let p = c.args.plan.now in
    let i = c.args.i in
    let cell = c.args.self.now in
    let is = c.requires.cell in
    let last = c.first_not_before-last.result in
    let s = c.laws.ensures.sound in
    let counted = counted_of p i cell is c.args.stretch.until c.args.end c.requires.until c.requires.due c.requires.stop c.setup.result.now c.setup.ensures
    c.min.result c.min.ensures last c.first_not_before-last.ensures.reached c.first_not_before-last.ensures.least in
    let early = early_last c.simulation_laws.ensures p s i c.requires.node cell is c.args.stretch.until c.args.end last counted in
    let inside = inside_last c.simulation_laws.ensures p s i c.requires.node cell is c.args.stretch.until c.args.end last counted in
    let finds = finds_last c.simulation_laws.ensures p s i c.requires.node cell is c.args.stretch.until c.args.end last counted c.args.stretch refl c.requires.stretch c.requires.from in
    let q = c.quanta-ran.ensures.value in
    IfOk-weaker c.go.result (λ turned. HasGone c.level.result (last - c.quanta-ran.result) cell c.go.new.self turned) (λ turned. HasGoneIn p i c.args.end cell c.go.new.self turned)
    (λ turned gone. gone_in c.simulation_laws.ensures p s i c.requires.node cell c.go.new.self turned c.level.result (last - c.quanta-ran.result) c.args.end is gone
    (λ j f. finds j (omega arith) ∙ sym c.level.ensures) (λ j f. early j (omega arith)) (λ j f. inside j (omega arith))) c.go.ensures.gone
