-- Quanta of one level take the node on, on each line on which it was there and finds that level.
use Rattle.std.proofs.Common.{◌≡◌, suc, ◌+◌, ◌-◌, ◌++◌, ◌∷◌, [], if◌then◌else◌, refl, ◌∙◌, ap, subst, arith}
use Rattle.wl_level.specs.Levels.{same}
use Rattle.wl_clock.specs.Timing.{tick_of}
use Rattle.wl_node.specs.Reached.{HasGone, quanta_of}
use Rattle.wl_plan.specs.Limits.{most_quanta-is}
use Rattle.wl_plan.specs.PlanLine.{line_of, setup_at}
use Rattle.wl_serial.specs.declared.running_node.Running.{Running}
use Rattle.wl_serial.specs.Running.{one_more}
use Rattle.wl_serial.proofs.Along.{all_gone, few_quanta, followed_none, followed_on, quantum_later}
use Rattle.wl_serial.proofs.running_node.Running.run.Goals as goal

pub returns-then-stop-quanta-clause-ran : goal.returns-then-stop-quanta-clause-ran
returns-then-stop-quanta-clause-ran c = followed_none c.args.plan.now c.args.i c.args.until (λ t. c.args.level) _ c.requires.somewhere

pub returns-then-stop-quanta-clause-later : goal.returns-then-stop-quanta-clause-later
returns-then-stop-quanta-clause-later c below =
    let plan = c.args.plan.now in
    let e = ap (λ u. tick_of u.clock c.first_not_before-stop.result) c.node.ensures in
    let f = c.first_not_before-stop.ensures.reached in
    let g = c.simulation_laws.ensures.clock_later (line_of plan) c.args.i c.first_not_before-stop.result (quanta_of c.args.self.now.node) c.laws.ensures.sound.causal c.requires.node
    (let h = c.quanta-quanta.ensures.value in omega (arith, h, c.if-stop-quanta.true)) in
    absurd (omega (arith, below, e, f, g))

pub returns-then-stop-quanta-clause-reached : goal.returns-then-stop-quanta-clause-reached
returns-then-stop-quanta-clause-reached c levels node none =
    let plan = c.args.plan.now in
    let e = ap (λ u. tick_of u.clock c.first_not_before-stop.result) c.node.ensures in
    let f = c.first_not_before-stop.ensures.reached in
    let g = c.simulation_laws.ensures.clock_later (line_of plan) c.args.i c.first_not_before-stop.result (quanta_of c.args.self.now.node) c.laws.ensures.sound.causal c.requires.node
    (let h = c.quanta-quanta.ensures.value in omega (arith, h, c.if-stop-quanta.true)) in
    omega (arith, e, f, g)

pub go-requires-clause-short : goal.go-requires-clause-short
go-requires-clause-short c =
    let few = few_quanta c.args.plan.now c.args.i c.first_not_before-stop.result c.args.until _ c.laws.ensures.sound c.requires.node c.node.ensures c.requires.ends
    c.first_not_before-stop.ensures.least in
    omega (arith, few, c.quanta-quanta.ensures.value, c.if-stop-quanta.false, most_quanta-is)

pub keep_change-requires : goal.keep_change-requires
keep_change-requires c =
    let few = few_quanta c.args.plan.now c.args.i c.first_not_before-stop.result c.args.until _ c.laws.ensures.sound c.requires.node c.node.ensures c.requires.ends
    c.first_not_before-stop.ensures.least in
    omega (arith, few, c.in_ok-last.ensures.few, c.if-stop-quanta.false, most_quanta-is)

pub returns-clause-ran : goal.returns-clause-ran
returns-clause-ran c =
    let plan = c.args.plan.now in
    let k = c.requires.somewhere.0 in
    let p = c.in_ok-last.field-0 - 1 in
    let old = c.args.self.now.changes in
    let new : Running = record { node = c.go.new.self; changes = c.keep_change.new.changes; next = c.args.self.now.next; known = c.args.self.now.known } in
    let x = same c.drive-after.result c.drive-before.result in
    let some = c.in_ok-last.ensures.some in
    let here : c.quanta-quanta.result ≡ k = c.quanta-quanta.ensures.value ∙ c.requires.somewhere.1.quanta in
    let last : c.quanta-quanta.result + c.in_ok-last.field-0 - 1 ≡ k + p = omega (arith, here, some) in
    let count : c.in_ok-last.field-0 ≡ suc p = omega (arith, some) in
    followed_on plan c.args.i k p c.args.until c.args.self.now new c.args.level c.drive-before.result c.drive-after.result c.simulation_laws.ensures c.table_laws.ensures
    c.laws.ensures.sound c.requires.node c.requires.ends c.requires.somewhere.1
    (λ m b.
    let e = ap (λ u. tick_of u.clock (k + m)) c.node.ensures in
    let f = c.first_not_before-stop.ensures.least (k + m) (omega (arith, here, some, b, c.in_ok-last.ensures.few, c.if-stop-quanta.false)) in
    omega (arith, e, f))
    (subst (λ n. HasGone c.args.level n c.args.self.now.node c.go.new.self) count c.in_ok-last.ensures.gone) c.drive-before.ensures c.drive-after.ensures
    (c.in_ok-change.ensures.kept
    ∙ (ap (λ n. if x then old else old ++ tick_of c.node.result.now.clock n ∷ []) last ∙ ap (λ u. if x then old else old ++ tick_of u.clock (k + p) ∷ []) c.node.ensures))
    refl

pub returns-clause-later : goal.returns-clause-later
returns-clause-later c below =
    let more = c.in_ok-last.ensures.gone.quanta in
    quantum_later c.args.plan.now c.args.i (quanta_of c.args.self.now.node) (quanta_of c.go.new.self) c.simulation_laws.ensures c.laws.ensures.sound c.requires.node
    (omega (arith, more, c.in_ok-last.ensures.some))

pub returns-clause-reached : goal.returns-clause-reached
returns-clause-reached c levels node none =
    let kept = c.in_ok-change.ensures.told ∙ ap (one_more c.args.self.now.changes) none in
    let most = c.first_not_before-stop.result - c.quanta-quanta.result in
    let all = all_gone c.args.self.now.node c.go.new.self c.args.level c.drive-before.result c.drive-after.result c.in_ok-last.field-0 most _ levels c.args.self.now.changes
    c.keep_change.new.changes c.in_ok-last.ensures.gone c.in_ok-last.ensures.few c.in_ok-last.ensures.turned c.drive-before.ensures c.drive-after.ensures c.in_ok-change.ensures.kept kept node in
    let more = c.in_ok-last.ensures.gone.quanta in
    let there : c.first_not_before-stop.result ≡ quanta_of c.go.new.self = omega (arith, all, more, c.quanta-quanta.ensures.value, c.if-stop-quanta.false) in
    let e = ap (λ u. tick_of u.clock c.first_not_before-stop.result) c.node.ensures in
    let f = ap (λ n. tick_of (setup_at c.args.plan.now c.args.i).clock n) there in
    let g = c.first_not_before-stop.ensures.reached in
    omega (arith, e, f, g)
