-- The signals of the tick before are those that were known.
use Rattle.std.proofs.Common.{◌≡◌, ◌∙◌, ◌-◌, ◌++◌, ℕ, ap₂, sym}
use Rattle.wl_plan.specs.declared.plan.Plan.{Plan}
use Rattle.wl_views.specs.Signals.{node_signals}
use Rattle.wl_views.specs.Vcd.{node_changes}
use Rattle.wl_views.proofs.Watching.{awaited, now, remembered}
use Rattle.wl_views.proofs.signals.push_node.Goals as goal

pub go-requires-clause-awaits : goal.go-requires-clause-awaits
go-requires-clause-awaits c =
    awaited c.simulation_laws.ensures c.args.plan.now c.laws.ensures.sound c.args.i c.requires.node c.args.t c.args.probe.now c.requires.some c.requires.was c.requires.past

pub go-requires-clause-limit : goal.go-requires-clause-limit
go-requires-clause-limit c = λ later. c.requires.was.limit

pub returns-clause-lines : goal.returns-clause-lines
returns-clause-lines c =
    let plan : Plan = c.args.plan.now in
    let i : ℕ = c.args.i in
    let t : ℕ = c.args.t in
    let was : c.signals-was.result ≡ node_signals plan (t - 1) i =
    c.signals-was.ensures ∙ sym (now c.simulation_laws.ensures plan c.laws.ensures.sound i c.requires.node (t - 1) c.args.probe.now c.requires.was)
    in
    let is : c.signals.result ≡ node_signals plan t i =
    c.signals.ensures ∙ sym (now c.simulation_laws.ensures plan c.laws.ensures.sound i c.requires.node t c.go.new.self c.go.ensures)
    in
    c.push_node_changes.ensures.lines ∙ ap₂ (λ x y. c.args.text.now.items ++ node_changes i x y) was is

pub go-requires-clause-remembers : goal.go-requires-clause-remembers
go-requires-clause-remembers c =
    remembered c.simulation_laws.ensures c.args.plan.now c.laws.ensures.sound c.args.i c.requires.node c.args.t c.args.probe.now c.requires.was
