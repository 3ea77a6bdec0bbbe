use Rattle.std.proofs.Common.{◌-◌, ap, sym, ◌∙◌}
use Rattle.wl_node.specs.Reached.{quanta_of}
use Rattle.wl_group.proofs.StoppedProofs.{stopped_at_once}
use Rattle.wl_group.proofs.cell.run_some.Goals as goal

-- src/cell.rt:53:17
pub returns-then-ran-eq0-clause-same : goal.returns-then-ran-eq0-clause-same
returns-then-ran-eq0-clause-same c =
    stopped_at_once c.args.level c.args.most c.args.node.now c.go.new.self c.in-Err.ensures.stopped
    (ap (λ k. k - quanta_of c.args.node.now) (sym c.quanta.ensures.value) ∙ ap (λ k. c.quanta.result - k) (sym c.quanta-before.ensures.value) ∙ c.if-ran-eq0.true)
