-- The name of this node, or of none so far.
use Rattle.std.proofs.Common.{◌∙◌, sym, ap}
use Rattle.std.specs.Str.{bytes_eq}
use Rattle.wl_setup.proofs.Named.{named_here, named_later}
use Rattle.wl_setup.proofs.plan.node_named.Goals as goal

pub returns-then-eq-clause-number : goal.returns-then-eq-clause-number
returns-then-eq-clause-number c =
    named_here c.args.nodes.now c.loop-i.i c.index-nodes-i.result c.args.name.now _ c.loop-i-test.true c.index-nodes-i.is
    (ap (bytes_eq c.args.name.now) (sym c.as_str.ensures) ∙ sym c.eq.ensures ∙ c.if-eq.true) c.loop-i.invariant

pub loop-i-preserved : goal.loop-i-preserved
loop-i-preserved c =
    named_later c.args.nodes.now c.loop-i.i c.index-nodes-i.result c.args.name.now _ c.loop-i-test.true c.index-nodes-i.is
    (ap (bytes_eq c.args.name.now) (sym c.as_str.ensures) ∙ sym c.eq.ensures ∙ c.if-eq.false) c.loop-i.invariant
