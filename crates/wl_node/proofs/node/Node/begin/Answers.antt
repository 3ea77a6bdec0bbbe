use Rattle.std.proofs.Common.{[], length, sym, ap, subst, arith}
use Rattle.wl_node.specs.Staying.{IsStaying}
use Rattle.wl_node.proofs.Leaving.{none_yet}
use Rattle.wl_node.proofs.node.Node.begin.Goals as goal

pub returns-clause-node : goal.returns-clause-node
returns-clause-node c =
    (let until = c.in_ok-staying.staying.setup.until in
    let yet = none_yet until in
    record {
      stayed = subst (λ ls. IsStaying ls c.in_ok-staying.staying) (sym yet.there) c.in_ok-staying.ensures.node;
      away = sym (ap length yet.away);
    })

pub invariant_of-result : goal.invariant_of-result
invariant_of-result c =
    (let yet = none_yet c.in_ok-staying.staying.setup.until in
    record {
      few = omega (arith, c.in_ok-staying.ensures.quanta);
      reached = ∣ ([], subst (λ ls. IsStaying ls c.in_ok-staying.staying) (sym yet.there) c.in_ok-staying.ensures.node, sym (ap length yet.away)) ∣₁;
    })
