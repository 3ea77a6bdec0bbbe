use Rattle.std.proofs.Common.{rules, ◌≡◌, ◌∙◌, List, ap, sym, length}
use Rattle.wl_plan.specs.declared.plan.Plan.{Plan}
use Rattle.wl_bound.specs.declared.family.Member.{Member}
use Rattle.wl_bound.specs.Families.{members_of}
use Rattle.wl_bound.specs.Oscillators.{Pace}
use Rattle.wl_bound.proofs.Nodes.{length_members}
use Rattle.wl_bound.proofs.family.Family.of_plan.Goals as goal

-- each node has its place
has_place : (ms : List Member) (plan p : Plan) (paces : List Pace) → ms ≡ members_of plan.nodes paces → length paces ≡ length plan.nodes
    → length plan.nodes ≡ length plan.topology.places → p ≡ plan → length ms ≡ length p.topology.places
has_place ms plan p paces all one_each placed same =
    ap length all ∙ length_members plan.nodes paces one_each ∙ placed ∙ ap (λ (q : Plan). length q.topology.places) (sym same)

pub invariant_of-family : goal.invariant_of-family
invariant_of-family c = record {
  family = has_place _ c.args.plan.now _ c.args.oscillators.now (search rules) c.requires.one_each c.deref.ensures.1.placed c.deref-2.ensures.0;
  terms_are = tt;
  rows = tt;
}

pub invariant_of-family-2 : goal.invariant_of-family-2
invariant_of-family-2 c = record {
  family = has_place _ c.args.plan.now _ c.args.oscillators.now (search rules) c.requires.one_each c.deref.ensures.1.placed c.deref-2.ensures.0;
  terms_are = c.in_ok-terms.ensures;
  rows = tt;
}

pub invariant_of-family-3 : goal.invariant_of-family-3
invariant_of-family-3 c = record {
  family = has_place _ c.args.plan.now _ c.args.oscillators.now (search rules) c.requires.one_each c.deref.ensures.1.placed c.deref-2.ensures.0;
  terms_are = c.in_ok-terms.ensures;
  rows = c.in_ok-rows.ensures;
}
