use Rattle.std.proofs.Common.{rules, ◌≡◌, ◌∙◌, List, ap, length}
use Rattle.wl_topology.specs.Delays.{Cable}
use Rattle.wl_bound.specs.declared.family.Member.{Member}
use Rattle.wl_bound.specs.Families.{only_listens, sending}
use Rattle.wl_bound.proofs.Nodes.{length_sending}
use Rattle.wl_bound.proofs.family.Family.all_sending.Goals as goal

-- each node keeps its place
has_place : (ms old : List Member) (cable : Cable) → ms ≡ sending (only_listens cable) 0 old → length old ≡ length cable.places
    → length ms ≡ length cable.places
has_place ms old cable all placed = ap length all ∙ (length_sending (only_listens cable) 0 old ∙ placed)

pub invariant_of-family : goal.invariant_of-family
invariant_of-family c = record {
  family = has_place _ c.self.inside.members c.self.inside.cable (search rules) c.self.invariant.family;
  terms_are = tt;
  rows = tt;
}

pub invariant_of-family-2 : goal.invariant_of-family-2
invariant_of-family-2 c = record {
  family = has_place _ c.self.inside.members c.self.inside.cable (search rules) c.self.invariant.family;
  terms_are = c.in_ok-terms.ensures;
  rows = tt;
}

pub invariant_of-family-3 : goal.invariant_of-family-3
invariant_of-family-3 c = record {
  family = has_place _ c.self.inside.members c.self.inside.cable (search rules) c.self.invariant.family;
  terms_are = c.in_ok-terms.ensures;
  rows = c.in_ok-rows.ensures;
}
