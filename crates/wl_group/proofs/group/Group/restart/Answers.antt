use Rattle.std.proofs.Common.{refl, sym, ◌∙◌, ap, subst}
use Rattle.wl_plan.specs.PlanLine.{line_of}
use Rattle.wl_group.specs.Party.{initial_party}
use Rattle.wl_group.specs.GroupValue.{GroupValue, IsGroupValue, Matches, belongs, initial_group}
use Rattle.wl_group.specs.Chosen.{is_chosen}
use Rattle.wl_group.proofs.BeginProofs.{begun_value, begun_kept, belongs_past}
use Rattle.wl_group.proofs.group.Group.restart.Goals as goal

pub invariant_of-self : goal.invariant_of-self
invariant_of-self c =
    record {
      kept = begun_kept c.value_laws.ensures c.self.inside.lists c.self.inside.plan c.self.inside.plan (is_chosen c.chosen-chosen.result) (is_chosen c.chosen-chosen.result)
          c.in_ok-cells.cells.items c.in_ok-replica.replica c.clear.new.self.items c.self.invariant.kept.value.checked refl (λ i. refl)
          c.in_ok-cells.ensures.ran c.in_ok-cells.ensures.cells c.in_ok-cells.ensures.listing c.in_ok-replica.ensures c.clear.ensures.items;
      stretches = c.self.invariant.stretches;
      disturbances = c.self.invariant.disturbances;
      sources = c.self.invariant.sources;
    }

pub returns-clause-ok : goal.returns-clause-ok
returns-clause-ok c =
    begun_value c.self.inside.lists c.self.inside.plan c.self.inside.plan (is_chosen c.chosen-chosen.result) (belongs c.args.self.now)
    c.in_ok-cells.cells.items c.in_ok-replica.replica c.clear.new.self.items refl c.chosen-chosen.ensures
    c.in_ok-cells.ensures.ran c.in_ok-replica.ensures c.clear.ensures.items
    ∙ ap (λ (v : GroupValue). initial_group v.lists v.plan (belongs c.args.self.now)) c.self.view_is

pub returns-clause-begun : goal.returns-clause-begun
returns-clause-begun c =
    let v = subst IsGroupValue c.self.view_is c.self.invariant.kept.value in
    subst (Matches (initial_party (line_of c.args.self.now.plan) (belongs c.args.self.now))) (sym (returns-clause-ok c))
    (c.value_laws.ensures.begins_as c.args.self.now.lists c.args.self.now.plan v.checked (belongs c.args.self.now))

pub returns-clause-members : goal.returns-clause-members
returns-clause-members c =
    let v = subst IsGroupValue c.self.view_is c.self.invariant.kept.value in
    ap belongs (returns-clause-ok c)
    ∙ c.value_laws.ensures.begins_with c.args.self.now.lists c.args.self.now.plan (belongs c.args.self.now) (λ i b. belongs_past c.args.self.now v i b)
