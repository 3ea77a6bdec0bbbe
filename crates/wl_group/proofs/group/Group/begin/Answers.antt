use Rattle.std.proofs.Common.{◌∙◌, refl, sym, ap, subst, length}
use Rattle.wl_plan.specs.declared.plan.Plan.{Plan}
use Rattle.wl_plan.specs.Checked.{IsChecked}
use Rattle.wl_plan.specs.PlanLine.{line_of}
use Rattle.wl_group.specs.Party.{initial_party}
use Rattle.wl_group.specs.GroupValue.{Matches, names, belongs, initial_group}
use Rattle.wl_group.specs.Chosen.{is_chosen}
use Rattle.wl_group.proofs.BeginProofs.{begun_value, begun_kept, names_past}
use Rattle.wl_group.proofs.group.Group.begin.Goals as goal

pub invariant_of-result : goal.invariant_of-result
invariant_of-result c =
    let plan = c.of-plan.result in
    record {
      kept = begun_kept c.value_laws.ensures c.args.lists plan plan (is_chosen c.chosen_of-chosen.result) (names c.args.members.now)
          c.in_ok-cells.cells.items c.in_ok-replica.replica c.in_ok-emitted.emitted.items
          (subst IsChecked (sym (c.of-plan.ensures ∙ c.in_ok-clone_in.ensures)) c.requires.checked) refl c.chosen_of-chosen.ensures
          c.in_ok-cells.ensures.ran c.in_ok-cells.ensures.cells c.in_ok-cells.ensures.listing c.in_ok-replica.ensures c.in_ok-emitted.ensures.items;
      stretches = c.nothing_heard.ensures.heard (line_of plan);
      disturbances = c.nothing_heard-2.ensures.disturbances plan;
      sources = c.in_ok-sources.ensures (line_of plan);
    }

pub returns-clause-value : goal.returns-clause-value
returns-clause-value c =
    begun_value c.args.lists c.of-plan.result c.of-plan.result (is_chosen c.chosen_of-chosen.result) (names c.args.members.now)
    c.in_ok-cells.cells.items c.in_ok-replica.replica c.in_ok-emitted.emitted.items refl c.chosen_of-chosen.ensures
    c.in_ok-cells.ensures.ran c.in_ok-replica.ensures c.in_ok-emitted.ensures.items
    ∙ ap (λ (p : Plan). initial_group c.args.lists p (names c.args.members.now)) (c.of-plan.ensures ∙ c.in_ok-clone_in.ensures)

pub returns-clause-begun : goal.returns-clause-begun
returns-clause-begun c =
    subst (Matches (initial_party (line_of c.args.plan.now) (names c.args.members.now))) (sym (returns-clause-value c))
    (c.value_laws.ensures.begins_as c.args.lists c.args.plan.now c.requires.checked (names c.args.members.now))

pub returns-clause-members : goal.returns-clause-members
returns-clause-members c =
    ap belongs (returns-clause-value c)
    ∙ c.value_laws.ensures.begins_with c.args.lists c.args.plan.now (names c.args.members.now) (λ i b. names_past c.args.members.now (length c.args.plan.now.nodes) i c.requires.nodes b)
