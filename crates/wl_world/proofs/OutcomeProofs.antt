-- What the nodes of a world have done, where all are at the end.
use Rattle.std.proofs.Common.{◌≡◌, ℕ, ◌<◌, ◌≤◌, true, Some, List, length, sym, ◌∙◌, ap, subst, slice_get}
use Rattle.std.specs.Prelude.{unwrap_or}
use Rattle.std.proofs.lemmas.Bool.{eq-eqb}
use Rattle.std.proofs.lemmas.Option.{slice_get_within}
use Rattle.wl_node.specs.declared.setup.NodeSetup.{NodeSetup}
use Rattle.wl_node.specs.History.{history_of}
use Rattle.wl_plan.specs.PlanLine.{setup_at, line_of, table_of}
use Rattle.wl_plan.specs.Checked.{CheckedIsSound}
use Rattle.wl_plan.specs.Groupings.{GroupingLaws, most_groups, group_of}
use Rattle.wl_group.specs.Member.{next_tick}
use Rattle.wl_group.specs.GroupLaws.{GroupLaws}
use Rattle.wl_group.specs.GroupValue.{GroupValue, IsGroupValue, members_now, belongs as has}
use Rattle.wl_serial.specs.declared.outcome.NodeOutcome.{NodeOutcome}
use Rattle.wl_serial.specs.Outcome.{outcome_of_history, node_outcome_of}
use Rattle.wl_world.specs.WorldValue.{WorldValue, IsStaffed}

-- the group that the grouping names has the node
pub member_there : (v : WorldValue) → IsStaffed v → (i h : ℕ) (g : GroupValue) → Some h ≡ slice_get v.numbers i → slice_get v.groups h ≡ Some g → has g i ≡ true
member_there v s i h g e there = ap (λ f. f i) (s.members h g there) ∙ eq-eqb (group_of v.numbers i) h (ap (λ o. unwrap_or o most_groups) (sym e))

pub group_there : GroupingLaws → (v : WorldValue) → IsStaffed v → (i h : ℕ) → Some h ≡ slice_get v.numbers i → h < length v.groups
group_there laws v s i h e =
    subst (λ k. k < length v.groups) (ap (λ o. unwrap_or o most_groups) (sym e))
    (subst (λ n. group_of v.numbers i < n) (sym s.count) (laws.in_one v.numbers i (slice_get_within v.numbers i h (sym e))))

-- a member at the end has seen all that its node sees in the one-thread simulation, and has made all its changes
pub outcome_here : GroupLaws → CheckedIsSound → (g : GroupValue) → IsGroupValue g → (i : ℕ) → i < length g.plan.nodes → has g i ≡ true → g.plan.end ≤ next_tick (line_of g.plan) i (members_now g i)
    → (setup : NodeSetup) → setup ≡ setup_at g.plan i → (changes : List ℕ) → changes ≡ table_of g.plan i
    → (told : NodeOutcome) → told ≡ outcome_of_history setup changes (history_of setup (members_now g i).saw) → told ≡ node_outcome_of g.plan i
outcome_here groups sounds g is i b m late setup e changes f told t =
    let all = groups.member_ended (line_of g.plan) (sounds g.plan is.checked) i (members_now g i) _ b (is.holds.each i b m) late in
    t
    ∙ (ap (λ x. outcome_of_history x changes (history_of x (members_now g i).saw)) e
    ∙ (ap (λ cs. outcome_of_history (setup_at g.plan i) cs (history_of (setup_at g.plan i) (members_now g i).saw)) f
    ∙ ap (λ saw. outcome_of_history (setup_at g.plan i) (table_of g.plan i) (history_of (setup_at g.plan i) saw)) all.0))
