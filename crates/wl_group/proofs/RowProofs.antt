-- What is known of the line at a place, and that nothing may run where it isn't.
use Rattle.std.proofs.Common.{◌≡◌, ℕ, ◌+◌, ◌<◌, ◌≤◌, ◌&&◌, Bool, false, inl, inr, length, nat_lt, ◌∙◌, ap, subst, arith}
use Rattle.std.proofs.lemmas.Bool.{cases_lt, and_right, le-ltb}
use Rattle.wl_topology.specs.Delays.{delay_of}
use Rattle.wl_replica.specs.State.{slots_of}
use Rattle.wl_replica.specs.Known.{place_horizon, horizon}
use Rattle.wl_replica.specs.KnownLaws.{KnownLaws}
use Rattle.wl_plan.specs.PlanLine.{line_of}
use Rattle.wl_group.specs.Member.{next_tick}
use Rattle.wl_group.specs.GroupValue.{GroupValue, IsGroupValue, belongs, members_now, may_run}
use Rattle.wl_group.specs.Going.{IsKnownAt}

-- where the line isn't known, nothing may run
not_known_yet : (b : Bool) (t stop known : ℕ) → known ≤ t → (b && (nat_lt t stop && nat_lt t known)) ≡ false
not_known_yet b t stop known h = and_right b (nat_lt t stop && nat_lt t known) (and_right (nat_lt t stop) (nat_lt t known) (le-ltb t known h))

-- what a replica answers is of the group
pub known_at : (g now : GroupValue) → IsGroupValue g → g ≡ now → (i known : ℕ) → known ≡ place_horizon g.replica.nodes (delay_of g.plan.topology) (slots_of g.replica) i
    → IsKnownAt now i known
known_at g now v view i known e =
    subst (λ (w : GroupValue). IsKnownAt w i known) view (e ∙ ap (λ n. place_horizon n (delay_of g.plan.topology) (slots_of g.replica) i) v.of_all)

-- what comes from one node only later isn't known before
behind : KnownLaws → (g : GroupValue) (i j tick h d : ℕ) → i < length g.plan.nodes → h ≡ horizon (slots_of g.replica) i → d ≡ delay_of g.plan.topology i j → h + d ≤ tick
    → place_horizon (length g.plan.nodes) (delay_of g.plan.topology) (slots_of g.replica) j ≤ tick
behind knows g i j tick h d b eh ed le = elim (cases_lt tick (place_horizon (length g.plan.nodes) (delay_of g.plan.topology) (slots_of g.replica) j)) [
  | inl less ↦
      let k = knows.place_known (length g.plan.nodes) (delay_of g.plan.topology) (slots_of g.replica) i j tick b less in
      absurd (omega (arith, k, eh, ed, le))
  | inr past ↦ past
]

pub stuck_behind : KnownLaws → (g : GroupValue) (i j tick h d : ℕ) → i < length g.plan.nodes → tick ≡ next_tick (line_of g.plan) j (members_now g j)
    → h ≡ horizon (slots_of g.replica) i → d ≡ delay_of g.plan.topology i j → h + d ≤ tick → may_run g j ≡ false
stuck_behind knows g i j tick h d b et eh ed le =
    not_known_yet (belongs g j) (next_tick (line_of g.plan) j (members_now g j)) g.plan.end (place_horizon (length g.plan.nodes) (delay_of g.plan.topology) (slots_of g.replica) j)
    (subst (λ t. place_horizon (length g.plan.nodes) (delay_of g.plan.topology) (slots_of g.replica) j ≤ t) et (behind knows g i j tick h d b eh ed le))
