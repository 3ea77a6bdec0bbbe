-- Workers that all wait are at their ends: of the members that are not, the one with the least promise of all would run.
use Rattle.std.proofs.Common.{◌≡◌, ℕ, zero, suc, ◌+◌, ◌<◌, ◌≤◌, true, false, ◌&&◌, Option, Some, None, is_some, inl, inr, length, nat_le, refl, sym, ◌∙◌, ap, subst, arith, true≢false}
use Rattle.std.proofs.lemmas.Bool.{cases_lt, cases_Bool, and_from, and_parts, lt-ltb, leb-true, leb-false}
use Rattle.wl_replica.specs.State.{slots_of}
use Rattle.wl_replica.specs.Known.{place_horizon}
use Rattle.wl_replica.specs.KnownLaws.{KnownLaws}
use Rattle.wl_plan.specs.declared.plan.Plan.{Plan}
use Rattle.wl_plan.specs.PlanLine.{line_of}
use Rattle.wl_plan.specs.Checked.{CheckedIsSound}
use Rattle.wl_group.specs.Member.{next_tick}
use Rattle.wl_group.specs.GroupValue.{GroupValue, IsGroupValue, quanta_at, belongs, members_now, may_run, has_ended}
use Rattle.wl_group.specs.ValueLaws.{ValueLaws}
use Rattle.wl_worker.specs.Finished.{MembersEnded}
use Rattle.wl_worker.specs.Waiting.{promise_of, IsBlocked, KnowAll, BlockedHaveEnded}

-- ---- members

by_quanta : (laws : ValueLaws) (g : GroupValue) → IsGroupValue g → (j : ℕ) (q : Option ℕ) → quanta_at g j ≡ q → is_some q ≡ true → j < g.replica.nodes
by_quanta laws g v j None e o = absurd (true≢false (sym o))
by_quanta laws g v j (Some k) e o = subst (λ m. j < m) (sym v.of_all) (laws.quanta_few g v j k e).0

-- a member is a node
member_below : (laws : ValueLaws) (g : GroupValue) → IsGroupValue g → (j : ℕ) → belongs g j ≡ true → j < g.replica.nodes
member_below laws g v j o = by_quanta laws g v j (quanta_at g j) refl o

-- so where all nodes that are members are at their ends, all members are
pub all_nodes : (laws : ValueLaws) (g : GroupValue) → IsGroupValue g → (n : ℕ) → g.replica.nodes ≤ n → ((j : ℕ) → j < n → belongs g j ≡ true → has_ended g j ≡ true) → MembersEnded g
all_nodes laws g v n all h = λ j o. let b = member_below laws g v j o in h j (omega arith) o

-- ---- what is known at a place

-- the tick of a member's next quantum
abbrev due_at : GroupValue → ℕ → ℕ
due_at g i = next_tick (line_of g.plan) i (members_now g i)

module _ (laws : ValueLaws) (g : GroupValue) (v : IsGroupValue g) (i : ℕ) (o : belongs g i ≡ true) where
  node_of : i < length g.plan.nodes
  node_of = subst (λ m. i < m) v.of_all (member_below laws g v i o)

  -- its promise reaches it
  due_promised : due_at g i ≤ promise_of g i
  due_promised = (v.holds.each i node_of o).known

  -- where the member is at its end the promise reaches the end
  ended_far : has_ended g i ≡ true → g.plan.end ≤ promise_of g i
  ended_far e =
      let late : g.plan.end ≤ due_at g i = leb-true _ _ (and_parts (belongs g i) (nat_le g.plan.end (due_at g i)) e).1 in
      let p = due_promised in
      omega arith

  -- and where it is not its next quantum is before the end
  runs_early : has_ended g i ≡ false → due_at g i < g.plan.end
  runs_early e =
      leb-false g.plan.end (due_at g i) (sym (ap (λ b. b && nat_le g.plan.end (due_at g i)) o) ∙ e)

module _ (laws : ValueLaws) (knows : KnownLaws) (sound : CheckedIsSound) (plan : Plan) (workers : ℕ) (groups : ℕ → GroupValue)
    (all : KnowAll plan workers groups) (blocked : (w : ℕ) → w < workers → IsBlocked (groups w)) where
  -- a member that is not at its end
  record Stuck (w i : ℕ) : Type 0 where
    worker : w < workers
    member : belongs (groups w) i ≡ true
    runs : has_ended (groups w) i ≡ false

  -- what each node drives is known at its place at its next quantum, if no member of less promise is not at its end
  known_there : (w i : ℕ) → Stuck w i → ((v j : ℕ) → Stuck v j → promise_of (groups v) j < promise_of (groups w) i → ⊥)
      → (n : ℕ) → n < length plan.nodes → due_at (groups w) i < promise_of (groups w) n + (line_of (groups w).plan).delay n i
  known_there w i s none_less n b =
      let g = groups w in
      let vg = all.value w s.worker in
      let is_node : i < length g.plan.nodes = node_of laws g vg i s.member in
      let is_other : n < length g.plan.nodes = subst (λ (p : Plan). n < length p.nodes) (sym (all.plan_is w s.worker)) b in
      let way = (sound g.plan vg.checked).causal.delays n i is_other is_node in
      let due = due_promised laws g vg i s.member in
      let early = runs_early laws g vg i s.member s.runs in
      let has = all.one_has n b in
      let h = groups has.0 in
      let vh = all.value has.0 has.1 in
      let told = all.told has.0 w n has.1 s.worker has.2 in
      let same : g.plan.end ≡ h.plan.end = ap (λ (p : Plan). p.end) (all.plan_is w s.worker ∙ sym (all.plan_is has.0 has.1)) in
      elim (cases_Bool (has_ended h n)) [
        | inl ended ↦ (let far = ended_far laws h vh n has.2 ended in omega arith)
        | inr runs ↦ elim (cases_lt (promise_of h n) (promise_of g i)) [
          | inl lower ↦ absurd (none_less has.0 n (record { worker = has.1; member = has.2; runs = runs }) lower)
          | inr more ↦ omega arith
        ]
      ]

  -- so it may run
  runs_there : (w i : ℕ) → Stuck w i → ((v j : ℕ) → Stuck v j → promise_of (groups v) j < promise_of (groups w) i → ⊥) → ⊥
  runs_there w i s none_less =
      let g = groups w in
      let vg = all.value w s.worker in
      let l = line_of g.plan in
      let some = (sound g.plan vg.checked).some_node in
      let early = runs_early laws g vg i s.member s.runs in
      let known : due_at g i < place_horizon l.nodes l.delay (slots_of g.replica) i =
      knows.place_above l.nodes l.delay (slots_of g.replica) i (due_at g i) some
      (λ n b. known_there w i s none_less n (subst (λ (p : Plan). n < length p.nodes) (all.plan_is w s.worker) b)) in
      let can : may_run g i ≡ true = and_from _ _ s.member (and_from _ _ (lt-ltb _ _ early) (lt-ltb _ _ known)) in
      true≢false (sym can ∙ blocked w s.worker i)

  none_stuck : (n w i : ℕ) → Stuck w i → promise_of (groups w) i < n → ⊥
  none_stuck zero w i s less = omega arith
  none_stuck (suc n) w i s less = runs_there w i s (λ v j t lower. none_stuck n v j t (omega arith))

  all_ended : (w : ℕ) → w < workers → MembersEnded (groups w)
  all_ended w b i o = elim (cases_Bool (has_ended (groups w) i)) [
    | inl ended ↦ ended
    | inr runs ↦ absurd (none_stuck (suc (promise_of (groups w) i)) w i (record { worker = b; member = o; runs = runs }) (omega arith))
  ]

pub blocked_have_ended : ValueLaws → KnownLaws → CheckedIsSound → BlockedHaveEnded
blocked_have_ended laws knows sound plan workers groups all blocked w b = all_ended laws knows sound plan workers groups all blocked w b
