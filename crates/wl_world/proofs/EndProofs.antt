-- The end, and the quanta that are left, of a world's value and of its scenes.
use Rattle.std.proofs.Common.{◌≡◌, ℕ, zero, suc, ◌+◌, ◌*◌, ◌-◌, ◌^◌, ◌<◌, ◌≤◌, true, inl, inr, Option, None, Some, List, ◌∷◌, [], length, refl, sym, ◌∙◌, ap, subst, arith, slice_get, nat_le}
use Rattle.std.specs.Prelude.{unwrap_or, is_some}
use Rattle.std.proofs.lemmas.Bool.{cases_lt, cond-true, eq-eqb, eqb-true, false≢true, and_parts, and_from, leb-true, le-leb}
use Rattle.std.proofs.lemmas.Option.{slice_get_within}
use Rattle.wl_plan.specs.Limits.{most_quanta, most_quanta-is}
use Rattle.wl_plan.specs.declared.limits.TheConstants.{MOST_QUANTA}
use Rattle.wl_record_core.specs.declared.limits.TheConstants.{MOST_NODES}
use Rattle.wl_record_core.specs.Limits.{most_nodes-is}
use Rattle.wl_plan.specs.Line.{Line}
use Rattle.wl_plan.specs.Simulation.{ran}
use Rattle.wl_plan.specs.Sound.{IsSound}
use Rattle.wl_plan.specs.SimulationLaws.{SimulationLaws}
use Rattle.wl_plan.specs.PlanLine.{line_of}
use Rattle.wl_plan.specs.Groupings.{GroupingLaws, groups_of, group_of}
use Rattle.wl_plan.specs.Checked.{CheckedIsSound}
use Rattle.wl_plan.specs.declared.plan.Plan.{Plan}
use Rattle.wl_replica.specs.KnownLaws.{KnownLaws}
use Rattle.wl_group.specs.GroupLaws.{GroupLaws}
use Rattle.wl_group.specs.PartyLaws.{PartyLaws}
use Rattle.wl_group.specs.Member.{Member, next_tick}
use Rattle.wl_group.specs.GroupValue.{GroupValue, quanta_at, member_at, members_now, has_ended, belongs as has}
use Rattle.wl_world.specs.Scene.{Cast, Scene, is_of_group, start, possible, done, run}
use Rattle.wl_world.specs.Headline.{AllAtEnd, member_of}
use Rattle.wl_world.specs.Settling.{left_below, quanta_left_in}
use Rattle.wl_world.specs.WorldValue.{WorldValue, IsWorldAt, IsStaffed, IsWorldValue, cast_of}
use Rattle.wl_world.specs.Ended.{AreAtEnd, quanta_in, quanta_run, left_to_run, quanta_left_of, EndLaws}
use Rattle.wl_world.specs.declared.events.Event.TheVariants.{Advance}
use Rattle.wl_world.specs.declared.events.Answer.{Answer}
use Rattle.wl_world.specs.Steps.{HasStepped}
use Rattle.wl_world.specs.Moves.{HasRounded}
use Rattle.wl_world.proofs.WorldProofs.{start_holds, run_holds, world_holds, faithful}
use Rattle.wl_world.proofs.NoStallProofs.{start_told, run_told}
use Rattle.wl_world.proofs.SettlingProofs.{advance_lowers, none_left}
use Rattle.wl_world.proofs.RoundProofs.{round_lowers}
use Rattle.wl_world.proofs.WorldValueProofs.{is_node}
use Rattle.wl_world.proofs.MoveProofs.{set_on, HasMade}

pub get_at : (xs : List GroupValue) (k : ℕ) → k < length xs → (x : GroupValue) × (slice_get xs k ≡ Some x)
get_at [] k b = absurd (omega arith)
get_at (x ∷ xs) zero b = (x, refl)
get_at (x ∷ xs) (suc k) b = get_at xs k (omega arith)

-- Node i stands in a group of the world.
pub record IsPlaced (v : WorldValue) (i : ℕ) : Type 0 where
  pub group : GroupValue
  pub there : slice_get v.groups (group_of v.numbers i) ≡ Some group
  pub member : has group i ≡ true

pub placed : GroupingLaws → (v : WorldValue) → IsStaffed v → (i : ℕ) → i < length v.plan.nodes → IsPlaced v i
placed laws v s i b =
    let here : group_of v.numbers i < groups_of v.numbers = laws.in_one v.numbers i (subst (λ n. i < n) (sym s.grouping.0) b) in
    let g = get_at v.groups (group_of v.numbers i) (subst (λ n. group_of v.numbers i < n) (sym s.count) here) in
    record {
      group = g.0;
      there = g.1;
      member = ap (λ f. f i) (s.members (group_of v.numbers i) g.0 g.1) ∙ eq-eqb (group_of v.numbers i) (group_of v.numbers i) refl;
    }

-- its member there is the scene's
same_member : (v : WorldValue) (w : Scene) → IsWorldAt w v → (h i : ℕ) (g : GroupValue) → slice_get v.groups h ≡ Some g → has g i ≡ true → member_of w h i ≡ members_now g i
same_member v w at h i g e m = (at.groups h g e).members i m

saw_length : SimulationLaws → (l : Line) (i : ℕ) (o : Option ℕ) → is_some o ≡ true → length (member_at l i o).saw ≡ unwrap_or o 0
saw_length sims l i None m = absurd (false≢true m)
saw_length sims l i (Some k) m = sims.length_seen l i k

module _ (laws : GroupingLaws) (sims : SimulationLaws) where
  -- it has run as many quanta
  quanta_same : (v : WorldValue) → IsStaffed v → (w : Scene) → IsWorldAt w v → (i : ℕ) → i < length v.plan.nodes
      → length (member_of w (group_of v.numbers i) i).saw ≡ quanta_run v i
  quanta_same v s w at i b =
      let p = placed laws v s i b in
      ap (λ (m : Member). length m.saw) (same_member v w at (group_of v.numbers i) i p.group p.there p.member)
      ∙ (saw_length sims (line_of p.group.plan) i (quanta_at p.group i) p.member
      ∙ ap (λ o. quanta_in o i) (sym p.there))

  left_same : (v : WorldValue) → IsStaffed v → (w : Scene) → IsWorldAt w v → (n : ℕ) → n ≤ length v.plan.nodes
      → left_below (line_of v.plan) (cast_of v.numbers) w n ≡ left_to_run v n
  left_same v s w at zero b = refl
  left_same v s w at (suc n) b =
      (let r = left_same v s w at n (omega arith) in
      ap (λ k. left_below (line_of v.plan) (cast_of v.numbers) w n + (ran (line_of v.plan) n v.plan.end - k)) (quanta_same v s w at n (omega arith))
      ∙ ap (λ k. k + (ran (line_of v.plan) n v.plan.end - quanta_run v n)) r)

  -- as many are left
  pub left_is : (v : WorldValue) → IsStaffed v → (w : Scene) → IsWorldAt w v → quanta_left_in (line_of v.plan) (cast_of v.numbers) w ≡ quanta_left_of v
  left_is v s w at = left_same v s w at (length v.plan.nodes) (omega arith)

  -- few are
  few_run : (l : Line) → IsSound l → (i : ℕ) → i < l.nodes → ran l i l.stop ≤ most_quanta
  few_run l s i b = elim (cases_lt most_quanta (ran l i l.stop)) [
    | inl over ↦ absurd (let f = s.few_quanta i most_quanta b (sims.ran_inside l i l.stop s.causal b most_quanta over) in omega arith)
    | inr fine ↦ fine
  ]

  few_left : (v : WorldValue) → IsSound (line_of v.plan) → (n : ℕ) → n ≤ length v.plan.nodes → left_to_run v n ≤ n * most_quanta
  few_left v s zero b = omega arith
  few_left v s (suc n) b =
      (let r = few_left v s n (omega arith) in
      let f = few_run (line_of v.plan) s n (omega arith) in
      grind arith)

  pub left_few : (v : WorldValue) → IsSound (line_of v.plan) → quanta_left_of v < 2 ^ 37
  left_few v s =
      let all : quanta_left_of v ≤ length v.plan.nodes * MOST_QUANTA = subst (λ n. quanta_left_of v ≤ length v.plan.nodes * n) most_quanta-is (few_left v s (length v.plan.nodes) (omega arith)) in
      let nodes : length v.plan.nodes ≤ MOST_NODES = subst (λ n. length v.plan.nodes ≤ n) most_nodes-is s.few_nodes in
      omega arith

  -- the end is that of the scene
  pub ended_there : (v : WorldValue) → IsStaffed v → (w : Scene) → IsWorldAt w v → AreAtEnd v → AllAtEnd (line_of v.plan) (cast_of v.numbers) w
  ended_there v s w at e i b =
      let p = placed laws v s i b in
      subst (λ m. v.plan.end ≤ next_tick (line_of v.plan) i m) (sym (same_member v w at (group_of v.numbers i) i p.group p.there p.member))
      (e (group_of v.numbers i) i p.group p.there p.member)

  pub ended_here : (v : WorldValue) → IsStaffed v → (w : Scene) → IsWorldAt w v → AllAtEnd (line_of v.plan) (cast_of v.numbers) w → AreAtEnd v
  ended_here v s w at e h i g there m =
      let in_cast : is_of_group (cast_of v.numbers) h i ≡ true = ap (λ f. f i) (sym (s.members h g there)) ∙ m in
      let b = is_node laws v h i s (slice_get_within v.groups h g there) in_cast in
      let own : group_of v.numbers i ≡ h = eqb-true (group_of v.numbers i) h in_cast in
      subst (λ k. v.plan.end ≤ next_tick (line_of v.plan) i k) (ap (λ k. member_of w k i) own ∙ same_member v w at h i g there m) (e i b)

-- ---- group by group

pub ended_by : (v : WorldValue) → IsStaffed v → ((h i : ℕ) (g : GroupValue) → slice_get v.groups h ≡ Some g → has g i ≡ true → has_ended g i ≡ true) → AreAtEnd v
ended_by v s f h i g there m =
    subst (λ (p : Plan). p.end ≤ next_tick (line_of p) i (members_now g i)) (s.plans h g there)
    (leb-true g.plan.end (next_tick (line_of g.plan) i (members_now g i)) (and_parts (has g i) (nat_le g.plan.end (next_tick (line_of g.plan) i (members_now g i))) (f h i g there m)).1)

pub ended_at : (v : WorldValue) → IsStaffed v → AreAtEnd v → (h i : ℕ) (g : GroupValue) → slice_get v.groups h ≡ Some g → has g i ≡ true → has_ended g i ≡ true
ended_at v s e h i g there m =
    and_from (has g i) (nat_le g.plan.end (next_tick (line_of g.plan) i (members_now g i))) m
    (le-leb g.plan.end (next_tick (line_of g.plan) i (members_now g i))
    (subst (λ (p : Plan). p.end ≤ next_tick (line_of p) i (members_now g i)) (sym (s.plans h g there)) (e h i g there m)))

-- ---- fewer quanta are left

module _ (sims : SimulationLaws) (sounds : CheckedIsSound) (laws : GroupingLaws) (knows : KnownLaws) (groups : GroupLaws) (family : PartyLaws) where
  -- of the scene that a world is, for the line and the cast of an earlier one
  left_on : (l : Line) (c : Cast) (v : WorldValue) → line_of v.plan ≡ l → cast_of v.numbers ≡ c → IsStaffed v → (w : Scene) → IsWorldAt w v → quanta_left_in l c w ≡ quanta_left_of v
  left_on l c v p q s w at = set_on (λ k d. quanta_left_in k d w ≡ quanta_left_of v) l (line_of v.plan) c (cast_of v.numbers) p q (left_is laws sims v s w at)

  -- the end, for the line and the cast of an earlier world
  pub ended_on : (l : Line) (c : Cast) (v : WorldValue) → line_of v.plan ≡ l → cast_of v.numbers ≡ c → IsStaffed v → AreAtEnd v → (w : Scene) → IsWorldAt w v → AllAtEnd l c w
  ended_on l c v p q s e w at = set_on (λ k d. AllAtEnd k d w) l (line_of v.plan) c (cast_of v.numbers) p q (ended_there laws sims v s w at e)

  pub unended_on : (l : Line) (c : Cast) (v : WorldValue) → line_of v.plan ≡ l → cast_of v.numbers ≡ c → IsStaffed v → ¬ (AreAtEnd v) → (w : Scene) → IsWorldAt w v → ¬ (AllAtEnd l c w)
  unended_on l c v p q s not_ended w at e = not_ended (ended_here laws sims v s w at (set_on (λ k d. AllAtEnd k d w) (line_of v.plan) l (cast_of v.numbers) c (sym p) (sym q) e))

  pub in_groups : (v : WorldValue) → IsStaffed v → (i : ℕ) → i < length v.plan.nodes → group_of v.numbers i < groups_of v.numbers
  in_groups v s i b = laws.in_one v.numbers i (subst (λ n. i < n) (sym s.grouping.0) b)

  -- after an advance that may be made
  pub advance_fewer : (old new : WorldValue) → IsWorldValue old → IsWorldValue new → new.plan ≡ old.plan → new.numbers ≡ old.numbers → (h i : ℕ) (a : Answer)
      → ((w : Scene) → IsWorldAt w old → possible (line_of old.plan) (cast_of old.numbers) w (Advance h i) ≡ true)
      → HasStepped IsWorldAt (line_of old.plan) (cast_of old.numbers) (Advance h i) old new a → quanta_left_of new < quanta_left_of old
  advance_fewer old new is will p q h i a can step =
      let l = line_of old.plan in
      let c = cast_of old.numbers in
      let s = sounds old.plan is.staffed.checked in
      let w = run l c is.reached.0 (start l c) in
      let y = can w is.reached.1 in
      let x = done l c w (Advance h i) in
      let there : IsWorldAt x new = subst (λ z. IsWorldAt z new) (cond-true (possible l c w (Advance h i)) x w y) (step w is.reached.1).1 in
      let one : quanta_left_in l c w ≡ suc (quanta_left_in l c x) = advance_lowers sims family l s c w (faithful knows groups family l s c w (world_holds knows groups family l s c is.reached.0)) h i y in
      let had = left_on l c old refl refl is.staffed w is.reached.1 in
      let has_now = left_on l c new (ap line_of p) (ap cast_of q) will.staffed x there in
      omega arith

  -- after a round, where not all were at the end
  pub round_fewer : (old mid new : WorldValue) (n a b : ℕ) → IsWorldValue old → IsWorldValue mid → IsWorldValue new → mid.plan ≡ old.plan → mid.numbers ≡ old.numbers → new.plan ≡ old.plan → new.numbers ≡ old.numbers
      → HasMade (line_of old.plan) (cast_of old.numbers) n a old mid → ((x : Scene) → IsWorldAt x mid → ¬ (AllAtEnd (line_of old.plan) (cast_of old.numbers) x))
      → HasRounded (line_of old.plan) (cast_of old.numbers) a b mid new → quanta_left_of new < quanta_left_of mid
  round_fewer old mid new n a b is mids news mp mn np nn made unended round =
      let l = line_of old.plan in
      let c = cast_of old.numbers in
      let s = sounds old.plan is.staffed.checked in
      let w = run l c is.reached.0 (start l c) in
      let m = made w is.reached.1 in
      let x = run l c m.0 w in
      let r = round x m.2 m.3 in
      let v = world_holds knows groups family l s c is.reached.0 in
      let vx = run_holds knows groups family l s c m.0 w v in
      let t = run_told knows groups family l s c is.reached.0 (start l c) (start_holds knows groups family l s c) (start_told knows groups family l s c) in
      let tx = run_told knows groups family l s c m.0 w v t in
      let y = run l c r.1 (run l c r.0 x) in
      let less : quanta_left_in l c y < quanta_left_in l c x = round_lowers sims knows groups family l s c (in_groups old is.staffed) x vx tx (unended x m.2) r.0 r.1 r.2 in
      let had = left_on l c mid (ap line_of mp) (ap cast_of mn) mids.staffed x m.2 in
      let has_now = left_on l c new (ap line_of np) (ap cast_of nn) news.staffed y r.3 in
      omega arith

  pub end_laws : EndLaws
  end_laws = record {
    left_same = λ v is w at. left_is laws sims v is.staffed w at;
    end_same = λ v is w at. (ended_there laws sims v is.staffed w at, ended_here laws sims v is.staffed w at);
    none_left = λ v is.
        let l = line_of v.plan in
        let c = cast_of v.numbers in
        let s = sounds v.plan is.staffed.checked in
        let w = run l c is.reached.0 (start l c) in
        let at = is.reached.1 in
        let same = left_is laws sims v is.staffed w at in
        let none = none_left sims family l s c (in_groups v is.staffed) w (faithful knows groups family l s c w (world_holds knows groups family l s c is.reached.0)) in
        (λ z. ended_here laws sims v is.staffed w at (none.0 (same ∙ z)), λ e. sym same ∙ none.1 (ended_there laws sims v is.staffed w at e));
  }
