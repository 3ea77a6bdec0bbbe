-- The headline and no stall, of worlds as their calls see them.
use Rattle.std.proofs.Common.{◌≡◌, ℕ, ◌<◌, ◌≤◌, ◌++◌, true, inl, inr, List, Some, Result, Ok, Err, IfOk, IfErr, OnErr, length, take, refl, sym, ◌∙◌, ap, subst, slice_get}
use Rattle.std.specs.Prelude.{Contains, is_some}
use Rattle.std.proofs.lemmas.Bool.{eqb-true, eq-eqb}
use Rattle.std.proofs.lemmas.Option.{slice_get_within}
use Rattle.wl_record_core.specs.Truth.{AreTrueOf}
use Rattle.wl_replica.specs.State.{slots_of, state_of, states_joined}
use Rattle.wl_replica.specs.Slots.{HoldsTrue, slots_of_records}
use Rattle.wl_replica.specs.Known.{horizon}
use Rattle.wl_replica.specs.KnownLaws.{KnownLaws}
use Rattle.wl_replica.specs.Laws.{TakingIsJoining}
use Rattle.wl_replica.specs.SlotsOf.{SlotsOfStates}
use Rattle.wl_plan.specs.Line.{Line}
use Rattle.wl_plan.specs.Simulation.{history, seen, changes, AreInside}
use Rattle.wl_plan.specs.Sound.{IsSound}
use Rattle.wl_plan.specs.SimulationLaws.{SimulationLaws}
use Rattle.wl_plan.specs.PlanLine.{line_of, table_of}
use Rattle.wl_plan.specs.Checked.{CheckedIsSound}
use Rattle.wl_plan.specs.Groupings.{GroupingLaws, groups_of, group_of}
use Rattle.wl_group.specs.Party.{slots}
use Rattle.wl_group.specs.Holds.{IsMember}
use Rattle.wl_group.specs.GroupLaws.{GroupLaws}
use Rattle.wl_group.specs.PartyLaws.{PartyLaws}
use Rattle.wl_group.specs.GroupValue.{GroupValue, quanta_at, member_at, members_now}
use Rattle.wl_group.specs.ValueLaws.{ValueLaws}
use Rattle.wl_world.specs.declared.events.Event.{Event}
use Rattle.wl_world.specs.declared.events.Answer.{Answer}
use Rattle.wl_world.specs.declared.events.Stopped.{Stopped}
use Rattle.wl_world.specs.Scene.{Cast, Scene, is_of_group, start, run}
use Rattle.wl_world.specs.Headline.{IsFaithful, Headline}
use Rattle.wl_world.specs.Steps.{HasRun, HasRunSome, HasSettled, HasMoved}
use Rattle.wl_world.specs.WorldValue.{WorldValue, IsWorldAt, IsStaffed, cast_of}
use Rattle.wl_world.specs.Faithful.{IsFaithfulValue, HasGrown, WorldsAreFaithful, KnowEmitted, WorldsDoNotStall}
use Rattle.std.proofs.lemmas.List.Elements.{Contains-append_right}
use Rattle.wl_world.proofs.WorldProofs.{run_grows, start_holds, world_holds}
use Rattle.wl_world.proofs.NoStallProofs.{start_told, run_told, due_of, some_can_by}
use Rattle.wl_world.proofs.RoundProofs.{run_append}
use Rattle.wl_world.proofs.WorldValueProofs.{is_node, may_there}
use Rattle.wl_world.proofs.EndProofs.{get_at, placed, ended_here, in_groups}

-- the slots of a group are its party's
slots_same : SlotsOfStates → (v : WorldValue) (w : Scene) → IsWorldAt w v → (h : ℕ) (g : GroupValue) → slice_get v.groups h ≡ Some g → slots_of g.replica ≡ slots (w.parties h)
slots_same has_slots v w at h g e = ap slots_of (at.groups h g e).replica ∙ has_slots.records (length g.plan.nodes) (w.parties h).taken

in_cast : (v : WorldValue) → IsStaffed v → (h : ℕ) (g : GroupValue) → slice_get v.groups h ≡ Some g → h < groups_of v.numbers
in_cast v s h g e = subst (λ n. h < n) s.count (slice_get_within v.groups h g e)

quanta_long : SimulationLaws → (g : GroupValue) (i k : ℕ) → quanta_at g i ≡ Some k → length (members_now g i).saw ≡ k
quanta_long sims g i k q = ap (λ o. length (member_at (line_of g.plan) i o).saw) q ∙ sims.length_seen (line_of g.plan) i k

-- of a scene that the world is
at_scene : Headline → SlotsOfStates → SimulationLaws → GroupingLaws → (v : WorldValue) → IsStaffed v → IsSound (line_of v.plan) → (w : Scene) → IsWorldAt w v
    → IsFaithful (line_of v.plan) (cast_of v.numbers) w → IsFaithfulValue v
at_scene headline has_slots sims laws v s sound w at f = record {
  records_true = subst (AreTrueOf (length v.plan.nodes) (table_of v.plan)) (sym at.emitted) f.records_true;
  told_emitted = λ h g e r t.
      subst (λ es. Contains es r) (sym at.emitted) (f.told_emitted h (in_cast v s h g e) r (subst (λ rs. Contains rs r) (at.groups h g e).emitted t));
  replicas_true = truth;
  waves_agree = λ h i t g e b k. headline.replicas_agree (line_of v.plan) sound (slots_of g.replica) (truth h g e) i t b k;
  nodes_placed = λ h i k g e q. (is_member h i k g e q, is_seen h i k g e q);
}
  where
    truth : (h : ℕ) (g : GroupValue) → slice_get v.groups h ≡ Some g → HoldsTrue (length v.plan.nodes) (table_of v.plan) (slots_of g.replica)
    truth h g e = subst (HoldsTrue (length v.plan.nodes) (table_of v.plan)) (sym (slots_same has_slots v w at h g e)) (f.replicas_true h (in_cast v s h g e))

    belongs_there : (h i k : ℕ) (g : GroupValue) → slice_get v.groups h ≡ Some g → quanta_at g i ≡ Some k → is_of_group (cast_of v.numbers) h i ≡ true
    belongs_there h i k g e q = ap (λ t. t i) (sym (s.members h g e)) ∙ ap is_some q

    node_there : (h i k : ℕ) (g : GroupValue) → slice_get v.groups h ≡ Some g → quanta_at g i ≡ Some k → i < length v.plan.nodes
    node_there h i k g e q = is_node laws v h i s (slice_get_within v.groups h g e) (belongs_there h i k g e q)

    is_member : (h i k : ℕ) (g : GroupValue) → slice_get v.groups h ≡ Some g → quanta_at g i ≡ Some k → IsMember (line_of v.plan) i (members_now g i) (slots_of g.replica)
    is_member h i k g e q =
        subst (IsMember (line_of v.plan) i (members_now g i)) (sym (slots_same has_slots v w at h g e))
        (subst (λ m. IsMember (line_of v.plan) i m (slots (w.parties h))) ((at.groups h g e).members i (ap is_some q))
        (f.nodes_placed h i (in_cast v s h g e) (node_there h i k g e q) (eqb-true (group_of v.numbers i) h (belongs_there h i k g e q))))

    is_seen : (h i k : ℕ) (g : GroupValue) → slice_get v.groups h ≡ Some g → quanta_at g i ≡ Some k
        → seen (line_of v.plan) i k ≡ (history (line_of v.plan) ((line_of v.plan).instant i k)).seen i
    is_seen h i k g e q =
        let b = node_there h i k g e q in
        let inside : AreInside (line_of v.plan) i k = subst (AreInside (line_of v.plan) i) (quanta_long sims g i k q) (is_member h i k g e q).inside in
        sym (sims.history_seen (line_of v.plan) i ((line_of v.plan).instant i k) sound.causal b ∙ ap (seen (line_of v.plan) i) (sims.ran_now (line_of v.plan) i k sound.causal b inside))

pub worlds_faithful : Headline → SlotsOfStates → CheckedIsSound → SimulationLaws → GroupingLaws → WorldsAreFaithful
worlds_faithful headline has_slots sounds sims laws v is =
    let s = sounds v.plan is.staffed.checked in
    at_scene headline has_slots sims laws v is.staffed s (run (line_of v.plan) (cast_of v.numbers) is.reached.0 (start (line_of v.plan) (cast_of v.numbers))) is.reached.1
    (headline.faithful (line_of v.plan) s (cast_of v.numbers) is.reached.0)

-- ---- the list of emitted records grows

pub grown : (l : Line) (c : Cast) (old new : WorldValue) (es : List Event) (w : Scene) → IsWorldAt w old → IsWorldAt (run l c es w) new → HasGrown old new
grown l c old new es w was at =
    let g = run_grows l c es w in
    (g.0, at.emitted ∙ (g.1 ∙ ap (λ rs. rs ++ g.0) (sym was.emitted)))

grown_from : (l : Line) (c : Cast) (old new : WorldValue) (before es : List Event) → IsWorldAt (run l c before (start l c)) old → IsWorldAt (run l c (before ++ es) (start l c)) new → HasGrown old new
grown_from l c old new before es was at =
    grown l c old new es (run l c before (start l c)) was (subst (λ z. IsWorldAt z new) (run_append l c before es (start l c)) at)

-- by a list of events, all of them or some
pub run_grown : {A : Type 0} (l : Line) (c : Cast) (events : List Event) (old new : WorldValue) (items : A → List Answer) (r : Result A Stopped)
    → IfOk r (λ x. HasRun IsWorldAt l c events old new (items x)) → IfErr r (λ s. HasRunSome IsWorldAt l c events old new s.done)
    → (before : List Event) → IsWorldAt (run l c before (start l c)) old → HasGrown old new
run_grown l c events old new items (Ok x) ok err before was = grown_from l c old new before events was (ok before was).1
run_grown l c events old new items (Err s) ok err before was = grown_from l c old new before (take s.done events) was (err.1 before was)

-- by a settling, whole or not
pub settle_grown : {E : Type 0} (l : Line) (c : Cast) (old new : WorldValue) (r : Result ℕ E) → IfOk r (λ n. HasSettled IsWorldAt l c old new n) → OnErr r (HasMoved IsWorldAt l c old new)
    → (before : List Event) → IsWorldAt (run l c before (start l c)) old → HasGrown old new
settle_grown l c old new (Ok n) ok err before was = let s = ok before was in grown_from l c old new before s.0 was s.2
settle_grown l c old new (Err e) ok err before was = let s = err before was in grown_from l c old new before s.0 was s.2

-- ---- no stall

module _ (knows : KnownLaws) (groups : GroupLaws) (family : PartyLaws) (values : ValueLaws) (taking : TakingIsJoining) (has_slots : SlotsOfStates) (sounds : CheckedIsSound) (sims : SimulationLaws)
    (laws : GroupingLaws) where
  -- who knows all that was emitted has the slots of one that took it once more
  slots_with : (v : WorldValue) → KnowEmitted v → IsStaffed v → (w : Scene) → IsWorldAt w v → (h : ℕ) (g : GroupValue) → slice_get v.groups h ≡ Some g
      → slots_of_records ((w.parties h).taken ++ w.emitted) ≡ slots (w.parties h)
  slots_with v know s w at h g e =
      let n = length v.plan.nodes in
      let own : g.replica ≡ state_of n (w.parties h).taken = (at.groups h g e).replica ∙ ap (λ p. state_of (length p.nodes) (w.parties h).taken) (s.plans h g e) in
      sym (has_slots.records n ((w.parties h).taken ++ w.emitted))
      ∙ (ap slots_of (sym (taking.both n (w.parties h).taken w.emitted))
      ∙ (ap (λ t. slots_of (states_joined t (state_of n w.emitted))) (sym own)
      ∙ (ap (λ es. slots_of (states_joined g.replica (state_of n es))) (sym at.emitted)
      ∙ (ap slots_of (know h g e)
      ∙ slots_same has_slots v w at h g e))))

  pub worlds_go_on : WorldsDoNotStall
  worlds_go_on v is know =
      let l = line_of v.plan in
      let c = cast_of v.numbers in
      let s = sounds v.plan is.staffed.checked in
      let w = run l c is.reached.0 (start l c) in
      let at = is.reached.1 in
      let scene = world_holds knows groups family l s c is.reached.0 in
      let told = run_told knows groups family l s c is.reached.0 (start l c) (start_holds knows groups family l s c) (start_told knows groups family l s c) in
      let gs = in_groups sims sounds laws knows groups family v is.staffed in
      elim (some_can_by knows groups family l s c w gs (λ h hb i b.
      let g = get_at v.groups h (subst (λ n. h < n) (sym is.staffed.count) hb) in
      let same = slots_with v know is.staffed w at h g.0 g.1 in
      let own = (scene.groups (c.group_of i) (gs i b)).each i b (eq-eqb _ _ refl) in
      subst (λ z. due_of l c w i ≤ horizon z i) same
      (groups.told_known l s i ((w.parties (c.group_of i)).members i) (slots (w.parties (c.group_of i))) b own w.emitted ((w.parties h).taken ++ w.emitted)
      (subst (HoldsTrue l.nodes (changes l)) (sym same) (scene.groups h hb).truth) (λ r t. Contains-append_right (w.parties h).taken w.emitted r t) (told.told i b)))) [
        | inl can ↦
            let p = placed laws v is.staffed can.0 can.1 in
            inl (record {
              place = group_of v.numbers can.0;
              node = can.0;
              group = p.group;
              there = p.there;
              may = sym (may_there laws values v is.staffed (group_of v.numbers can.0) p.group (slice_get_within v.groups (group_of v.numbers can.0) p.group p.there) p.there w at can.0) ∙ can.2;
            })
        | inr ends ↦ inr (ended_here laws sims v is.staffed w at ends)
      ]
