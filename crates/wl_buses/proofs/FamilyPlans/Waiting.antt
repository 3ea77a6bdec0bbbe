-- What the tests of a plan say of its first frames.
use Rattle.std.proofs.Common.{◌≡◌, ◌≢◌, ◌∙◌, refl, sym, ap, ℕ, zero, suc, ◌<◌, ◌≤◌, List, [], ◌∷◌, length, get_or, All, subst, Bool, true, false, cond, not, ◌&&◌, ◌||◌, nat_lt, Option, Some, None, arith, map}
use Rattle.std.specs.Prelude.{◌==◌, slice_get}
use Rattle.std.specs.Bool.{beq}
use Rattle.std.specs.List.{list_any}
use Rattle.std.specs.Option.{is_some}
use Rattle.std.proofs.lemmas.Bool.{and_from, or_right, ltb-false, not-false, ne_eqb, eq-eqb}
use Rattle.wl_level.specs.Places.{first_place}
use Rattle.wl_level.proofs.Callers.{first_is, first_none}
use Rattle.wl_topology.specs.Driven.{any_below}
use Rattle.wl_topology.proofs.Callers.{any_one}
use Rattle.wl_frame.specs.Grammar.{Content, IsContent}
use Rattle.wl_frame.specs.Laws.{HaveSameField}
use Rattle.wl_node.specs.declared.setup.NodeSetup.{NodeSetup}
use Rattle.wl_node.specs.declared.setup.Queued.{Queued}
use Rattle.wl_plan.specs.declared.plan.Plan.{Plan}
use Rattle.wl_plan.specs.PlanLine.{no_setup, setup_at}
use Rattle.wl_phase.specs.Clocks.{Steady}
use Rattle.wl_wire.specs.InStep.{AreSoundFrames, Has}
use Rattle.wl_bound.proofs.Sound.{is_none_of}
use Rattle.wl_bound.specs.declared.verdict.Outside.{Outside}
use Rattle.wl_bound.specs.Covered.{is_covered}
use Rattle.wl_bound.specs.Families.{Buses, family_of, member_at, members_of, no_member, sends_in}
use Rattle.wl_bound.specs.Oscillators.{Pace}
use Rattle.wl_bound.specs.Conditions.{plain}
use Rattle.wl_bound.specs.Verdicts.{has_frames, has_same_field, idle_at, is_ready_from, or_cause, outside_of, pair_at, pair_in, sends_something, share_field, shares, shares_with}
use Rattle.wl_buses.specs.OneFrame.Stations.{Stations}
use Rattle.wl_buses.specs.FirstFrame.FirstFrames.{AreIdleWhenReady, HasFrames, queues_of}
use Rattle.wl_buses.specs.FamilyPlans.FamilyStations.{AreContents, NoneListens, SendAsFamily, stations_of}
use Rattle.wl_buses.proofs.BothProofs.Small.{none_below, covered_each}
use Rattle.wl_buses.proofs.FirstFrame.Deciding.{whole_begins}

pub no_cause : (v : Bool) (cause : Outside) (o : Option Outside) → cond v (Some cause) o ≡ None → (v ≡ false) × (o ≡ None)
no_cause false cause o e = (refl, e)
no_cause true cause o e = cc

pub neither : (a b : Option Outside) → or_cause a b ≡ None → (a ≡ None) × (b ≡ None)
neither None b e = (refl, e)
neither (Some x) b e = cc

module _ (plan : Plan) (covered : is_covered plan ≡ true) where
  pub speaks : NoneListens plan
  speaks i ni = (covered_each plan covered i ni).0

  pub idle : (s : Stations) → s.count ≡ length plan.nodes → AreIdleWhenReady plan s
  idle s count i k ni nk apart =
      let busy = none_below (length plan.nodes) (λ j. not (j == k) && not (is_ready_from (setup_at plan k) (setup_at plan k).queue (idle_at (setup_at plan j))))
      (covered_each plan covered k (omega arith)).2 i (omega arith) in
      let other : not (i == k) ≡ true = ap not (ne_eqb i k apart) in
      not-false (is_ready_from (setup_at plan k) (setup_at plan k).queue (idle_at (setup_at plan i)))
      (ap (λ v. v && not (is_ready_from (setup_at plan k) (setup_at plan k).queue (idle_at (setup_at plan i)))) (sym other) ∙ busy)

-- what the condition has no cause to refuse
record HasNoCause (plan : Plan) : Type 0 where
  two : 2 ≤ length plan.nodes
  some : any_below (length plan.nodes) (sends_something plan) ≡ true
  apart : (i j : ℕ) → i < length plan.nodes → j < length plan.nodes → shares_with plan i j ≡ false

no_pair : (plan : Plan) (i : ℕ) (o : Option ℕ) → is_some o ≡ true → pair_at i o ≡ None → ⊥
no_pair plan i None some none = cc
no_pair plan i (Some j) some none = cc

no_sharer : (plan : Plan) (o : Option ℕ) → first_place (shares plan) (length plan.nodes) ≡ o → pair_in plan o ≡ None → o ≡ None
no_sharer plan None same none = refl
no_sharer plan (Some i) same none =
    absurd (no_pair plan i (first_place (shares_with plan i) (length plan.nodes)) ((first_is (shares plan) (length plan.nodes) i same).passes) none)

no_cause_of : (plan : Plan) → outside_of plan ≡ None → HasNoCause plan
no_cause_of plan none =
    let few = no_cause (nat_lt (length plan.nodes) 2) _ _ none in
    let empty = no_cause (not (any_below (length plan.nodes) (sends_something plan))) _ _ few.1 in
    let listeners = neither _ _ empty.1 in
    let book = neither _ _ listeners.1 in
    let pairs = neither _ _ book.1 in
    let sharer = no_sharer plan (first_place (shares plan) (length plan.nodes)) refl pairs.0 in
    record {
      two = ltb-false _ _ few.0;
      some = not-false _ empty.0;
      apart = λ i j ni nj.
          first_none (shares_with plan i) (length plan.nodes)
          (is_none_of (first_place (shares_with plan i) (length plan.nodes)) (first_none (shares plan) (length plan.nodes) sharer i ni)) j nj;
    }

-- a frame of a queue, by its place
record IsQueued (queue : List Queued) (c : Content) : Type 0 where
  one : Queued
  frame : one.frame ≡ c
  any : (p : Queued → Bool) → p one ≡ true → list_any p queue ≡ true
  content : All (λ q. IsContent q.frame) queue → IsContent one.frame

queued_at : (queue : List Queued) (n : ℕ) (c : Content) → slice_get (map (λ q. q.frame) queue) n ≡ Some c → IsQueued queue c
queued_at [] n c is = cc
queued_at (q ∷ more) zero c is = record {
  one = q;
  frame = cc;
  any = λ p passes. ap (λ v. v || list_any p more) passes;
  content = λ each. each 0 q (omega arith);
}
queued_at (q ∷ more) (suc n) c is =
    let later = queued_at more n c is in
    record {
      one = later.one;
      frame = later.frame;
      any = λ p passes. or_right (p q) (list_any p more) (later.any p passes);
      content = λ each. later.content (λ k d less. each (suc k) d (omega arith));
    }

same_field : (a b : Content) → HaveSameField a b → has_same_field a b ≡ true
same_field a b same =
    and_from _ _ (eq-eqb a.id b.id same.1) (and_from _ _ (equal a.extended b.extended same.0) (equal a.remote b.remote same.2))
  where
    equal : (v w : Bool) → v ≡ w → beq v w ≡ true
    equal true true e = refl
    equal false false e = refl
    equal true false e = cc
    equal false true e = cc

module _ (plan : Plan) (none : HasNoCause plan) where
  unlike : (j k : ℕ) (a b : Content) → j < length plan.nodes → k < length plan.nodes → j ≢ k → Has (queues_of plan) j a → Has (queues_of plan) k b
      → HaveSameField a b → ⊥
  unlike j k a b nj nk apart here there same =
      let one = queued_at (setup_at plan j).queue here.0 a here.1 in
      let other = queued_at (setup_at plan k).queue there.0 b there.1 in
      let field : has_same_field one.one.frame other.one.frame ≡ true = rw (one.frame, other.frame) (same_field a b same) in
      let inner = other.any (λ q. has_same_field one.one.frame q.frame) field in
      let shared : share_field (setup_at plan j) (setup_at plan k) ≡ true = one.any (λ p. list_any (λ q. has_same_field p.frame q.frame) (setup_at plan k).queue) inner in
      let unequal : not (j == k) ≡ true = ap not (ne_eqb j k apart) in
      let both : shares_with plan j k ≡ true = and_from _ _ unequal shared in
      let never : true ≡ false = sym both ∙ none.apart j k nj nk in
      cc

  sound : AreContents plan → AreSoundFrames (length plan.nodes) (queues_of plan)
  sound are = record {
    two = none.two;
    content = λ k c nk has.
        (let q = queued_at (setup_at plan k).queue has.0 c has.1 in subst IsContent q.frame (q.content (are k nk)));
    apart = λ j k a b nj nk apart here there same. unlike j k a b nj nk apart here there same;
  }

sends_is : (f : Buses) (i : ℕ) → sends_in f plain i ≡ (member_at f i).sends
unfolding sends_in
sends_is f i = refl

pub frames : (f : Buses) (plan : Plan) (clocks : ℕ → Steady) → outside_of plan ≡ None → AreContents plan → SendAsFamily f plan
    → HasFrames plan (queues_of plan) (stations_of f plan clocks)
frames f plan clocks outside are send =
    let none = no_cause_of plan outside in
    let some = any_one (length plan.nodes) (sends_something plan) none.some in
    record {
      begin = λ i. whole_begins (setup_at plan i);
      frames = sound plan none are;
      may = λ i ni has. sends_is f i ∙ send i ni has;
      some = (some.0, some.1, some.2);
    }

member_sends : (nodes : List NodeSetup) (paces : List Pace) → length paces ≡ length nodes → (i : ℕ) → i < length nodes
    → has_frames (get_or nodes i no_setup) ≡ true → (get_or (members_of nodes paces) i no_member).sends ≡ true
member_sends [] paces e i h has = absurd (omega arith)
member_sends (node ∷ nodes) [] e i h has = absurd (omega arith)
member_sends (node ∷ nodes) (pace ∷ paces) e zero h has = has
member_sends (node ∷ nodes) (pace ∷ paces) e (suc i) h has = member_sends nodes paces (omega arith) i (omega arith) has

pub sends : (plan : Plan) (paces : List Pace) → length paces ≡ length plan.nodes → SendAsFamily (family_of plan paces) plan
sends plan paces e i ni has = member_sends plan.nodes paces e i ni has
