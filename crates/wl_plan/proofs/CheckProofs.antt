-- Which plans have no fault.
use Rattle.std.proofs.Common.{◌≡◌, ℕ, zero, suc, ◌<◌, ◌≤◌, ◌==◌, ◌∙◌, ◌⊎◌, Bool, true, false, ◌||◌, not, List, length, get_or, All, Option, Some, None, cond, inl, inr, refl, sym, ap, arith, nat_lt, nat_le}
use Rattle.std.specs.List.{position, position_or_len, enumerate_from}
use Rattle.std.proofs.lemmas.Bool.{cases_lt, lt-ltb, le-ltb, ltb-false, leb-false, lt-leb, eqb-true, eq-eqb, eqb-false, ne_eqb, not-false, not_from_true, or_parts, or_from}
use Rattle.std.proofs.lemmas.List.Sums.{position_or_len_is, fails_before_first}
use Rattle.std.proofs.lemmas.List.FromFn.{length-enumerate_from, get_or-enumerate_from}
use Rattle.std.proofs.Math.Nat.{pos_of_ne-zero}
use Rattle.wl_topology.proofs.Callers.{any_none}
use Rattle.wl_segments.specs.Lengths.{AreLengths, least_way}
use Rattle.wl_clock.specs.Timing.{Timing, IsTiming, tick_of}
use Rattle.wl_topology.specs.Delays.{IsTopology, disturbance_delay}
use Rattle.wl_topology.specs.Driven.{any_below}
use Rattle.wl_topology.specs.Limits.{most_places, longest_delay}
use Rattle.wl_plan.specs.declared.plan.Disturbance.{Disturbance}
use Rattle.wl_plan.specs.declared.plan.Plan.{Plan}
use Rattle.wl_plan.specs.declared.check.PlanFault.TheVariants as faults
use Rattle.wl_limits.specs.declared.Limits.{Limits}
use Rattle.wl_limits.specs.declared.Limits.TheVariants.{Narrow, Wide}
use Rattle.wl_limits.specs.Limits.{node_limit, end_limit, quanta_limit, short_quanta_limit, queue_limit, disturbance_limit}
use Rattle.wl_plan.specs.Limits.{latest_end, most_queued, most_disturbances, most_quanta, most_quanta-is, most_short_quanta, most_short_quanta-is}
use Rattle.wl_plan.specs.PlanLine.{no_setup}
use Rattle.wl_plan.specs.Checked.{IsChecked, quanta_limit_of, HasFewQuantaBy, IsDisturbance, IsPlanWithin, first_fault, has_wrong_nodes, has_many_quanta, has_long_queue, is_refused, is_far, is_far_by, IsNear, HasShortQueues, FaultlessIsChecked}

-- where numbers grow, the first that is not below the end is above `most` exactly where that of `most` is below the end
pub many_below : (q : ℕ → ℕ) → ((j k : ℕ) → j < k → q j < q k) → (most last r : ℕ) → last ≤ q r → ((k : ℕ) → k < r → q k < last)
    → nat_lt most r ≡ nat_lt (q most) last
many_below q later most last r reached least =
    elim (cases_lt most r) [
      | inl more ↦ lt-ltb most r more ∙ sym (lt-ltb (q most) last (least most more))
      | inr few ↦ le-ltb most r few ∙ sym (le-ltb (q most) last (enough few (cases_lt r most)))
    ]
  where
    enough : r ≤ most → (r < most) ⊎ (most ≤ r) → last ≤ q most
    enough few (inl less) = (let e = later r most less in omega arith)
    enough few (inr same) = (let e : r ≡ most = omega arith in let f : q r ≡ q most = ap q e in omega arith)

-- the first place that passes
pub position_is : {X : Type 0} (p : X → Bool) (xs : List X) (i : ℕ) (d : X) → i < length xs → p (get_or xs i d) ≡ true
    → ((k : ℕ) → k < i → p (get_or xs k d) ≡ false) → position p xs ≡ Some i
position_is p xs i d b here before =
    let e : position_or_len p xs ≡ i = position_or_len_is p xs i d (omega arith) before (λ _. here) in
    ap (λ n. cond (nat_lt n (length xs)) (Some n) None) e ∙ ap (λ v. cond v (Some i) None) (lt-ltb i (length xs) b)

-- none passes
pub position_none : {X : Type 0} (p : X → Bool) (xs : List X) (d : X) → ((k : ℕ) → k < length xs → p (get_or xs k d) ≡ false) → position p xs ≡ None
position_none p xs d none =
    let e : position_or_len p xs ≡ length xs = position_or_len_is p xs (length xs) d (omega arith) none (λ h. absurd (omega arith)) in
    ap (λ n. cond (nat_lt n (length xs)) (Some n) None) e ∙ ap (λ v. cond v (Some (length xs)) None) (le-ltb (length xs) (length xs) (omega arith))

pub none_position : {X : Type 0} (p : X → Bool) (xs : List X) → position p xs ≡ None → (k : ℕ) (d : X) → k < length xs → p (get_or xs k d) ≡ false
none_position p xs none k d b = go (nat_lt (position_or_len p xs) (length xs)) refl none
  where
    go : (v : Bool) → nat_lt (position_or_len p xs) (length xs) ≡ v → cond v (Some (position_or_len p xs)) None ≡ None → p (get_or xs k d) ≡ false
    go true e h = cc
    go false e h = fails_before_first p xs k d (let far = ltb-false _ _ e in omega arith)

none_any : (n : ℕ) (p : ℕ → Bool) → any_below n p ≡ false → (i : ℕ) → i < n → p i ≡ false
none_any zero p h i b = absurd (omega arith)
none_any (suc n) p h i b =
    let parts = or_parts (any_below n p) (p n) h in
    elim (cases_lt i n) [
      | inl below ↦ none_any n p parts.0 i below
      | inr last ↦ (let same : i ≡ n = omega arith in ap p same ∙ parts.1)
    ]

-- ---- the first fault, and none

-- What no fault says of the tests.
pub record IsFaultless (wrong late : Bool) (many long refused : Option ℕ) : Type 0 where
  pub right : wrong ≡ false
  pub early : late ≡ false
  pub few : many ≡ None
  pub short : long ≡ None
  pub accepted : refused ≡ None

pub faultless : (wrong late : Bool) (many long refused : Option ℕ) → IsFaultless wrong late many long refused
    → first_fault wrong late many long refused ≡ None
faultless wrong late many long refused h = λ i. first_fault (h.right i) (h.early i) (h.few i) (h.short i) (h.accepted i)

faultless_by : (wrong late : Bool) (many long refused : Option ℕ) → first_fault wrong late many long refused ≡ None
    → IsFaultless wrong late many long refused
faultless_by true late many long refused h = cc
faultless_by false true many long refused h = cc
faultless_by false false (Some i) long refused h = cc
faultless_by false false None (Some i) refused h = cc
faultless_by false false None None (Some n) h = cc
faultless_by false false None None None h = record { right = refl; early = refl; few = refl; short = refl; accepted = refl }

-- ---- what the tests say

-- a clock whose quantum `most_quanta` is not before the end has few before it, and the other way round
few_from : (q : ℕ → ℕ) → ((j k : ℕ) → j < k → q j < q k) → (most last : ℕ) → nat_lt (q most) last ≡ false → (k : ℕ) → q k < last → k < most
few_from q later most last h k b =
    elim (cases_lt k most) [
      | inl fine ↦ fine
      | inr more ↦ absurd (go more (cases_lt most k))
    ]
  where
    go : most ≤ k → (most < k) ⊎ (k ≤ most) → ⊥
    go more (inl above) = (let e = later most k above in let f = ltb-false _ _ h in omega arith)
    go more (inr same) = (let e : q most ≡ q k = ap q (omega arith) in let f = ltb-false _ _ h in omega arith)

few_to : (q : ℕ → ℕ) (most last : ℕ) → ((k : ℕ) → q k < last → k < most) → nat_lt (q most) last ≡ false
few_to q most last h =
    elim (cases_lt (q most) last) [
      | inl below ↦ absurd (let e = h most below in omega arith)
      | inr fine ↦ le-ltb (q most) last fine
    ]

abbrev pub no_disturbance : Disturbance
no_disturbance = record { node = None; x = 0; from = 0; to = 0 }

-- no limit is above the wide one
nodes_wide : (limits : Limits) → node_limit limits ≤ most_places
nodes_wide Narrow = omega arith
nodes_wide Wide = omega arith

end_wide : (limits : Limits) → end_limit limits ≤ latest_end
end_wide Narrow = omega arith
end_wide Wide = omega arith

queue_wide : (limits : Limits) → queue_limit limits ≤ most_queued
queue_wide Narrow = omega arith
queue_wide Wide = omega arith

disturbances_wide : (limits : Limits) → disturbance_limit limits ≤ most_disturbances
disturbances_wide Narrow = omega arith
disturbances_wide Wide = omega arith

quanta_wide : (limits : Limits) (short : Bool) → cond short (short_quanta_limit limits) (quanta_limit limits) ≤ cond short most_short_quanta most_quanta
quanta_wide Narrow true = omega (arith, most_short_quanta-is)
quanta_wide Narrow false = omega (arith, most_quanta-is)
quanta_wide Wide true = omega (arith, most_short_quanta-is)
quanta_wide Wide false = omega (arith, most_quanta-is)

module _ (limits : Limits) (plan : Plan) where
  refused_at : (n : ℕ) (d : Disturbance) → n < length plan.disturbances
      → is_refused limits plan (get_or (enumerate_from 0 plan.disturbances) n (0, d)) ≡ is_refused limits plan (n, get_or plan.disturbances n d)
  refused_at n d b =
      ap (is_refused limits plan) (get_or-enumerate_from 0 plan.disturbances n (0, d) b)
      ∙ ap (λ m. is_refused limits plan (m, get_or plan.disturbances n d)) (omega arith)

  -- the first disturbance that is refused
  pub refused_is : (n : ℕ) (d : Disturbance) → n < length plan.disturbances → is_refused limits plan (n, get_or plan.disturbances n d) ≡ true
      → ((k : ℕ) → k < n → is_refused limits plan (k, get_or plan.disturbances k d) ≡ false)
      → position (is_refused limits plan) (enumerate_from 0 plan.disturbances) ≡ Some n
  refused_is n d b here before =
      position_is (is_refused limits plan) (enumerate_from 0 plan.disturbances) n (0, d) (omega (arith, length-enumerate_from 0 plan.disturbances))
      (refused_at n d b ∙ here)
      (λ k below. refused_at k d (omega arith) ∙ before k below)

  pub refused_none : (d : Disturbance) → ((k : ℕ) → k < length plan.disturbances → is_refused limits plan (k, get_or plan.disturbances k d) ≡ false)
      → position (is_refused limits plan) (enumerate_from 0 plan.disturbances) ≡ None
  refused_none d none =
      position_none (is_refused limits plan) (enumerate_from 0 plan.disturbances) (0, d)
      (λ k b. let c : k < length plan.disturbances = omega (arith, length-enumerate_from 0 plan.disturbances) in refused_at k d c ∙ none k c)

  none_refused : position (is_refused limits plan) (enumerate_from 0 plan.disturbances) ≡ None
      → (k : ℕ) (d : Disturbance) → k < length plan.disturbances → is_refused limits plan (k, get_or plan.disturbances k d) ≡ false
  none_refused h k d b =
      sym (refused_at k d b)
      ∙ none_position (is_refused limits plan) (enumerate_from 0 plan.disturbances) h k (0, d) (omega (arith, length-enumerate_from 0 plan.disturbances))

-- ---- a plan without a fault is checked, and the other way round

module _ (later : (t : Timing) → IsTiming t → (j k : ℕ) → j < k → tick_of t j < tick_of t k) (limits : Limits) (plan : Plan) where
  right_nodes : has_wrong_nodes limits plan ≡ false → (0 < length plan.nodes) × (length plan.nodes ≤ node_limit limits) × (length plan.nodes ≡ length plan.topology.places)
  right_nodes h =
      let some = or_parts (length plan.nodes == 0) (nat_lt (node_limit limits) (length plan.nodes) || not (length plan.nodes == length plan.topology.places)) h in
      let few = or_parts (nat_lt (node_limit limits) (length plan.nodes)) (not (length plan.nodes == length plan.topology.places)) some.1 in
      (pos_of_ne-zero (eqb-false (length plan.nodes) 0 some.0), ltb-false _ _ few.0, eqb-true _ _ (not-false _ few.1))

  wrong_nodes : 0 < length plan.nodes → length plan.nodes ≤ node_limit limits → length plan.nodes ≡ length plan.topology.places → has_wrong_nodes limits plan ≡ false
  wrong_nodes some few placed =
      or_from (length plan.nodes == 0) (nat_lt (node_limit limits) (length plan.nodes) || not (length plan.nodes == length plan.topology.places))
      (ne_eqb (length plan.nodes) 0 (λ e. omega arith))
      (or_from (nat_lt (node_limit limits) (length plan.nodes)) (not (length plan.nodes == length plan.topology.places)) (le-ltb _ _ few) (not_from_true _ (eq-eqb _ _ placed)))

  near_from : (node : Option ℕ) (x : ℕ) → is_far_by plan node x ≡ false → IsNear plan node x
  near_from None x h = λ j below. ltb-false _ _ (none_any (length plan.nodes) (λ j. nat_lt longest_delay (disturbance_delay plan.topology x j)) h j below)
  near_from (Some n) x h = leb-false _ _ h

  not_far : (node : Option ℕ) (x : ℕ) → IsNear plan node x → is_far_by plan node x ≡ false
  not_far None x h = any_none (length plan.nodes) (λ j. nat_lt longest_delay (disturbance_delay plan.topology x j)) (λ j below. le-ltb _ _ (h j below))
  not_far (Some n) x h = lt-leb _ _ h

  -- what is not refused
  accepted : (n : ℕ) (d : Disturbance) → is_refused limits plan (n, d) ≡ false → IsDisturbance plan d × (d.to ≤ end_limit limits) × (n < disturbance_limit limits)
  accepted n d h =
      let a = or_parts (nat_le d.to d.from) (nat_lt (end_limit limits) d.to || (nat_le (disturbance_limit limits) n || is_far plan d)) h in
      let b = or_parts (nat_lt (end_limit limits) d.to) (nat_le (disturbance_limit limits) n || is_far plan d) a.1 in
      let e = or_parts (nat_le (disturbance_limit limits) n) (is_far plan d) b.1 in
      let ends : d.to ≤ end_limit limits = ltb-false _ _ b.0 in (
        record {
          lasts = leb-false _ _ a.0;
          ends = (let wide = end_wide limits in omega arith);
          near = near_from d.node d.x e.1;
        },
        ends,
        leb-false _ _ e.0,
      )

  not_refused : (n : ℕ) (d : Disturbance) → IsDisturbance plan d → d.to ≤ end_limit limits → n < disturbance_limit limits → is_refused limits plan (n, d) ≡ false
  not_refused n d h ends b =
      or_from (nat_le d.to d.from) (nat_lt (end_limit limits) d.to || (nat_le (disturbance_limit limits) n || is_far plan d)) (lt-leb _ _ h.lasts)
      (or_from (nat_lt (end_limit limits) d.to) (nat_le (disturbance_limit limits) n || is_far plan d) (le-ltb _ _ ends)
      (or_from (nat_le (disturbance_limit limits) n) (is_far plan d) (lt-leb _ _ b)
      (not_far d.node d.x h.near)))

  few_accepted : ((k : ℕ) (d : Disturbance) → k < length plan.disturbances → is_refused limits plan (k, get_or plan.disturbances k d) ≡ false)
      → length plan.disturbances ≤ disturbance_limit limits
  few_accepted none =
      elim (cases_lt (disturbance_limit limits) (length plan.disturbances)) [
        | inl more ↦ absurd (let h = accepted (disturbance_limit limits) (get_or plan.disturbances (disturbance_limit limits) no_disturbance) (none (disturbance_limit limits) no_disturbance more) in omega (arith, h.2))
        | inr fine ↦ fine
      ]

  -- the queues of a plan without a fault
  short_from : (queued : ℕ) → position (has_long_queue queued) plan.nodes ≡ None → HasShortQueues queued plan
  short_from queued h i d b = ltb-false _ _ (none_position (has_long_queue queued) plan.nodes h i d b)

  quanta_few : position (has_many_quanta limits plan.end) plan.nodes ≡ None → All (λ node. IsTiming node.clock) plan.nodes → All (HasFewQuantaBy limits plan.end) plan.nodes
  quanta_few h clocks i d b k below =
      few_from (tick_of (get_or plan.nodes i d).clock) (later (get_or plan.nodes i d).clock (clocks i d b)) (quanta_limit_of limits (get_or plan.nodes i d).segments) plan.end
      (none_position (has_many_quanta limits plan.end) plan.nodes h i d b) k below

  abbrev Faultless : ℕ → Type 0
  Faultless queued =
      IsFaultless (has_wrong_nodes limits plan) (nat_lt (end_limit limits) plan.end) (position (has_many_quanta limits plan.end) plan.nodes)
      (position (has_long_queue queued) plan.nodes) (position (is_refused limits plan) (enumerate_from 0 plan.disturbances))

  within_from : (queued : ℕ) → All (λ node. IsTiming node.clock) plan.nodes → Faultless queued → IsPlanWithin limits queued plan
  within_from queued clocks h =
      let accepts = none_refused limits plan h.accepted in
      record {
        nodes = (right_nodes h.right).1;
        ends = ltb-false _ _ h.early;
        quanta = quanta_few h.few clocks;
        queues = short_from queued h.short;
        few_disturbances = few_accepted accepts;
        disturbances = λ n d b. (accepted n (get_or plan.disturbances n d) (accepts n d b)).1;
      }

  checked_from : (queued : ℕ) → queued ≤ queue_limit limits → All (λ node. IsTiming node.clock) plan.nodes → All (λ node. AreLengths node.segments) plan.nodes
      → IsTopology plan.topology → Faultless queued → IsChecked plan
  checked_from queued fewer clocks segments cable h =
      let nodes = right_nodes h.right in
      let accepts = none_refused limits plan h.accepted in
      let within = within_from queued clocks h in
      record {
        clocks = clocks;
        segments = segments;
        cable = cable;
        some_node = nodes.0;
        few_nodes = (let few = nodes.1 in let wide = nodes_wide limits in omega arith);
        placed = nodes.2;
        ends = (let ends = within.ends in let wide = end_wide limits in omega arith);
        few_quanta = λ i d b k below. (let few = within.quanta i d b k below in let wide = quanta_wide limits (nat_lt (least_way (get_or plan.nodes i d).segments) 3) in omega arith);
        short_queues = λ i d b. (let few = within.queues i d b in let wide = queue_wide limits in omega arith);
        few_disturbances = (let few = within.few_disturbances in let wide = disturbances_wide limits in omega arith);
        disturbances = λ n d b. (accepted n (get_or plan.disturbances n d) (accepts n d b)).0;
      }

  faultless_from : (queued : ℕ) → IsChecked plan → IsPlanWithin limits queued plan → Faultless queued
  faultless_from queued h within = record {
    right = wrong_nodes h.some_node within.nodes h.placed;
    early = le-ltb _ _ within.ends;
    few = position_none (has_many_quanta limits plan.end) plan.nodes no_setup
        (λ i b. few_to (tick_of (get_or plan.nodes i no_setup).clock) (quanta_limit_of limits (get_or plan.nodes i no_setup).segments) plan.end (within.quanta i no_setup b));
    short = position_none (has_long_queue queued) plan.nodes no_setup (λ i b. le-ltb _ _ (within.queues i no_setup b));
    accepted = refused_none limits plan no_disturbance
        (λ n b. not_refused n (get_or plan.disturbances n no_disturbance) (h.disturbances n no_disturbance b) (within.disturbances n no_disturbance b)
        (let few = within.few_disturbances in omega arith));
  }

pub faultless_is_checked : ((t : Timing) → IsTiming t → (j k : ℕ) → j < k → tick_of t j < tick_of t k) → FaultlessIsChecked
faultless_is_checked later limits plan queued fewer clocks segments cable = (
  (λ h.
      let found = faultless_by _ _ _ _ _ h in
      (checked_from later limits plan queued fewer clocks segments cable found, within_from later limits plan queued clocks found)),
  (λ h. faultless _ _ _ _ _ (faultless_from later limits plan queued h.0 h.1)),
)

-- the later faults
pub fault_of_queue : (wrong late : Bool) (many long refused : Option ℕ) (i : ℕ) → wrong ≡ false → late ≡ false → many ≡ None → long ≡ Some i
    → first_fault wrong late many long refused ≡ Some (faults.Queue i)
fault_of_queue wrong late many long refused i w l m q = λ j. first_fault (w j) (l j) (m j) (q j) refused

pub fault_of_disturbance : (wrong late : Bool) (many long refused : Option ℕ) (n : ℕ) → wrong ≡ false → late ≡ false → many ≡ None → long ≡ None → refused ≡ Some n
    → first_fault wrong late many long refused ≡ Some (faults.Disturbance n)
fault_of_disturbance wrong late many long refused n w l m q r = λ j. first_fault (w j) (l j) (m j) (q j) (r j)
