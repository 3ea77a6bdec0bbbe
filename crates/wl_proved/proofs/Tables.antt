-- A table of messages that passes its test has bounds that are enough.
use Rattle.std.proofs.Common.{◌≡◌, ◌≢◌, ◌∙◌, refl, sym, ap, subst, inl, inr, ℕ, zero, suc, ◌+◌, ◌-◌, ◌*◌, ◌/◌, ◌<◌, ◌≤◌, Bool, true, false, cond, not, max, min, ◌&&◌, ◌||◌, List, [], ◌∷◌, length, map, arith}
use Rattle.std.specs.Prelude.{◌==◌, nat_le, nat_lt}
use Rattle.std.proofs.lemmas.Bool.{and_parts, cases_lt, eqb-true, leb-true, lt-ltb, ltb-true, not-false, not-true}
use Rattle.std.proofs.lemmas.List.{get_or-map, length-map}
use Rattle.std.proofs.Math.Nat.{div-lt_iff_lt-mul, lt-div-mul-add, mul-le-mul_left, mul-le-mul_right}
use Rattle.wl_segments.specs.Lengths.{bit_quanta}
use Rattle.wl_topology.specs.Driven.{any_below}
use Rattle.wl_counts.specs.Counts.{one_if, periods_in, sum_below}
use Rattle.wl_counts.specs.Instances.{AreEnoughByInstances}
use Rattle.wl_counts.specs.Instances as counted
use Rattle.wl_counts.specs.Waits.{AreEnough, Table}
use Rattle.wl_node.specs.declared.setup.QueueOrder.{QueueOrder}
use Rattle.wl_node.specs.declared.setup.QueueOrder.TheVariants.{Fifo, Priority}
use Rattle.wl_plan.specs.declared.plan.Plan.{Plan}
use Rattle.wl_plan.specs.PlanLine.{setup_at}
use Rattle.wl_bound.specs.BusTimes.{greatest_delay, greatest_lead, greatest_wake, times_of}
use Rattle.wl_bound.specs.Families.{Bus}
use Rattle.wl_bound.specs.Terms.{greatest}
use Rattle.wl_bound.proofs.Greatest.{bounds_each}
use Rattle.wl_respond.specs.declared.message.MessageWait.{MessageWait}
use Rattle.wl_respond.specs.Inequalities.{are_enough, are_instances_enough, blocked_for, has_windows, head_start, instance_demand, instance_share, instances, is_enough, is_instance_enough, is_room_enough, is_wait_enough, is_whole_enough, is_window_enough, lacks_enough, lacks_instance, window_at, window_demand, window_share}
use Rattle.wl_respond.specs.Levels.{has_levels, lacks_level, level_by, level_for, top_of}
use Rattle.wl_respond.specs.Rows.{MessageTerms, no_row, row_at, wait_limit}
use Rattle.wl_respond.specs.Tests.{are_fair, cost_of, is_fair, message_at, no_message, pass, period_of, row_for, tail_of}
use Rattle.wl_buses.specs.FrameTimes.BusTimes.{bus_times}
use Rattle.wl_buses.specs.BoundedWaits.Messages.{BusDelaysNoLonger, Delays, terms_of}
use Rattle.wl_buses.specs.BoundedWaits.QueuedFrames.{BlockNoLonger, Terms, early_by, table_by}
use Rattle.wl_buses.proofs.Callers.{none_below}
use Rattle.wl_proved.specs.Waits.{is_fifo, messages_in, wait_of}

-- each is the greatest at most
pub greatest_each : (n : ℕ) (test : ℕ → Bool) (f : ℕ → ℕ) (k : ℕ) → k < n → test k ≡ true → f k ≤ greatest n test f
greatest_each n test f k less e = bounds_each n test f (greatest n test f) (let r : greatest n test f ≤ greatest n test f = omega arith in r) k less e

fair_each : (b : Bus) (messages : List MessageWait) → are_fair b messages ≡ true → (e : ℕ) → e < length messages → is_fair b (message_at messages e) ≡ true
fair_each b [] fair e less = absurd (omega arith)
fair_each b (x ∷ later) fair zero less = (and_parts (is_fair b x) (are_fair b later) fair).0
fair_each b (x ∷ later) fair (suc e) less = fair_each b later (and_parts (is_fair b x) (are_fair b later) fair).1 e (omega arith)

share_by : (j : Bool) (p c : ℕ) → cond j (p * c) 0 ≡ one_if j * p * c
share_by true p c = ap (λ x. x * c) (let e : p ≡ 1 * p = omega arith in e)
share_by false p c = omega arith

pub more_periods : (a c p : ℕ) → 0 < p → a ≤ c → periods_in a p ≤ periods_in c p
more_periods a c p some low =
    let most : c + (p - 1) < (c + (p - 1)) / p * p + p = lt-div-mul-add some in
    let less : (a + (p - 1)) / p < suc ((c + (p - 1)) / p) = (div-lt_iff_lt-mul some).1 (let e : suc ((c + (p - 1)) / p) * p ≡ (c + (p - 1)) / p * p + p = omega arith in omega arith) in
    omega arith

sum_more : (f g : ℕ → ℕ) (n : ℕ) → ((k : ℕ) → k < n → f k ≤ g k) → sum_below f n ≤ sum_below g n
sum_more f g zero h = omega arith
sum_more f g (suc n) h = (let before = sum_more f g n (λ k below. h k (omega arith)) in let here = h n (omega arith) in omega arith)

other_than : (i k : ℕ) → i ≢ k → not (k == i) ≡ true
other_than i k apart = elim_not (k == i) (λ e. apart (sym (eqb-true k i e)))
  where
    elim_not : (x : Bool) → (x ≡ true → ⊥) → not x ≡ true
    elim_not true h = absurd (h refl)
    elim_not false h = refl

or_right : (a b : Bool) → (a || b) ≡ true → a ≡ false → b ≡ true
or_right a b h e = sym (ap (λ v. v || b) e) ∙ h

-- one window is enough for each instance (wl_counts)
abbrev pub InstanceLaw : Type 0
InstanceLaw = (t : Table) (period w r : ℕ → ℕ) → ((m : ℕ) → m < t.messages → t.joins m m ≡ true) → ((e a b : ℕ) → a ≤ b → t.most e a ≤ t.most e b)
    → AreEnough t w r → AreEnoughByInstances t period w (λ m j. w m - t.cost m) r

module _ (b : Bus) (plan : Plan) (messages : List MessageWait) (windows : List ℕ) (passes : pass b messages windows ≡ true) (levels : has_levels plan messages ≡ true) (nodes : b.nodes ≡ length plan.nodes) where
  abbrev lead : ℕ
  lead = greatest_lead b

  abbrev wake : ℕ
  wake = greatest_wake b

  abbrev x : ℕ → MessageWait
  x e = message_at messages e

  abbrev rows : List MessageTerms
  rows = map (row_for b (times_of b)) messages

  rows_length : length rows ≡ length messages
  rows_length = length-map messages (row_for b (times_of b))

  parts : (are_fair b messages ≡ true) × (are_enough lead wake rows windows ≡ true)
  parts = and_parts (are_fair b messages) (are_enough lead wake rows windows) passes

  fair : (e : ℕ) → e < length messages → ((x e).node < b.nodes) × (0 < period_of b (x e)) × ((x e).window < wait_limit) × ((x e).wait < wait_limit)
  fair e less =
      let all = fair_each b messages parts.0 e less in
      let halves = and_parts (nat_lt (x e).node b.nodes && nat_lt 0 (period_of b (x e))) (nat_lt (x e).window wait_limit && nat_lt (x e).wait wait_limit) all in
      let there = and_parts (nat_lt (x e).node b.nodes) (nat_lt 0 (period_of b (x e))) halves.0 in
      let short = and_parts (nat_lt (x e).window wait_limit) (nat_lt (x e).wait wait_limit) halves.1 in
      (ltb-true _ _ there.0, ltb-true _ _ there.1, ltb-true _ _ short.0, ltb-true _ _ short.1)

  -- a row as it is
  abbrev exact : ℕ → MessageTerms
  exact e = record {
    node = (x e).node;
    field = (x e).field;
    level = (x e).level;
    cost = cost_of (times_of b) (x e);
    tail = tail_of (times_of b) (x e);
    period = max 1 (period_of b (x e));
    window = (x e).window;
    wait = (x e).wait;
    first = (x e).first;
  }

  is_least : (n : ℕ) → n < wait_limit → min n (wait_limit - 1) ≡ n
  is_least n less = omega arith

  row_is : (e : ℕ) → e < length messages → row_at rows e ≡ exact e
  row_is e less =
      let f = fair e less in
      let window = is_least (x e).window f.2 in
      let wait = is_least (x e).wait f.3 in
      let same : row_for b (times_of b) (x e) ≡ exact e = λ k. record {
        node = (x e).node;
        field = (x e).field;
        level = (x e).level;
        cost = cost_of (times_of b) (x e);
        tail = tail_of (times_of b) (x e);
        period = max 1 (period_of b (x e));
        window = window k;
        wait = wait k;
        first = (x e).first;
      } in
      get_or-map (row_for b (times_of b)) messages e no_message no_row less ∙ same

  enough_at : (m : ℕ) → m < length messages → is_enough lead wake rows windows m ≡ true
  enough_at m less = not-false _ (none_below (length rows) (lacks_enough lead wake rows windows) (not-true _ parts.1) m (let e = rows_length in omega arith))

  pub node_is : (e : ℕ) → e < length messages → (messages_in plan messages).node e ≡ (x e).node
  node_is e less = ap (λ v. cond v (x e).node (length plan.nodes)) (lt-ltb e (length messages) less)

  -- the level of a message, by its queue
  pub level_is : (e : ℕ) → e < length messages → (x e).level ≡ level_for plan messages e
  level_is e less = eqb-true _ _ (not-false _ (none_below (length messages) (lacks_level plan messages) (not-true _ levels) e less))

  -- the inequalities of a message: for the window of all frames; and for the wait by it, or for each instance
  halves_at : (m : ℕ) → m < length messages
      → (is_window_enough lead wake rows (row_at rows m) ≡ true) × ((is_whole_enough lead (row_at rows m) || are_instances_enough lead wake rows windows m) ≡ true)
  halves_at m less = and_parts (is_window_enough lead wake rows (row_at rows m)) (is_whole_enough lead (row_at rows m) || are_instances_enough lead wake rows windows m) (enough_at m less)

  whole : (m : ℕ) → m < length messages → blocked_for lead wake rows (exact m) + window_demand lead wake rows (exact m) ≤ (x m).window
  whole m less = leb-true _ _ (ap (is_window_enough lead wake rows) (sym (row_is m less)) ∙ (halves_at m less).0)

  whole_wait : (m : ℕ) → is_whole_enough lead (exact m) ≡ true → head_start lead (exact m) (exact m) + (x m).window + tail_of (times_of b) (x m) ≤ (x m).wait + cost_of (times_of b) (x m)
  whole_wait m is = leb-true _ _ is

  -- the window of an instance: by that of all frames, or from the list
  abbrev window_by : Bool → (m j : ℕ) → ℕ
  window_by v m j = cond v ((x m).window - cost_of (times_of b) (x m)) (window_at windows (exact m) j)

  abbrev pub window_of : (m j : ℕ) → ℕ
  window_of m j = window_by (is_whole_enough lead (exact m)) m j

  instance : (m j : ℕ) → m < length messages → is_whole_enough lead (exact m) ≡ false → j < instances lead (exact m)
      → (blocked_for lead wake rows (exact m) + instance_demand lead wake rows m j (window_at windows (exact m) j) ≤ window_at windows (exact m) j)
      × (head_start lead (exact m) (exact m) + window_at windows (exact m) j + tail_of (times_of b) (x m) ≤ (x m).wait + j * max 1 (period_of b (x m)))
  instance m j less not_whole inside =
      let each = or_right (is_whole_enough lead (row_at rows m)) (are_instances_enough lead wake rows windows m) (halves_at m less).1 (ap (is_whole_enough lead) (row_is m less) ∙ not_whole) in
      let none = (and_parts (has_windows lead wake rows windows m) (not (any_below (instances lead (row_at rows m)) (lacks_instance lead wake rows windows m))) each).1 in
      let count : instances lead (row_at rows m) ≡ instances lead (exact m) = ap (instances lead) (row_is m less) in
      let lacks = none_below (instances lead (row_at rows m)) (lacks_instance lead wake rows windows m) (not-true _ none) j (omega (arith, count, inside)) in
      let here : is_instance_enough lead wake rows windows m j ≡ true = not-false _ lacks in
      let halves = and_parts (is_room_enough lead wake rows m j (window_at windows (row_at rows m) j)) (is_wait_enough lead (row_at rows m) j (window_at windows (row_at rows m) j)) here in
      let room = leb-true _ _ halves.0 in
      let wait = leb-true _ _ halves.1 in (
        subst (λ (r : MessageTerms). blocked_for lead wake rows r + instance_demand lead wake rows m j (window_at windows r j) ≤ window_at windows r j) (row_is m less) room,
        subst (λ (r : MessageTerms). head_start lead r r + window_at windows r j + r.tail ≤ r.wait + j * r.period) (row_is m less) wait,
      )

  abbrev pub delays : Delays
  delays = record { lead = lead; wake = wake; period = λ e. max 1 (period_of b (x e)) }

  period_at : (e : ℕ) → e < length messages → max 1 (period_of b (x e)) ≤ (x e).every * b.shortest (x e).node
  period_at e less =
      let f = fair e less in
      let is : period_of b (x e) ≡ (x e).every * b.shortest (x e).node =
      ap (λ v. (x e).every * cond v (b.shortest (x e).node) 0) (lt-ltb (x e).node b.nodes f.0) in
      let some = f.1 in
      omega arith

  pub bus_delays : BusDelaysNoLonger b (messages_in plan messages) delays
  bus_delays = record {
    own = λ i there.
        (let each = greatest_each b.nodes (λ i. true) (λ i. (bit_quanta (b.lengths i) - 1) * b.longest i + greatest_delay b i) i there refl in omega arith);
    others = λ i k there other apart.
        (let each = greatest_each b.nodes (λ i. true) (λ i. (bit_quanta (b.lengths i) - 1) * b.longest i + greatest_delay b i) i there refl in
        let way = greatest_each b.nodes (λ k. not (k == i)) (b.delay i) k other (other_than i k apart) in
        omega arith);
    wakes = λ i there. greatest_each b.nodes (λ i. true) (λ i. (b.lengths i).ps2 * b.longest i) i there refl;
    positive = λ e. omega arith;
    periods = λ i e there same. elim (cases_lt e (length messages)) [
      | inl less ↦ subst (λ j. max 1 (period_of b (x e)) ≤ (x e).every * b.shortest j) (sym (node_is e less) ∙ same) (period_at e less)
      | inr past ↦
          (let none : nat_lt e (length messages) ≡ false = none_less e (length messages) past in
          let last : length plan.nodes ≡ i = sym (ap (λ v. cond v (x e).node (length plan.nodes)) none) ∙ same in
          absurd (omega (arith, nodes)))
    ];
  }
    where
      none_less : (e n : ℕ) → n ≤ e → nat_lt e n ≡ false
      none_less e n past = not_less (nat_lt e n) (λ h. (let less = ltb-true e n h in omega arith))
        where
          not_less : (v : Bool) → (v ≡ true → ⊥) → v ≡ false
          not_less true h = absurd (h refl)
          not_less false h = refl

  abbrev pub terms : Terms
  terms = terms_of (bus_times b) (messages_in plan messages) delays

  abbrev pub blocking : ℕ → ℕ
  blocking m = blocked_for lead wake rows (exact m)

  pub block : BlockNoLonger terms blocking
  block = record {
    lesser = λ m e lm le no_join.
        (let beyond : not (nat_le (row_at rows e).field (x m).level) ≡ true = ap (λ r. not (nat_le r.field (x m).level)) (row_is e le) ∙ ap not no_join in
        let each = greatest_each (length rows) (λ e. not (nat_le (row_at rows e).field (x m).level)) (λ e. (row_at rows e).cost) e (let r = rows_length in omega arith) beyond in
        let cost : (row_at rows e).cost ≡ cost_of (times_of b) (x e) = ap (λ r. r.cost) (row_is e le) in
        omega arith);
    wakes = λ m lm. omega arith;
  }

  abbrev pub window : ℕ → ℕ
  window m = (x m).window

  -- a queue by priority mixes no levels
  early_most : (m e : ℕ) → e < length messages → early_by terms (wait_of messages) m e ≤ head_start lead (exact m) (exact e)
  early_most m e less =
      let node : terms.node e ≡ (x e).node = node_is e less in
      let same : early_by terms (wait_of messages) m e ≡ lead + cond ((messages_in plan messages).mixed m (x e).node) (x e).wait 0 =
      ap (λ i. lead + cond ((messages_in plan messages).mixed m i) (x e).wait 0) node in
      let by = by_order (setup_at plan (x e).node).order refl in
      omega arith
    where
      by_order : (o : QueueOrder) → (setup_at plan (x e).node).order ≡ o → lead + cond ((messages_in plan messages).mixed m (x e).node) (x e).wait 0 ≤ lead + cond (nat_lt (x m).level (x e).level) (x e).wait 0
      by_order Fifo fifo =
          (let level : (x e).level ≡ top_of messages (x e).node = level_is e less ∙ ap (λ o. level_by o (top_of messages (x e).node) (x e).field) fifo in
          let own : lead + cond ((messages_in plan messages).mixed m (x e).node) (x e).wait 0 ≡ lead + cond (nat_lt (x m).level (top_of messages (x e).node)) (x e).wait 0 =
          ap (λ o. lead + cond (is_fifo o && nat_lt (x m).level (top_of messages (x e).node)) (x e).wait 0) fifo in
          let other : lead + cond (nat_lt (x m).level (x e).level) (x e).wait 0 ≡ lead + cond (nat_lt (x m).level (top_of messages (x e).node)) (x e).wait 0 =
          ap (λ l. lead + cond (nat_lt (x m).level l) (x e).wait 0) level in
          omega arith)
      by_order Priority prio =
          (let own : lead + cond ((messages_in plan messages).mixed m (x e).node) (x e).wait 0 ≡ lead + 0 =
          ap (λ o. lead + cond (is_fifo o && nat_lt (x m).level (top_of messages (x e).node)) (x e).wait 0) prio in
          omega arith)

  abbrev table : Table
  table = table_by terms blocking (wait_of messages)

  -- the share of another message in a window with a length of w
  share_most : (m e w : ℕ) → e < length messages
      → one_if (nat_le (x e).field (x m).level) * periods_in (early_by terms (wait_of messages) m e + w) (max 1 (period_of b (x e))) * cost_of (times_of b) (x e)
      ≤ window_share lead w (exact m) (row_at rows e)
  share_most m e w less =
      let early = early_most m e less in
      let few = more_periods (early_by terms (wait_of messages) m e + w) (head_start lead (exact m) (exact e) + w) (max 1 (period_of b (x e))) (omega arith) (omega arith) in
      let one = mul-le-mul_left (one_if (nat_le (x e).field (x m).level)) few in
      let all = mul-le-mul_right (cost_of (times_of b) (x e)) one in
      let row = ap (window_share lead w (exact m)) (row_is e less) in
      let share = share_by (nat_le (x e).field (x m).level) (periods_in (head_start lead (exact m) (exact e) + w) (max 1 (period_of b (x e)))) (cost_of (times_of b) (x e)) in
      omega arith

  demand_most : (m : ℕ) → sum_below (λ e. one_if (nat_le (x e).field (x m).level) * periods_in (early_by terms (wait_of messages) m e + (x m).window) (max 1 (period_of b (x e))) * cost_of (times_of b) (x e)) (length messages)
      ≤ window_demand lead wake rows (exact m)
  demand_most m =
      let all = sum_more _ (λ e. window_share lead (x m).window (exact m) (row_at rows e)) (length messages) (λ e less. share_most m e (x m).window less) in
      let long = ap (sum_below (λ e. window_share lead (x m).window (exact m) (row_at rows e))) rows_length in
      omega arith

  -- the share of a message before instance j of m
  before_most : (m j w e : ℕ) → m < length messages → e < length messages
      → cond (e == m) j (one_if (nat_le (x e).field (x m).level) * periods_in (early_by terms (wait_of messages) m e + w) (max 1 (period_of b (x e)))) * cost_of (times_of b) (x e)
      ≤ instance_share lead wake rows m j w e
  before_most m j w e lm le = by (e == m) refl
    where
      by : (v : Bool) → (e == m) ≡ v
          → cond v j (one_if (nat_le (x e).field (x m).level) * periods_in (early_by terms (wait_of messages) m e + w) (max 1 (period_of b (x e)))) * cost_of (times_of b) (x e)
          ≤ cond v (j * (row_at rows m).cost) (window_share lead w (row_at rows m) (row_at rows e))
      by true is =
          (let same : e ≡ m = eqb-true e m is in
          let cost : (row_at rows m).cost ≡ cost_of (times_of b) (x m) = ap (λ r. r.cost) (row_is m lm) in
          let mine : j * cost_of (times_of b) (x e) ≡ j * (row_at rows m).cost = ap (λ k. j * cost_of (times_of b) (x k)) same ∙ ap (λ c. j * c) (sym cost) in
          omega (arith, mine))
      by false is =
          (let most = share_most m e w le in
          let row = ap (λ r. window_share lead w r (row_at rows e)) (row_is m lm) in
          omega arith)

  before_all : (m j w : ℕ) → m < length messages
      → sum_below (λ e. cond (e == m) j (one_if (nat_le (x e).field (x m).level) * periods_in (early_by terms (wait_of messages) m e + w) (max 1 (period_of b (x e)))) * cost_of (times_of b) (x e)) (length messages)
      ≤ instance_demand lead wake rows m j w
  before_all m j w less =
      let all = sum_more _ (instance_share lead wake rows m j w) (length messages) (λ e le. before_most m j w e less le) in
      let long = ap (sum_below (instance_share lead wake rows m j w)) rows_length in
      omega arith

  -- the inequalities are about no fewer instances than a window has
  counted_in : (m j : ℕ) → m < length messages → j < periods_in (early_by terms (wait_of messages) m m + (x m).window) (max 1 (period_of b (x m))) → j < instances lead (exact m)
  counted_in m j less inside =
      let early = early_most m m less in
      let few = more_periods (early_by terms (wait_of messages) m m + (x m).window) (head_start lead (exact m) (exact m) + (x m).window) (max 1 (period_of b (x m))) (omega arith) (omega arith) in
      omega arith

  pub periods_some : (e : ℕ) → 0 < delays.period e
  periods_some e = omega arith

  module _ (law : InstanceLaw) (own : (m : ℕ) → m < length messages → nat_le (x m).field (x m).level ≡ true) where
    abbrev wait_by_whole : ℕ → ℕ
    wait_by_whole m = early_by terms (wait_of messages) m m + (x m).window + tail_of (times_of b) (x m) - cost_of (times_of b) (x m)

    by_whole : AreEnoughByInstances table delays.period window (λ m j. (x m).window - cost_of (times_of b) (x m)) wait_by_whole
    by_whole = law table delays.period window wait_by_whole own (λ e a c less. more_periods a c (delays.period e) (periods_some e) less) (record {
      window = λ m less. (let h = whole m less in let most = demand_most m in omega arith);
      wait = λ m less. omega arith;
    })

    room : (m j : ℕ) → m < length messages → j < counted.instances table window m → (v : Bool) → is_whole_enough lead (exact m) ≡ v
        → blocking m + counted.instance_demand table m j (window_by v m j) ≤ window_by v m j
    room m j less inside true is = by_whole.window m j less inside
    room m j less inside false is =
        (let h = (instance m j less is (counted_in m j less inside)).0 in let most = before_all m j (window_at windows (exact m) j) less in omega arith)

    sent : (m j : ℕ) → m < length messages → j < counted.instances table window m → (v : Bool) → is_whole_enough lead (exact m) ≡ v
        → early_by terms (wait_of messages) m m + window_by v m j + tail_of (times_of b) (x m) ≤ (x m).wait + j * max 1 (period_of b (x m))
    sent m j less inside true is =
        (let h = by_whole.wait m j less inside in let most = early_most m m less in let wait = whole_wait m is in omega arith)
    sent m j less inside false is =
        (let h = (instance m j less is (counted_in m j less inside)).1 in let most = early_most m m less in omega arith)

    pub enough : AreEnoughByInstances table delays.period window window_of (wait_of messages)
    enough = record {
      all = λ m less. (let h = whole m less in let most = demand_most m in omega arith);
      window = λ m j less inside. room m j less inside (is_whole_enough lead (exact m)) refl;
      wait = λ m j less inside. sent m j less inside (is_whole_enough lead (exact m)) refl;
    }
