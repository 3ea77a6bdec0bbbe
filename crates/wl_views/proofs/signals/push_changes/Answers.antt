-- The changes of the node whose turn it is after those of the nodes before it: what is between them stays.
use Rattle.std.proofs.Common.{◌≡◌, ◌∙◌, ℕ, ◌+◌, ◌-◌, ◌*◌, ◌<◌, ◌≤◌, ◌++◌, inl, inr, List, length, take, get_or, set, ap, ap₂, sym, arith, append_assoc, length-set, get_or-set_same}
use Rattle.std.specs.Prelude.{min}
use Rattle.std.proofs.lemmas.Bool.{cases_lt}
use Rattle.std.proofs.lemmas.List.{take_all}
use Rattle.wl_plan.specs.declared.plan.Plan.{Plan}
use Rattle.wl_plan.specs.PlanLine.{line_of}
use Rattle.wl_plan.specs.SimulationLaws.{SimulationLaws}
use Rattle.wl_plan.specs.Sound.{IsSound}
use Rattle.wl_views.specs.declared.calendar.Calendar.{Calendar}
use Rattle.wl_views.specs.declared.probe.Probe.{Probe}
use Rattle.wl_views.specs.Calendar.{IsFirst}
use Rattle.wl_views.specs.Probe.{IsCalendarOf, Watches}
use Rattle.wl_views.specs.Signals.{node_signals, signals}
use Rattle.wl_views.specs.Vcd.{changes_from, node_changes}
use Rattle.wl_views.proofs.Dates.{first_known, lasts_on, later_first, none_before, put_date}
use Rattle.wl_views.proofs.Watching.{all_nodes, all_same, known_more, node_more, none_changed, now, on, others_stay, some_of, stays}
use Rattle.wl_views.proofs.signals.push_changes.Goals as goal
use Rattle.wl_views.proofs.signals.push_changes.Goals.{then-loop-next-test+else-first-t, else-loop-next-test}

-- Some nodes were looked at at this tick, and the others at the one before. The first date is this one.
record LooksAt (plan : Plan) (t next : ℕ) (all : List Probe) (calendar : Calendar) (first : ℕ × ℕ) : Type 0 where
  some : 0 < t
  early : t < plan.end
  few : length plan.nodes ≤ 64
  long : length all ≡ length plan.nodes
  known : (k : ℕ) (d : Probe) → k < next → Watches plan k t (get_or all k d)
  others : (k : ℕ) (d : Probe) → next ≤ k → k < length plan.nodes → Watches plan k (t - 1) (get_or all k d)
  is : IsCalendarOf plan.end all calendar
  dated : IsFirst calendar.nodes calendar.tree first

module _ (laws : SimulationLaws) (plan : Plan) (sound : IsSound (line_of plan)) (t next : ℕ) (all : List Probe) (calendar : Calendar) (first : ℕ × ℕ)
    (h : LooksAt plan t next all calendar first) (d : Probe) where
  -- what is known of a node runs out at this tick or later
  from_now : (k : ℕ) → k < length plan.nodes → t ≤ (get_or all k d).until
  from_now k b = elim (cases_lt k next) [
    | inl low ↦ (let m = lasts_on plan k t (get_or all k d) (h.known k d low) in omega arith)
    | inr high ↦ (let m = lasts_on plan k (t - 1) (get_or all k d) (h.others k d high b) in let s = h.some in omega arith)
  ]

  before_first : (k : ℕ) → k < length plan.nodes → first.0 * 64 + first.1 ≤ min (get_or all k d).until plan.end * 64 + k
  before_first k b = none_before plan.end t all calendar h.is first h.dated h.early (let f = h.few in let l = h.long in omega arith) k d (let l = h.long in omega arith)

  module _ (come : first.0 ≤ t) where
    found : (first.1 < length all) × ((get_or all first.1 d).until ≡ first.0)
    found = first_known plan.end t all calendar h.is first h.dated h.early (let f = h.few in let l = h.long in omega arith) d come

    node_there : first.1 < length plan.nodes
    node_there = (let f = found.0 in let l = h.long in omega arith)

    its_date : (get_or all first.1 d).until ≡ t
    its_date =
        let m = from_now first.1 node_there in
        let f = found.1 in
        omega arith

    not_looked_at : next ≤ first.1
    not_looked_at = elim (cases_lt first.1 next) [
      | inl low ↦ absurd (let m = lasts_on plan first.1 t (get_or all first.1 d) (h.known first.1 d low) in let e = its_date in omega arith)
      | inr high ↦ high
    ]

    here_before : Watches plan first.1 (t - 1) (get_or all first.1 d)
    here_before = h.others first.1 d not_looked_at node_there

    -- those before it stay
    later_before : (k : ℕ) → k < first.1 → t < (get_or all k d).until
    later_before k low =
        let there = node_there in
        let m = from_now k (omega arith) in
        let here = its_date in
        let f = found.1 in
        let less = before_first k (omega arith) in
        omega arith

    same_before : (k : ℕ) → next ≤ k → k < next + (first.1 - next) → node_signals plan t k ≡ node_signals plan (t - 1) k
    same_before k high low =
        let to = not_looked_at in
        let there = node_there in
        let s = h.some in
        let below : k < first.1 = omega arith in
        let b : k < length plan.nodes = omega arith in
        let w : Probe = get_or all k d in
        stays laws plan sound k b (t - 1) t w (h.others k d high b) (omega arith) (later_before k below) ∙ sym (now laws plan sound k b (t - 1) w (h.others k d high b))

    lines_before : changes_from 0 (take next (signals plan (t - 1))) (take next (signals plan t))
        ≡ changes_from 0 (take first.1 (signals plan (t - 1))) (take first.1 (signals plan t))
    lines_before =
        let to = not_looked_at in
        let there = node_there in
        sym (none_changed plan (t - 1) t next (first.1 - next) (omega arith) same_before)
        ∙ ap (λ (k : ℕ). changes_from 0 (take k (signals plan (t - 1))) (take k (signals plan t))) {x = next + (first.1 - next)} {y = first.1} (omega arith)

    known_before : (k : ℕ) → k < first.1 → Watches plan k t (get_or all k d)
    known_before k low = elim (cases_lt k next) [
      | inl looked_at ↦ h.known k d looked_at
      | inr high ↦
          (let there = node_there in
          on plan k (t - 1) t (get_or all k d) (h.others k d high (omega arith)) (omega arith) (later_before k low))
    ]

  -- and if the first date is later, or all nodes were looked at, all stay
  module _ (past : (k : ℕ) → next ≤ k → k < length plan.nodes → t < first.0) where
    later_all : (k : ℕ) → k < length plan.nodes → t < (get_or all k d).until
    later_all k b = elim (cases_lt k next) [
      | inl low ↦ lasts_on plan k t (get_or all k d) (h.known k d low)
      | inr high ↦
          (let m = past k high b in
          let less = before_first k b in
          let f = h.few in
          let i = h.dated.inside in
          omega arith)
    ]

    known_all : (k : ℕ) → k < length plan.nodes → Watches plan k t (get_or all k d)
    known_all k b = elim (cases_lt k next) [
      | inl low ↦ h.known k d low
      | inr high ↦ on plan k (t - 1) t (get_or all k d) (h.others k d high b) (omega arith) (later_all k b)
    ]

    first_later : t < first.0
    first_later =
        let l = h.long in
        let f = h.few in
        later_first plan.end t all calendar h.is first h.dated h.early (omega arith) d (λ k b. later_all k (omega arith))

    until_first : (k : ℕ) → k < length plan.nodes → min first.0 plan.end ≤ (get_or all k d).until
    until_first k b =
        let less = before_first k b in
        let f = h.few in
        omega arith

    stay_all : (u : ℕ) → t ≤ u → u < min first.0 plan.end → signals plan u ≡ signals plan t
    stay_all u from below =
        all_same plan t u (λ k b.
        let m = until_first k b in
        stays laws plan sound k b t u (get_or all k d) (known_all k b) from (omega arith) ∙ sym (now laws plan sound k b t (get_or all k d) (known_all k b)))

pub bounds-probes-i : goal.bounds-probes-i
bounds-probes-i c =
    let inv = c.loop-next.invariant in
    let d : Probe = some_of c.loop-next.probes (let e = c.loop-next-test.true in omega arith) in
    (found c.simulation_laws.ensures c.args.plan.now c.laws.ensures.sound c.args.t c.loop-next.next c.loop-next.probes c.loop-next.calendar c.loop-next.first
    (record {
      some = c.requires.some;
      early = c.requires.early;
      few = c.laws.ensures.checked.few_nodes;
      long = inv.long;
      known = inv.known;
      others = inv.others;
      is = inv.calendar;
      dated = inv.first;
    }) d c.if-first-t.true).0

pub push_node-requires-clause-node : goal.push_node-requires-clause-node
push_node-requires-clause-node c =
    let inv = c.loop-next.invariant in
    let d : Probe = some_of c.loop-next.probes (let e = c.loop-next-test.true in omega arith) in
    node_there c.simulation_laws.ensures c.args.plan.now c.laws.ensures.sound c.args.t c.loop-next.next c.loop-next.probes c.loop-next.calendar c.loop-next.first
    (record {
      some = c.requires.some;
      early = c.requires.early;
      few = c.laws.ensures.checked.few_nodes;
      long = inv.long;
      known = inv.known;
      others = inv.others;
      is = inv.calendar;
      dated = inv.first;
    }) d c.if-first-t.true

pub push_node-requires-clause-was : goal.push_node-requires-clause-was
push_node-requires-clause-was c =
    let inv = c.loop-next.invariant in
    here_before c.simulation_laws.ensures c.args.plan.now c.laws.ensures.sound c.args.t c.loop-next.next c.loop-next.probes c.loop-next.calendar c.loop-next.first
    (record {
      some = c.requires.some;
      early = c.requires.early;
      few = c.laws.ensures.checked.few_nodes;
      long = inv.long;
      known = inv.known;
      others = inv.others;
      is = inv.calendar;
      dated = inv.first;
    }) c.index-probes-i.result c.if-first-t.true

pub push_node-requires-clause-past : goal.push_node-requires-clause-past
push_node-requires-clause-past c =
    let inv = c.loop-next.invariant in
    let e = its_date c.simulation_laws.ensures c.args.plan.now c.laws.ensures.sound c.args.t c.loop-next.next c.loop-next.probes c.loop-next.calendar c.loop-next.first
    (record {
      some = c.requires.some;
      early = c.requires.early;
      few = c.laws.ensures.checked.few_nodes;
      long = inv.long;
      known = inv.known;
      others = inv.others;
      is = inv.calendar;
      dated = inv.first;
    }) c.index-probes-i.result c.if-first-t.true in
    omega arith

pub bounds-probes-i-then-first-t : goal.bounds-probes-i-then-first-t
bounds-probes-i-then-first-t c =
    let inv = c.loop-next.invariant in
    let i : ℕ = c.loop-next.first.1 in
    let all : List Probe = c.loop-next.probes in
    let there : i < length all = (found c.simulation_laws.ensures c.args.plan.now c.laws.ensures.sound c.args.t c.loop-next.next all c.loop-next.calendar c.loop-next.first
    (record {
      some = c.requires.some;
      early = c.requires.early;
      few = c.laws.ensures.checked.few_nodes;
      long = inv.long;
      known = inv.known;
      others = inv.others;
      is = inv.calendar;
      dated = inv.first;
    }) c.index-probes-i.result c.if-first-t.true).0 in
    let same = length-set all i c.push_node.new.probe in
    let inside : i < length (set all i c.push_node.new.probe) = omega arith in
    inside

pub bounds-probes-i-then-first-t-2 : goal.bounds-probes-i-then-first-t-2
bounds-probes-i-then-first-t-2 c =
    let inv = c.loop-next.invariant in
    let i : ℕ = c.loop-next.first.1 in
    let all : List Probe = c.loop-next.probes in
    let there : i < length all = (found c.simulation_laws.ensures c.args.plan.now c.laws.ensures.sound c.args.t c.loop-next.next all c.loop-next.calendar c.loop-next.first
    (record {
      some = c.requires.some;
      early = c.requires.early;
      few = c.laws.ensures.checked.few_nodes;
      long = inv.long;
      known = inv.known;
      others = inv.others;
      is = inv.calendar;
      dated = inv.first;
    }) c.index-probes-i.result c.if-first-t.true).0 in
    let same = length-set all i c.push_node.new.probe in
    let inside : i < length (set all i c.push_node.new.probe) = omega arith in
    inside

pub put-requires-clause-node : goal.put-requires-clause-node
put-requires-clause-node c =
    let inv = c.loop-next.invariant in
    let i : ℕ = c.loop-next.first.1 in
    let all : List Probe = c.loop-next.probes in
    let there : i < length all = (found c.simulation_laws.ensures c.args.plan.now c.laws.ensures.sound c.args.t c.loop-next.next all c.loop-next.calendar c.loop-next.first
    (record {
      some = c.requires.some;
      early = c.requires.early;
      few = c.laws.ensures.checked.few_nodes;
      long = inv.long;
      known = inv.known;
      others = inv.others;
      is = inv.calendar;
      dated = inv.first;
    }) c.index-probes-i.result c.if-first-t.true).0 in
    let count : c.loop-next.calendar.nodes ≡ length all = inv.calendar.nodes in
    let inside : i < c.loop-next.calendar.nodes = omega arith in
    inside

pub loop-next-smaller : goal.loop-next-smaller
loop-next-smaller c =
    let inv = c.loop-next.invariant in
    let h : LooksAt c.args.plan.now c.args.t c.loop-next.next c.loop-next.probes c.loop-next.calendar c.loop-next.first = record {
      some = c.requires.some;
      early = c.requires.early;
      few = c.laws.ensures.checked.few_nodes;
      long = inv.long;
      known = inv.known;
      others = inv.others;
      is = inv.calendar;
      dated = inv.first;
    } in
    let there = node_there c.simulation_laws.ensures c.args.plan.now c.laws.ensures.sound c.args.t c.loop-next.next c.loop-next.probes c.loop-next.calendar c.loop-next.first h c.index-probes-i.result c.if-first-t.true in
    let to = not_looked_at c.simulation_laws.ensures c.args.plan.now c.laws.ensures.sound c.args.t c.loop-next.next c.loop-next.probes c.loop-next.calendar c.loop-next.first h c.index-probes-i.result c.if-first-t.true in
    omega arith

pub loop-next-preserved : goal.loop-next-preserved
loop-next-preserved c =
    let plan : Plan = c.args.plan.now in
    let t : ℕ = c.args.t in
    let next : ℕ = c.loop-next.next in
    let all : List Probe = c.loop-next.probes in
    let i : ℕ = c.loop-next.first.1 in
    let inv = c.loop-next.invariant in
    let laws = c.simulation_laws.ensures in
    let sound = c.laws.ensures.sound in
    let d : Probe = c.index-probes-i.result in
    let w : Probe = c.push_node.new.probe in
    let h : LooksAt plan t next all c.loop-next.calendar c.loop-next.first = record {
      some = c.requires.some;
      early = c.requires.early;
      few = c.laws.ensures.checked.few_nodes;
      long = inv.long;
      known = inv.known;
      others = inv.others;
      is = inv.calendar;
      dated = inv.first;
    } in
    let there : i < length plan.nodes = node_there laws plan sound t next all c.loop-next.calendar c.loop-next.first h d c.if-first-t.true in
    let to : next ≤ i = not_looked_at laws plan sound t next all c.loop-next.calendar c.loop-next.first h d c.if-first-t.true in
    let few = c.laws.ensures.checked.few_nodes in
    let long = inv.long in
    let room : i < length all = omega arith in
    let ends : c.deref.result.now.end ≡ plan.end = ap (λ (p : Plan). p.end) c.deref.ensures.0 in
    let put : get_or (set all i w) i c.index-probes-i-in-loop-next.result ≡ w = get_or-set_same all i w c.index-probes-i-in-loop-next.result room in
    let dated = ap (λ (v : Probe). v.until) put in
    record {
      lines =
          c.push_node.ensures.lines
          ∙ ap (λ ys. ys ++ node_changes i (node_signals plan (t - 1) i) (node_signals plan t i)) inv.lines
          ∙ ap (λ ys. (c.args.text.now.items ++ ys) ++ node_changes i (node_signals plan (t - 1) i) (node_signals plan t i)) (lines_before laws plan sound t next all c.loop-next.calendar c.loop-next.first h d c.if-first-t.true)
          ∙ append_assoc c.args.text.now.items (changes_from 0 (take i (signals plan (t - 1))) (take i (signals plan t))) (node_changes i (node_signals plan (t - 1) i) (node_signals plan t i))
          ∙ ap (λ ys. c.args.text.now.items ++ ys) (sym (node_more plan (t - 1) t i there));
      room = (let grown = c.push_node.ensures.grown in let was = inv.room in omega arith);
      inside = omega arith;
      long = length-set all i w ∙ inv.long;
      known = known_more (λ k v. Watches plan k t v) all i w room
          (λ k v low. known_before laws plan sound t next all c.loop-next.calendar c.loop-next.first h v c.if-first-t.true k low) c.push_node.ensures.watches;
      others = others_stay (λ k v. Watches plan k (t - 1) v) all i (length plan.nodes) w (λ k v from inside. inv.others k v (omega arith) inside);
      calendar = put_date plan.end i all c.loop-next.calendar c.put.new.self w room inv.calendar c.put.ensures.nodes (omega (arith, c.put.ensures.here, c.min.ensures)) c.put.ensures.others;
      first = c.first-first-in-loop-next.ensures;
    }

past_it : (c : goal.After-min-2) → (k : ℕ) → c.loop-next.next ≤ k → k < length c.args.plan.now.nodes → c.args.t < c.loop-next.first.0
past_it c k from b = elim c.loop-next-test.branch [
  | then-loop-next-test+else-first-t w ↦ w.if-first-t.false
  | else-loop-next-test w ↦ absurd (let e = w.loop-next-test.false in let long = c.loop-next.invariant.long in omega arith)
]

looked : (c : goal.After-min-2) → LooksAt c.args.plan.now c.args.t c.loop-next.next c.loop-next.probes c.loop-next.calendar c.loop-next.first
looked c =
    let inv = c.loop-next.invariant in
    record {
      some = c.requires.some;
      early = c.requires.early;
      few = c.laws.ensures.checked.few_nodes;
      long = inv.long;
      known = inv.known;
      others = inv.others;
      is = inv.calendar;
      dated = inv.first;
    }

some_watched : (c : goal.After-min-2) → Probe
some_watched c = some_of c.loop-next.probes (let long = c.loop-next.invariant.long in let some = c.laws.ensures.checked.some_node in omega arith)

-- the end is that of the plan
ends : (c : goal.After-min-2) → c.min-2.result ≡ min c.loop-next.first.0 c.args.plan.now.end
ends c = c.min-2.ensures ∙ ap (λ (p : Plan). min c.loop-next.first.0 p.end) c.deref-2.ensures.0

pub returns-clause-later : goal.returns-clause-later
returns-clause-later c =
    let e = ends c in
    let early = c.requires.early in
    let later = first_later c.simulation_laws.ensures c.args.plan.now c.laws.ensures.sound c.args.t c.loop-next.next c.loop-next.probes c.loop-next.calendar c.loop-next.first (looked c) (some_watched c) (past_it c) in
    omega arith

pub returns-clause-lines : goal.returns-clause-lines
returns-clause-lines c =
    let plan : Plan = c.args.plan.now in
    let t : ℕ = c.args.t in
    let n : ℕ = length plan.nodes in
    let next : ℕ = c.loop-next.next in
    let inside = c.loop-next.invariant.inside in
    let h = looked c in
    let was = all_nodes plan (t - 1) in
    let is = all_nodes plan t in
    let all : changes_from 0 (take next (signals plan (t - 1))) (take next (signals plan t)) ≡ changes_from 0 (take n (signals plan (t - 1))) (take n (signals plan t)) =
    sym (none_changed plan (t - 1) t next (n - next) (omega arith)
    (λ k from below.
    let d : Probe = some_watched c in
    let b : k < n = omega arith in
    let w = h.others k d from b in
    let more = later_all c.simulation_laws.ensures plan c.laws.ensures.sound t next c.loop-next.probes c.loop-next.calendar c.loop-next.first h d (past_it c) k b in
    stays c.simulation_laws.ensures plan c.laws.ensures.sound k b (t - 1) t (get_or c.loop-next.probes k d) w (omega arith) more
    ∙ sym (now c.simulation_laws.ensures plan c.laws.ensures.sound k b (t - 1) (get_or c.loop-next.probes k d) w)))
    ∙ ap (λ (k : ℕ). changes_from 0 (take k (signals plan (t - 1))) (take k (signals plan t))) {x = next + (n - next)} {y = n} (omega arith)
    in
    c.loop-next.invariant.lines ∙ ap (λ ys. c.args.text.now.items ++ ys) all
    ∙ ap₂ (λ xs ys. c.args.text.now.items ++ changes_from 0 xs ys) (take_all n (signals plan (t - 1)) (omega arith)) (take_all n (signals plan t) (omega arith))

pub returns-clause-stays : goal.returns-clause-stays
returns-clause-stays c u from below =
    let e = ends c in
    stay_all c.simulation_laws.ensures c.args.plan.now c.laws.ensures.sound c.args.t c.loop-next.next c.loop-next.probes c.loop-next.calendar c.loop-next.first (looked c) (some_watched c) (past_it c)
    u from (omega arith)

pub returns-clause-probes : goal.returns-clause-probes
returns-clause-probes c =
    let plan = c.args.plan.now in
    let t : ℕ = c.args.t in
    let e = ends c in
    let early = c.requires.early in
    let later = first_later c.simulation_laws.ensures plan c.laws.ensures.sound t c.loop-next.next c.loop-next.probes c.loop-next.calendar c.loop-next.first (looked c) (some_watched c) (past_it c) in
    record {
      nodes = c.loop-next.invariant.long;
      each = λ k d b.
          let w = known_all c.simulation_laws.ensures plan c.laws.ensures.sound t c.loop-next.next c.loop-next.probes c.loop-next.calendar c.loop-next.first (looked c) d (past_it c) k b in
          let less = until_first c.simulation_laws.ensures plan c.laws.ensures.sound t c.loop-next.next c.loop-next.probes c.loop-next.calendar c.loop-next.first (looked c) d (past_it c) k b in
          on plan k t (c.min-2.result - 1) (get_or c.loop-next.probes k d) w (omega arith) (omega arith);
    }
