-- What is known of nodes from a tick on, at later ticks.
use Rattle.std.proofs.Common.{◌≡◌, ◌∙◌, refl, sym, subst, ap, ap₂, arith, zero-add, below_more, get_or-set_other, get_or-set_same, ℕ, zero, suc, ◌+◌, ◌-◌, inl, inr, ◌<◌, ◌≤◌, ◌≢◌, not, ◌||◌, false, Bool, List, [], ◌∷◌, ◌++◌, length, get_or, set, take, map, append-nil}
use Rattle.std.specs.List.{range_with_len}
use Rattle.std.proofs.lemmas.Bool.{cases_lt}
use Rattle.std.proofs.Math.ListN.{get_or-append}
use Rattle.std.proofs.Math.Seq.{get_or-append_seam}
use Rattle.std.proofs.lemmas.List.FromFn.{get_or-map-range_with_len, length-map-range_with_len}
use Rattle.wl_level.specs.Levels.{is_dominant}
use Rattle.wl_confine.specs.declared.Mode.TheVariants.{Active}
use Rattle.wl_machine.specs.declared.doing.Doing.TheVariants.{Integrating}
use Rattle.wl_plan.specs.declared.plan.Plan.{Plan}
use Rattle.wl_plan.specs.PlanLine.{line_of, setup_at}
use Rattle.wl_plan.specs.SimulationLaws.{SimulationLaws}
use Rattle.wl_plan.specs.Sound.{IsSound}
use Rattle.wl_trace.specs.declared.snapshot.NodeSnapshot.{NodeSnapshot}
use Rattle.wl_pulse.specs.declared.pulse.Pulse.{Pulse}
use Rattle.wl_views.specs.declared.signals.NodeSignals.{NodeSignals}
use Rattle.wl_views.specs.declared.place_line.PlaceLine.{PlaceLine}
use Rattle.wl_views.specs.declared.probe.Probe.{Probe}
use Rattle.wl_views.specs.PlaceLine.{Comes, Hears, Lasts, Remembers, heard_until, not_held}
use Rattle.wl_views.specs.Probe.{Awaits, Watches, signals_by}
use Rattle.wl_views.specs.Signals.{node_signals, snapshot_then, signals}
use Rattle.wl_views.specs.Vcd.{changes_from, node_changes}
use Rattle.wl_clock.specs.Timing.{tick_of}
use Rattle.wl_views.proofs.Going.{begun_earlier}
use Rattle.wl_views.proofs.SignalProofs.{driven_then}
use Rattle.wl_views.proofs.Walk.{changed_more, same_node}

abbrev pub low : NodeSignals
low = record { tx = false; rx = false; cable = false; disturbance = false; sample = false; start = false; state = record { tec = 0; rec = 0; mode = Active; doing = Integrating } }

narrow : (f : ℕ → Bool) (t u : ℕ) (held : Pulse) → Lasts f t held → t ≤ u → u < held.until → Lasts f u held
narrow f t u held h from below = record { later = below; same = λ v more less. h.same v (omega arith) less }

comes_on : (plan : Plan) (j t u : ℕ) (all : List Pulse) → Comes plan j t all → t ≤ u → Comes plan j u all
comes_on plan j t u all h from i b below = narrow _ t u (get_or all i not_held) (h i b (omega arith)) from below

hears_on : (plan : Plan) (i t u : ℕ) (l : PlaceLine) → Hears plan i t l → t ≤ u → u < heard_until l → Hears plan i u l
hears_on plan i t u l h from below = record {
  cable = narrow _ t u l.cable h.cable from (omega arith);
  disturbance = narrow _ t u l.disturbance h.disturbance from (omega arith);
  sources = comes_on plan i t u l.sources h.sources from;
}

-- what was heard is remembered as long as it stays
pub remembers_on : (plan : Plan) (i t u : ℕ) (l : PlaceLine) → Hears plan i t l → t ≤ u → Remembers plan i u l
remembers_on plan i t u l h from = record {
  cable = λ below. narrow _ t u l.cable h.cable from below;
  disturbance = λ below. narrow _ t u l.disturbance h.disturbance from below;
  sources = comes_on plan i t u l.sources h.sources from;
}

-- what is known goes on as long as it stays
pub on : (plan : Plan) (i t u : ℕ) (w : Probe) → Watches plan i t w → t ≤ u → u < w.until → Watches plan i u w
on plan i t u w h from below = record {
  runs = h.runs;
  hears = hears_on plan i t u w.line h.hears from (omega (arith, h.until));
  limit = h.limit;
  next = h.next;
  before = h.before;
  later = omega (arith, h.until);
  until = h.until;
  same = λ v more less. h.same v (omega arith) less;
}

module _ (laws : SimulationLaws) (plan : Plan) (sound : IsSound (line_of plan)) (i : ℕ) (b : i < length plan.nodes) where
  pub stays : (t u : ℕ) (w : Probe) → Watches plan i t w → t ≤ u → u < w.until
      → node_signals plan u i ≡ signals_by w.snapshot w.line.cable.dominant w.line.disturbance.dominant
  unfolding node_signals
  stays t u w h from below =
      let same : snapshot_then plan i u ≡ w.snapshot = h.same u from below in
      let e = h.until in
      λ x. record {
        tx = ap not (driven_then laws plan sound i b u ∙ ap (λ (s : NodeSnapshot). is_dominant s.drive) same) x;
        rx = ap₂ (λ d e. not (d || e)) (h.hears.cable.same u from (omega arith)) (h.hears.disturbance.same u from (omega arith)) x;
        cable = ap not (h.hears.cable.same u from (omega arith)) x;
        disturbance = h.hears.disturbance.same u from (omega arith) x;
        sample = ap (λ (s : NodeSnapshot). s.sampled) same x;
        start = ap (λ (s : NodeSnapshot). s.started) same x;
        state = ap (λ (s : NodeSnapshot). s.state) same x;
      }

  pub now : (t : ℕ) (w : Probe) → Watches plan i t w
      → node_signals plan t i ≡ signals_by w.snapshot w.line.cable.dominant w.line.disturbance.dominant
  now t w h =
      let p = h.hears.cable.later in
      let r = h.hears.disturbance.later in
      let q = h.later in
      let e = h.until in
      stays t t w h (omega arith) (omega arith)

  -- what it has seen began before the line changes, and before its next quantum
  begun_before : (t : ℕ) (w : Probe) → 0 < t → Watches plan i (t - 1) w → w.until ≤ t → (k : ℕ) → k < w.quanta → tick_of (setup_at plan i).clock k < t
  begun_before t w some h past k less = elim (cases_lt (heard_until w.line) (t + 1)) [
    | inl run_out ↦ (let m = h.before k less in omega arith)
    | inr stays ↦
        (let e : w.next ≡ t = (let q = h.later in let m = h.until in omega arith) in
        let m = begun_earlier laws plan sound i b k w.quanta less (h.runs.inside k less) in
        let n = h.next in omega arith)
  ]

  pub remembered : (t : ℕ) (w : Probe) → Watches plan i (t - 1) w → Remembers plan i t w.line
  remembered t w h = remembers_on plan i (t - 1) t w.line h.hears (omega arith)

  -- where what is known runs out, it is for the line or for the next quantum: all that began before was seen
  pub awaited : (t : ℕ) (w : Probe) → 0 < t → Watches plan i (t - 1) w → w.until ≤ t → Awaits plan i t w
  awaited t w some h past =
      let q = h.later in
      let e = h.until in
      record {
        runs = h.runs;
        next = h.next;
        before = λ k less. begun_before t w some h past k less;
        here = omega arith;
      }

-- a range of equal values
same_range : {X : Type 0} (f g : ℕ → X) (a n : ℕ) → ((k : ℕ) → a ≤ k → k < a + n → f k ≡ g k) → map f (range_with_len a n) ≡ map g (range_with_len a n)
same_range f g a zero same = refl
same_range f g a (suc n) same =
    ap₂ (λ x xs. x ∷ xs) (same a (omega arith) (omega arith)) (same_range f g (a + 1) n (λ k from below. same k (omega arith) (omega arith)))

pub all_same : (plan : Plan) (t u : ℕ) → ((i : ℕ) → i < length plan.nodes → node_signals plan u i ≡ node_signals plan t i) → signals plan u ≡ signals plan t
all_same plan t u same = same_range (node_signals plan u) (node_signals plan t) 0 (length plan.nodes) (λ k from below. same k (omega arith))

pub all_nodes : (plan : Plan) (u : ℕ) → length (signals plan u) ≡ length plan.nodes
all_nodes plan u = length-map-range_with_len (node_signals plan u) 0 (length plan.nodes)

-- the changes of one node more
pub node_more : (plan : Plan) (s t k : ℕ) → k < length plan.nodes
    → changes_from 0 (take (k + 1) (signals plan s)) (take (k + 1) (signals plan t))
    ≡ changes_from 0 (take k (signals plan s)) (take k (signals plan t)) ++ node_changes k (node_signals plan s k) (node_signals plan t k)
node_more plan s t k b =
    let m = all_nodes plan s in
    let n = all_nodes plan t in
    let was : get_or (signals plan s) k low ≡ node_signals plan s k = get_or-map-range_with_len (node_signals plan s) 0 (length plan.nodes) k k low b (zero-add k) in
    let now : get_or (signals plan t) k low ≡ node_signals plan t k = get_or-map-range_with_len (node_signals plan t) 0 (length plan.nodes) k k low b (zero-add k) in
    changed_more k (signals plan s) (signals plan t) low (omega arith) (omega arith)
    ∙ ap₂ (λ x y. changes_from 0 (take k (signals plan s)) (take k (signals plan t)) ++ node_changes k x y) was now

-- one of them
pub some_of : (all : List Probe) → 0 < length all → Probe
some_of [] some = absurd (omega arith)
some_of (w ∷ all) some = w

-- what is known of the nodes up to one, of which it is put in place
pub known_more : (P : ℕ → Probe → Type 0) (all : List Probe) (i : ℕ) (w : Probe) → i < length all
    → ((k : ℕ) (d : Probe) → k < i → P k (get_or all k d)) → P i w → (k : ℕ) (d : Probe) → k < i + 1 → P k (get_or (set all i w) k d)
known_more P all i w room below here k d =
    below_more (λ m. P m (get_or (set all i w) m d)) i
    (λ m h. let ne : m ≢ i = omega arith in subst (P m) (sym (get_or-set_other all i m w d ne)) (below m d h))
    (subst (P i) (sym (get_or-set_same all i w d room)) here)
    k

-- and of the others, which stay as they are
pub others_stay : (P : ℕ → Probe → Type 0) (all : List Probe) (i n : ℕ) (w : Probe)
    → ((k : ℕ) (d : Probe) → i ≤ k → k < n → P k (get_or all k d)) → (k : ℕ) (d : Probe) → i + 1 ≤ k → k < n → P k (get_or (set all i w) k d)
others_stay P all i n w others k d from inside =
    let ne : k ≢ i = omega arith in subst (P k) (sym (get_or-set_other all i k w d ne)) (others k d (omega arith) inside)

-- and of one more behind them
pub known_behind : (P : ℕ → Probe → Type 0) (all : List Probe) (i : ℕ) (w : Probe) → length all ≡ i
    → ((k : ℕ) (d : Probe) → k < i → P k (get_or all k d)) → P i w → (k : ℕ) (d : Probe) → k < i + 1 → P k (get_or (all ++ w ∷ []) k d)
known_behind P all i w long below here k d =
    below_more (λ m. P m (get_or (all ++ w ∷ []) m d)) i
    (λ m h. let inside : m < length all = omega arith in subst (P m) (sym (get_or-append all (w ∷ []) d m inside)) (below m d h))
    (subst (λ (x : Probe). P i x) (sym (ap (λ (n : ℕ). get_or (all ++ w ∷ []) n d) (sym long) ∙ get_or-append_seam all w [] d)) here)
    k

-- nodes whose signals stay have no lines
pub none_changed : (plan : Plan) (s t a n : ℕ) → a + n ≤ length plan.nodes
    → ((k : ℕ) → a ≤ k → k < a + n → node_signals plan t k ≡ node_signals plan s k)
    → changes_from 0 (take (a + n) (signals plan s)) (take (a + n) (signals plan t)) ≡ changes_from 0 (take a (signals plan s)) (take a (signals plan t))
none_changed plan s t a zero few same =
    ap (λ (k : ℕ). changes_from 0 (take k (signals plan s)) (take k (signals plan t))) {x = a + 0} {y = a} (omega arith)
none_changed plan s t a (suc n) few same =
    ap (λ (k : ℕ). changes_from 0 (take k (signals plan s)) (take k (signals plan t))) {x = a + suc n} {y = (a + n) + 1} (omega arith)
    ∙ node_more plan s t (a + n) (omega arith)
    ∙ ap (λ x. changes_from 0 (take (a + n) (signals plan s)) (take (a + n) (signals plan t)) ++ node_changes (a + n) (node_signals plan s (a + n)) x) (same (a + n) (omega arith) (omega arith))
    ∙ ap (λ ys. changes_from 0 (take (a + n) (signals plan s)) (take (a + n) (signals plan t)) ++ ys) (same_node (a + n) (node_signals plan s (a + n)))
    ∙ append-nil (changes_from 0 (take (a + n) (signals plan s)) (take (a + n) (signals plan t)))
    ∙ none_changed plan s t a n (omega arith) (λ k from below. same k from (omega arith))
