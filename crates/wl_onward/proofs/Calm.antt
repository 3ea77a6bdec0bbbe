-- A silence that a run shows is one on the line of its plan.
use Rattle.std.proofs.Common.{◌≡◌, ◌∙◌, ◌⊎◌, inl, inr, refl, sym, ap, ap₂, subst, ℕ, zero, suc, ◌+◌, ◌-◌, ◌*◌, ◌<◌, ◌≤◌, ◌&&◌, ◌||◌, max, Bool, true, false, cond, List, [], ◌∷◌, length, fold, Option, Some, None, arith}
use Rattle.std.specs.Prelude.{nat_le, nat_lt, unwrap_or}
use Rattle.std.specs.List.{list_any}
use Rattle.std.specs.Option.{IsSome}
use Rattle.std.proofs.Math.Nat.{mul-le-mul_left}
use Rattle.std.proofs.lemmas.Bool.{and_parts, cases_lt, le-ltb, lt-leb}
use Rattle.wl_level.specs.declared.Level.{Level}
use Rattle.wl_confine.specs.declared.Mode.{Mode}
use Rattle.wl_confine.specs.declared.Mode.TheVariants.{Active, Off, Passive}
use Rattle.wl_confine.specs.Counts.{mode_of}
use Rattle.wl_clock.specs.Timing.{IsTiming}
use Rattle.wl_segments.specs.Lengths.{bit_quanta}
use Rattle.wl_topology.specs.Delays.{delay_of}
use Rattle.wl_machine.specs.Doing.{doing_by, doing_of}
use Rattle.wl_machine.specs.Judged.{stretch_of}
use Rattle.wl_machine.specs.Stretch.{Sort}
use Rattle.wl_machine.specs.Stretch.Sort.{Delimiting, Flagging, Framing, Idle, Integration, Intermission, OffBus, Suspension, Waiting}
use Rattle.wl_heal.specs.Silence.{is_off_by}
use Rattle.wl_node.specs.declared.setup.NodeSetup.{NodeSetup}
use Rattle.wl_node.specs.History.{History, counters_of, staying_history}
use Rattle.wl_node.proofs.Callers.{stays_on}
use Rattle.wl_phase.specs.Clocks.{HasRate, Steady, steady_tick, steady_timing}
use Rattle.wl_phase.proofs.Callers.{floor_high, floor_low, rate_tick}
use Rattle.wl_plan.specs.declared.plan.Disturbance.{Disturbance}
use Rattle.wl_plan.specs.declared.plan.Plan.{Plan}
use Rattle.wl_plan.specs.Checked.{IsChecked}
use Rattle.wl_plan.specs.Line.{Line}
use Rattle.wl_plan.specs.PlanLine.{delay_to, is_at, line_of, no_setup, setup_at}
use Rattle.wl_plan.specs.Simulation.{history, level, ran, seen}
use Rattle.wl_plan.specs.SimulationLaws.{SimulationLaws}
use Rattle.wl_plan.specs.Sound.{IsCausal}
use Rattle.wl_trace.specs.Replay.{past_of}
use Rattle.wl_serial.specs.Outcome.{node_outcome_of}
use Rattle.wl_buses.specs.BothProofs.Plans.{NoneLeaves}
use Rattle.wl_buses.proofs.Callers.{LastQuantum, last_quantum, none_below}
use Rattle.wl_silence.specs.Silences.{IsSilentFor}
use Rattle.wl_silence.specs.SilentPlans.{NoneDisturbsSince}
use Rattle.wl_onward.specs.Fits.{fit_by, fit_since, is_active, is_fit, is_on}
use Rattle.wl_onward.specs.Silences.{AreFit, ShowsSilence, bits_ticks, greatest_below, over_at, settled_for, silence_ticks, way_to}
use Rattle.wl_onward.proofs.Fitting.{begun_by, fit_from}

-- the greatest of some numbers is no less than each
pub greatest_low : (f : ℕ → ℕ) (n i : ℕ) → i < n → f i ≤ greatest_below f n
greatest_low f zero i less = absurd (omega arith)
greatest_low f (suc n) i less = elim (cases_lt i n) [
  | inl before ↦ (let h = greatest_low f n i before in omega arith)
  | inr last ↦ (let same : i ≡ n = omega arith in let e = ap f same in omega arith)
]

fold_low : (f : Disturbance → ℕ) (ds : List Disturbance) (acc : ℕ) → acc ≤ fold (λ t d. max t (f d)) acc ds
fold_low f [] acc = omega arith
fold_low f (d ∷ ds) acc = let h = fold_low f ds (max acc (f d)) in omega arith

none_by : (f : Disturbance → ℕ) (p : Disturbance → Bool) (ds : List Disturbance) (acc m : ℕ) → fold (λ t d. max t (f d)) acc ds ≤ m → ((d : Disturbance) → f d ≤ m → p d ≡ false) → list_any p ds ≡ false
none_by f p [] acc m less none = refl
none_by f p (d ∷ ds) acc m less none =
    let h = fold_low f ds (max acc (f d)) in
    ap₂ (λ a b. a || b) (none d (omega arith)) (none_by f p ds (max acc (f d)) m less none)

mode_is : (m : Mode) → is_active m ≡ true → m ≡ Active
mode_is Active e = refl
mode_is Passive e = cc
mode_is Off e = cc

on_is : (x : Sort) (own : List Level) → is_on (doing_by x own) ≡ true → is_off_by x ≡ false
on_is Integration own e = refl
on_is Idle own e = refl
on_is (Framing head) own e = refl
on_is (Flagging flag role) own e = refl
on_is (Waiting flag role flagged) own e = refl
on_is (Delimiting role) own e = refl
on_is (Intermission role) own e = refl
on_is Suspension own e = refl
on_is OffBus own e = cc

some_is : (o : Option ℕ) → IsSome o → (f : ℕ) × (o ≡ Some f)
some_is (Some f) is = (f, refl)
some_is None is = cc

-- n quanta of a clock of one rate, from any quantum on, take a tick more at most than its first n
more_ticks : (c : Steady) (q m : ℕ) → 0 < c.den → steady_tick c (q + m) ≤ steady_tick c q + (steady_tick c m - steady_tick c 0) + 1
more_ticks c q m d = elim (cases_lt (steady_tick c (q + m)) (steady_tick c q + (steady_tick c m - steady_tick c 0) + 2)) [
  | inl less ↦ omega arith
  | inr high ↦
      (let a = floor_low c (q + m) in
      let b = floor_high c q d in
      let e = floor_high c m d in
      let z = floor_low c 0 in
      let x : (q + m) * c.num ≡ q * c.num + m * c.num = omega arith in
      let up : steady_tick c 0 ≤ steady_tick c q + steady_tick c m + 2 = elim (cases_lt (steady_tick c q + steady_tick c m + 2) (steady_tick c 0)) [
        | inl low ↦ (let h = mul-le-mul_left c.den (let g : steady_tick c m + 1 ≤ steady_tick c 0 = omega arith in g) in absurd (omega arith))
        | inr fine ↦ fine
      ] in
      let h = mul-le-mul_left c.den (let g : steady_tick c q + steady_tick c m + 2 ≤ steady_tick c (q + m) + steady_tick c 0 = omega arith in g) in
      absurd (omega arith))
]

-- the clock of a node that can be run
pub divides : (plan : Plan) (clocks : ℕ → Steady) → IsChecked plan → ((i : ℕ) → i < length plan.nodes → HasRate (setup_at plan i).clock (clocks i)) → (i : ℕ) → i < length plan.nodes → 0 < (clocks i).den
divides plan clocks checked rates i inside =
    let timing : IsTiming (steady_timing (clocks i)) = subst IsTiming (rates i inside).timing (checked.clocks i no_setup inside) in
    (timing.rates 0 (record { from = 0; num = 1; den = 1 }) (omega arith)).divides

module _ (laws : SimulationLaws) (plan : Plan) (clocks : ℕ → Steady) (from : ℕ) (causal : IsCausal (line_of plan)) (rates : (i : ℕ) → i < length plan.nodes → HasRate (setup_at plan i).clock (clocks i))
    (whole : (i : ℕ) → i < length plan.nodes → 0 < (clocks i).den) (stays : NoneLeaves plan) (fit : AreFit plan (length plan.nodes)) (is : ShowsSilence plan from) where
  abbrev l : Line
  l = line_of plan

  abbrev until : ℕ
  until = from + silence_ticks plan + 1

  settled : (i : ℕ) → i < length plan.nodes → settled_for plan i ≤ from
  settled i inside = (let h = greatest_low (settled_for plan) (length plan.nodes) i inside in let e = is.settled in omega arith)

  pub none_disturbs : NoneDisturbsSince plan from
  none_disturbs i t inside late early =
      none_by (over_at plan i) (is_at plan i t) plan.disturbances 0 t
      (let h = settled i inside in omega arith)
      (λ d less. by d (cases_lt (d.from + delay_to plan.topology d i) plan.end) less)
    where
      by : (d : Disturbance) → (d.from + delay_to plan.topology d i < plan.end) ⊎ (plan.end ≤ d.from + delay_to plan.topology d i) → over_at plan i d ≤ t → is_at plan i t d ≡ false
      by d (inl comes) less =
          (let e : over_at plan i d ≡ d.to + delay_to plan.topology d i = ap (λ b. cond b 0 (d.to + delay_to plan.topology d i)) (lt-leb plan.end (d.from + delay_to plan.topology d i) comes) in
          let over : nat_lt t (d.to + delay_to plan.topology d i) ≡ false = le-ltb t (d.to + delay_to plan.topology d i) (omega arith) in
          ap (λ b. nat_le (d.from + delay_to plan.topology d i) t && b) over ∙ never (nat_le (d.from + delay_to plan.topology d i) t))
        where
          never : (b : Bool) → (b && false) ≡ false
          never true = refl
          never false = refl
      by d (inr past) less =
          (let before : nat_le (d.from + delay_to plan.topology d i) t ≡ false = lt-leb (d.from + delay_to plan.topology d i) t (omega arith) in
          ap (λ b. b && nat_lt t (d.to + delay_to plan.topology d i)) before)

  module _ (i : ℕ) (inside : i < length plan.nodes) where
    abbrev setup : NodeSetup
    setup = setup_at plan i

    rises : (j k : ℕ) → j < k → l.instant i j < l.instant i k
    rises j k less = (let a = causal.clocks i j inside in let b = laws.clock_later l i (suc j) k causal inside (omega arith) in omega arith)

    abbrev last : ℕ
    last = ran l i plan.end

    abbrev node : ℕ → History
    node k = staying_history setup (seen l i k)

    samples_are : (node_outcome_of plan i).samples ≡ (node last).samples
    samples_are =
        ap (λ (h : History). h.samples) (stays_on setup ((history l plan.end).seen i) (stays i inside))
        ∙ ap (λ levels. (staying_history setup levels).samples) (laws.history_seen l i plan.end causal inside)

    abbrev since : (f : ℕ) × (fit_since plan i ≡ Some f)
    since = some_is (fit_since plan i) (fit i inside)

    kept : (fit_by setup (node last).samples).1 ≡ Some since.0
    kept = ap (λ xs. (fit_by setup xs).1) (sym samples_are) ∙ since.1

    since_low : since.0 ≤ from
    since_low =
        (let e : unwrap_or (fit_since plan i) 0 ≡ since.0 = ap (λ o. unwrap_or o 0) since.1 in
        let h = settled i inside in
        omega arith)

    begun : l.instant i 0 ≤ from
    begun = (let a = begun_by l setup i rises last since.0 kept in let b = since_low in omega arith)

    inside_run : (k : ℕ) → l.instant i k < plan.end → k < last
    inside_run k early = elim (cases_lt k last) [
      | inl less ↦ less
      | inr more ↦
          (let up = laws.clock_later l i last k causal inside more in
          elim (laws.ran_all l i plan.end causal inside) [
            | inl a ↦ absurd (omega arith)
            | inr b ↦ absurd (omega arith)
          ])
    ]

    fit_at : (k : ℕ) → from ≤ l.instant i k → l.instant i k < until → is_fit (past_of (node (suc k))) ≡ true
    fit_at k late early =
        (let ends = is.pause.inside in
        let low = since_low in
        fit_from l setup i rises last since.0 kept k (inside_run k (omega arith)) (omega arith))

    way_low : (k : ℕ) → k < length plan.nodes → l.delay k i ≤ way_to plan i
    way_low k there = greatest_low (λ k. delay_of plan.topology k i) (length plan.nodes) k there

    abbrev first_quantum : LastQuantum l causal i (from + way_to plan i - 1)
    first_quantum = last_quantum l causal i (from + way_to plan i - 1) inside (let a = begun in let b = causal.delays i i inside inside in let d = way_low i inside in omega arith)

    long : l.instant i (suc first_quantum.quantum + 36 * bit_quanta setup.segments) < until
    long =
        (let q = first_quantum.quantum in
        let m : ℕ = 36 * bit_quanta setup.segments + 1 in
        let c = clocks i in
        let r = rates i inside in
        let e : suc q + 36 * bit_quanta setup.segments ≡ q + m = omega arith in
        let t = ap (l.instant i) e ∙ rate_tick r (q + m) in
        let tq = rate_tick r q in
        let tm = rate_tick r m in
        let tz = rate_tick r 0 in
        let h = more_ticks c q m (whole i inside) in
        let b = first_quantum.begun in
        let d = causal.delays i i inside inside in
        let w = way_low i inside in
        let s = greatest_low (λ i. way_to plan i + bits_ticks (setup_at plan i)) (length plan.nodes) i inside in
        let g : bits_ticks setup ≡ steady_tick c m - steady_tick c 0 = ap₂ (λ x y. x - y) tm tz in
        omega arith)

  -- the first quantum of each node in the silence
  pub record IsFirst (i k : ℕ) : Type 0 where
    pub over : (j : ℕ) → j < length plan.nodes → from + l.delay j i ≤ l.instant i k
    pub lasts : l.instant i (k + 36 * bit_quanta (setup_at plan i).segments) < until

  pub chosen : (i : ℕ) → (k : ℕ) × (i < length plan.nodes → IsFirst i k)
  chosen i = elim (cases_lt i (length plan.nodes)) [
    | inl inside ↦ (
      suc (first_quantum i inside).quantum,
      λ less. record {
        over = λ j there. (let a = way_low i inside j there in let b = (first_quantum i inside).next in omega arith);
        lasts = long i inside;
      },
    )
    | inr past ↦ (0, λ less. absurd (omega arith))
  ]

  abbrev pub first : ℕ → ℕ
  first i = (chosen i).0

  pub silent : IsSilentFor l (setup_at plan) from until first
  silent = record {
    inside = (let h = is.pause.inside in omega arith);
    quiet = λ i t inside late early. none_below (length plan.nodes) (λ i. level l i t) (is.pause.quiet t late (omega arith)) i inside;
    over = λ i k inside there. ((chosen i).1 inside).over k there;
    lasts = λ i inside. ((chosen i).1 inside).lasts;
    on = λ i k inside late early. on_is (stretch_of (node i inside (suc k)).inputs).sort (stretch_of (node i inside (suc k)).inputs).own (fit_parts i inside k late early).1;
    active = λ i k inside late early. mode_is (mode_of (counters_of (node i inside (suc k)))) (fit_parts i inside k late early).0;
  }
    where
      fit_parts : (i : ℕ) (inside : i < length plan.nodes) (k : ℕ) → first i ≤ k → l.instant i k < until
          → (is_active (mode_of (counters_of (node i inside (suc k)))) ≡ true) × (is_on (doing_of (stretch_of (node i inside (suc k)).inputs)) ≡ true)
      fit_parts i inside k late early =
          and_parts _ _ (fit_at i inside k (let a = ((chosen i).1 inside).over i inside in let b = laws.clock_later l i (first i) k causal inside late in omega arith) early)
