-- On a plan that ends late enough a lone sender has no frame left.
use Rattle.std.proofs.Common.{◌≡◌, ◌≢◌, ◌∙◌, refl, sym, ap, subst, inl, inr, ℕ, zero, suc, ◌+◌, ◌*◌, ◌<◌, ◌≤◌, List, All, length, drop, cond, arith}
use Rattle.std.proofs.lemmas.Bool.{cases_eq, cases_lt, eq-eqb}
use Rattle.std.proofs.lemmas.List.{length-map}
use Rattle.std.proofs.Math.Nat.{mul-le-mul_right}
use Rattle.wl_level.specs.declared.Level.{Level}
use Rattle.wl_segments.specs.Lengths.{bit_quanta}
use Rattle.wl_node.specs.declared.setup.Queued.{Queued}
use Rattle.wl_node.specs.History.{history_of, staying_history, unsent_of}
use Rattle.wl_node.proofs.Callers.{stays_on}
use Rattle.wl_plan.specs.declared.plan.Plan.{Plan}
use Rattle.wl_plan.specs.PlanLine.{line_of, setup_at}
use Rattle.wl_plan.specs.Simulation.{AreInside, ran, seen}
use Rattle.wl_plan.specs.SimulationLaws.{SimulationLaws}
use Rattle.wl_plan.specs.Sound.{IsCausal}
use Rattle.wl_phase.specs.Clocks.{Steady}
use Rattle.wl_serial.specs.Outcome.{node_outcome_of, outcome_of}
use Rattle.wl_buses.specs.OneSender.Clean.{HasOneSender, bus_with}
use Rattle.wl_buses.specs.OneSender.Through.{GetThrough, due_quantum}
use Rattle.wl_buses.specs.BothProofs.Queues.{first_ready}
use Rattle.wl_buses.specs.OneFrame.Plans.{IsPlanOf}
use Rattle.wl_buses.specs.OneFrame.Stations.{Stations}
use Rattle.wl_proved.specs.LateEnds.{EndsLate, frames_below}
use Rattle.wl_proved.specs.PlansOfFamily.{SendsAlone}
use Rattle.wl_proved.proofs.Ends.{none_unsent}
use Rattle.wl_proved.proofs.Lasting as lasting
use Rattle.wl_frame.specs.Grammar.{Content}

-- the frames of one node are some of all
one_of_all : (plan : Plan) (i m : ℕ) → i < m → length (setup_at plan i).queue ≤ frames_below plan m
one_of_all plan i zero h = absurd (omega arith)
one_of_all plan i (suc m) h = elim (cases_eq i m) [
  | inl last ↦ (let e = ap (λ j. length (setup_at plan j).queue) last in omega arith)
  | inr other ↦ (let before = one_of_all plan i m (omega (arith, other)) in omega arith)
]

module _ (laws : SimulationLaws) (plan : Plan) (s : Stations) (of : IsPlanOf plan s) (late : EndsLate plan) (causal : IsCausal (line_of plan)) (clocks : ℕ → Steady) (sender : ℕ)
    (one : HasOneSender plan sender) (alone : SendsAlone plan sender) (stuffed : Content → List Level)
    (through : GetThrough (bus_with plan clocks sender one stuffed) (λ n. late.bits)) where
  abbrev T : ℕ → ℕ → ℕ
  T i k = lasting.T plan s of late causal i k

  abbrev u : ℕ
  u = late.width * late.quantum

  abbrev queue : List Queued
  queue = (setup_at plan sender).queue

  abbrev due : ℕ → ℕ
  due n = due_quantum (bus_with plan clocks sender one stuffed) (λ n. late.bits) n

  abbrev B : ℕ
  B = bit_quanta (setup_at plan sender).segments

  there : sender < s.count
  there = let e = of.count in let inside = one.inside in omega arith

  narrow : B ≤ late.width
  narrow = let w = late.widths sender one.inside in omega arith

  -- the first n frames are sent by then
  due_by : (n : ℕ) → n ≤ length queue → T sender (due n) ≤ late.ready + 8 * u + n * ((late.bits + 15) * u)
  due_by zero h =
      let base = lasting.begun_by plan s of late causal sender there in
      let w = narrow in
      let later = lasting.bits_later plan s of late causal sender 0 (due 0) 8 late.ready there (omega arith) base in
      omega arith
  due_by (suc n) h =
      let before = due_by n (omega arith) in
      let ready = lasting.ready_by plan s of late causal sender n there (omega arith) in
      let wide : B * (late.bits + 15) ≤ late.width * (late.bits + 15) = mul-le-mul_right (late.bits + 15) narrow in
      elim (cases_lt (due n) (first_ready (drop n queue))) [
        | inl waits ↦
            (let later = lasting.bits_later plan s of late causal sender (first_ready (drop n queue)) (due (suc n)) (late.bits + 15) (late.ready + 8 * u + n * ((late.bits + 15) * u)) there (omega arith) (omega arith) in
            omega arith)
        | inr goes ↦
            (let later = lasting.bits_later plan s of late causal sender (due n) (due (suc n)) (late.bits + 15) (late.ready + 8 * u + n * ((late.bits + 15) * u)) there (omega arith) before in
            omega arith)
      ]

  some_frame : 0 < length queue
  some_frame = let e = ap length one.queue in omega arith

  due_inside : T sender (due (length queue)) < plan.end
  due_inside =
      let by = due_by (length queue) (let r : length queue ≤ length queue = omega arith in r) in
      let some = some_frame in
      let all = one_of_all plan sender (length plan.nodes) one.inside in
      let most : length queue * (late.way + (late.bits + 24) * u) ≤ frames_below plan (length plan.nodes) * (late.way + (late.bits + 24) * u) = mul-le-mul_right (late.way + (late.bits + 24) * u) all in
      let few : 1 * (9 * u) ≤ length queue * (9 * u) = mul-le-mul_right (9 * u) (let r : 1 ≤ length queue = omega arith in r) in
      let end = late.late in
      omega arith

  abbrev k : ℕ
  k = ran (line_of plan) sender plan.end

  run : AreInside (line_of plan) sender k
  run = laws.ran_inside (line_of plan) sender plan.end causal one.inside

  past_end : plan.end ≤ T sender k
  past_end =
      let tick = lasting.tick_is plan s of late causal sender k there in
      elim (laws.ran_all (line_of plan) sender plan.end causal one.inside) [
        | inl e ↦ omega arith
        | inr e ↦ omega arith
      ]

  in_time : due (length queue) ≤ k
  in_time = elim (cases_lt k (due (length queue))) [
    | inl early ↦
        (let up = lasting.up plan s of late causal sender k (due (length queue)) there (omega arith) in
        let end = due_inside in
        let past = past_end in
        absurd (omega arith))
    | inr late_enough ↦ late_enough
  ]

  -- what a node has left at the end
  at_end : (i : ℕ) → i < s.count → (node_outcome_of plan i).unsent ≡ length (unsent_of (setup_at plan i) (staying_history (setup_at plan i) (seen (line_of plan) i (ran (line_of plan) i plan.end))))
  at_end i ni =
      let inside : i < length plan.nodes = let e = of.count in omega arith in
      ap (λ levels. length (unsent_of (setup_at plan i) (history_of (setup_at plan i) levels))) (laws.history_seen (line_of plan) i plan.end causal inside)
      ∙ ap (λ h. length (unsent_of (setup_at plan i) h)) (stays_on (setup_at plan i) (seen (line_of plan) i (ran (line_of plan) i plan.end)) (of.stays i ni))

  -- what the sender has sent
  own_left : (node_outcome_of plan sender).unsent ≡ 0
  own_left =
      let sent = through.sent (length queue) k (let r : length queue ≤ length queue = omega arith in r) run in_time in
      let role = through.roles sender k one.inside run in
      let own = ap (λ b. cond b (length (staying_history (setup_at plan sender) (seen (line_of plan) sender k)).frames) 0) (eq-eqb sender sender refl) in
      let long = length-map (staying_history (setup_at plan sender) (seen (line_of plan) sender k)).frames (λ p. p.frame) in
      let same = at_end sender there in
      let left = through.unsent sender k one.inside run in
      omega arith

  -- and what any other node has left, of no frames
  other_left : (i : ℕ) → i < length plan.nodes → i ≢ sender → (node_outcome_of plan i).unsent ≡ 0
  other_left i inside other =
      let empty = ap length (alone i other) in
      let left = through.unsent i (ran (line_of plan) i plan.end) inside (laws.ran_inside (line_of plan) i plan.end causal inside) in
      let same = at_end i (let e = of.count in omega arith) in
      omega arith

  none_left : (i : ℕ) → i < length plan.nodes → (node_outcome_of plan i).unsent ≡ 0
  none_left i inside = elim (cases_eq i sender) [
    | inl own ↦ subst (λ j. (node_outcome_of plan j).unsent ≡ 0) (sym own) own_left
    | inr other ↦ other_left i inside other
  ]

  pub all_empty : All (λ node. node.unsent ≡ 0) (outcome_of plan).nodes
  all_empty = none_unsent plan none_left
