-- From a family to the bus of one of its plans.
use Rattle.std.proofs.Common.{◌≡◌, ◌∙◌, inl, inr, refl, sym, ap, ℕ, suc, ◌+◌, ◌*◌, ◌<◌, ◌≤◌, List, length, true, cond, not, ◌&&◌, arith}
use Rattle.std.specs.Prelude.{◌==◌, nat_lt}
use Rattle.std.proofs.lemmas.Bool.{both_ways, cases_eq, cases_lt, lt-ltb, eq-eqb, ne_eqb}
use Rattle.std.proofs.lemmas.List.{get_or_past}
use Rattle.std.proofs.Math.Nat.{le_of_mul-le-mul_right}
use Rattle.wl_level.specs.declared.Level.{Level}
use Rattle.wl_clock.specs.Timing.{tick_of}
use Rattle.wl_segments.specs.Lengths.{Lengths, sample_at, bit_quanta}
use Rattle.wl_topology.specs.Delays.{delay_of, propagation_of}
use Rattle.wl_plan.specs.declared.plan.Plan.{Plan}
use Rattle.wl_plan.specs.PlanLine.{no_setup, setup_at}
use Rattle.wl_phase.specs.Clocks.{Steady, steady_tick}
use Rattle.wl_phase.specs.InStep.{arrival}
use Rattle.wl_topology.specs.Limits.{never}
use Rattle.wl_phase.proofs.Callers.{rate_tick, tick_up}
use Rattle.wl_bound.specs.Conditions.{plain}
use Rattle.wl_bound.specs.Senders.{lone_sender}
use Rattle.wl_bound.specs.Families.{Buses, bus_of, delay_in, lengths_in, longest_in, no_member, only_listens, sends_in, shortest_in, units}
use Rattle.wl_bound.specs.Verdicts.{idle_at, is_ready_from}
use Rattle.wl_buses.specs.OneSender.OneSender.{SenderBus, IsBus, IsListener, SendsFirst, lengths_of, sender_of, listener_of}
use Rattle.wl_buses.specs.BothProofs.Plans.{IsSteadyPlan, IsOfFamily}
use Rattle.wl_buses.specs.OneSender.Tolerances.{IsWithinTolerance}
use Rattle.wl_buses.specs.OneSender.Bounds.{IsBoundOf}
use Rattle.wl_buses.specs.OneSender.Through.{AreFrames}
use Rattle.wl_buses.specs.OneSender.Clean.{HasOneSender, bus_with, tolerance_of}
use Rattle.wl_buses.specs.BothProofs.Queues.{first_decision, decides_at, wakes_at}
use Rattle.wl_buses.proofs.BothProofs.Heads.{head_early, head_in}
use Rattle.wl_buses.proofs.FirstFrame.Deciding.{decided_after, undecided}
use Rattle.wl_frame.specs.Grammar.{Content}
use Rattle.wl_node.specs.declared.setup.NodeSetup.{NodeSetup}
use Rattle.wl_buses.proofs.BothProofs.Small.{loop_over}

module _ (f : Buses) (plan : Plan) (clocks : ℕ → Steady) (sender : ℕ) (one : HasOneSender plan sender) (stuffed : Content → List Level) (steady : IsSteadyPlan plan clocks)
    (of : IsOfFamily f plan clocks) (is : IsBus (bus_with plan clocks sender one stuffed)) where
  abbrev b : SenderBus
  b = bus_with plan clocks sender one stuffed

  lengths_are : (i : ℕ) → lengths_in f (lone_sender sender) i ≡ (setup_at plan i).segments
  unfolding lengths_in
  lengths_are i = elim (cases_lt i (length plan.nodes)) [
    | inl inside ↦ of.segments i inside
    | inr past ↦
        (let e = of.members in
        ap (λ m. m.segments) (get_or_past f.members i no_member (omega arith)) ∙ sym (ap (λ s. s.segments) (get_or_past plan.nodes i no_setup past)))
  ]

  shortest_are : (i : ℕ) → shortest_in f (lone_sender sender) i ≡ shortest_in f plain i
  unfolding shortest_in
  shortest_are i = refl

  longest_are : (i : ℕ) → longest_in f (lone_sender sender) i ≡ longest_in f plain i
  unfolding longest_in
  longest_are i = refl

  order : (i : ℕ) → i < length plan.nodes → shortest_in f plain i ≤ longest_in f plain i
  order i inside =
      let low = of.fastest i inside in
      let high = of.slowest i inside in
      let some = (is.steady i inside).divides in
      le_of_mul-le-mul_right (omega arith) some

  delay_is : (i j : ℕ) → i < length plan.nodes → delay_of plan.topology i j ≡ propagation_of plan.topology i j
  delay_is i j inside = ap (λ v. cond (v && not (i == j)) never (propagation_of plan.topology i j)) (one.answers i inside)

  delays_are : (i j : ℕ) → i < length plan.nodes → delay_in f (lone_sender sender) i j ≡ delay_of plan.topology i j * units plain
  unfolding delay_in
  delays_are i j inside =
      let same = delay_is i j inside in
      let cable : propagation_of plan.topology i j ≡ propagation_of f.cable i j = ap (λ c. propagation_of c i j) of.cable in
      omega arith

  sends_are : (i : ℕ) → sends_in f (lone_sender sender) i ≡ (i == sender)
  unfolding sends_in
  sends_are i = elim (cases_eq i sender) [
    | inl here ↦ eq-eqb sender i (sym here) ∙ sym (eq-eqb i sender here)
    | inr apart ↦ ne_eqb sender i (λ e. apart (sym e)) ∙ sym (ne_eqb i sender apart)
  ]

  pub is_bound : IsBoundOf (bus_of f (lone_sender sender)) (tolerance_of f) b
  is_bound = record {
    nodes = of.members;
    tick = refl;
    shortest = shortest_are;
    longest = longest_are;
    order = order;
    lengths = lengths_are;
    delays = λ i j ni nj. delays_are i j ni;
    alone = sends_are;
    answers = λ i inside. ap (λ c. only_listens c i) (sym of.cable) ∙ one.answers i inside;
    loops = λ i j k ni nj nk.
        (let h = loop_over plan.topology i j k in
        let x = delay_is i k ni in
        let y = delay_is j j nj in
        let z = delay_is i j ni in
        let w = delay_is j k nj in
        omega arith);
  }

  pub within : IsWithinTolerance (tolerance_of f) b
  within = record { some = omega arith; slowest = of.slowest; fastest = of.fastest }

  -- the sender decides by its first frame
  abbrev l : Lengths
  l = (setup_at plan sender).segments

  abbrev own : NodeSetup
  own = setup_at plan sender

  abbrev ready : ℕ
  ready = wakes_at own own.queue

  abbrev decides : ℕ
  decides = decides_at l ready

  pub sends : (lengths : ℕ → ℕ) → AreFrames b stuffed lengths → SendsFirst b
  sends lengths frames =
      let place = head_in own own.queue (first_decision own) one.frame one.decides in
      let some = (is.book sender one.inside).lengths.low in
      let ready_by : ready ≤ decides * bit_quanta l + sample_at l = decided_after l ready (omega arith) in
      record {
        content = frames.content place.0 one.frame place.1;
        stuffs = frames.stuffs place.0 one.frame place.1;
        idle = omega arith;
        ready = one.decides;
        unready = λ n many less. head_early own own.queue (n * bit_quanta l + sample_at l) (undecided l ready (omega arith) n many less);
        alone = λ j p. one.alone j p.0 p.1;
        others = λ j p. others j p ready_by;
      }
    where
      ready_is : ready ≡ one.first.ready
      ready_is = ap (wakes_at own) one.queue

      idle_by : (j : ℕ) → IsListener b j → tick_of (setup_at plan j).clock (11 * bit_quanta (setup_at plan j).segments) ≤ tick_of own.clock ready
      idle_by j p =
          let h : not (nat_lt (tick_of own.clock one.first.ready) (idle_at (setup_at plan j))) ≡ true =
          ap (λ q. is_ready_from own q (idle_at (setup_at plan j))) (sym one.queue) ∙ one.idle j p.0 p.1 in
          let same = ap (tick_of own.clock) ready_is in
          elim (cases_lt (tick_of own.clock one.first.ready) (idle_at (setup_at plan j))) [
            | inl early ↦ (let e = lt-ltb (tick_of own.clock one.first.ready) (idle_at (setup_at plan j)) early in absurd (both_ways _ (ap not e) h))
            | inr late ↦ omega arith
          ]

      others : (j : ℕ) → (p : IsListener b j) → ready ≤ decides * bit_quanta l + sample_at l
          → steady_tick (clocks j) (10 * bit_quanta (lengths_of b j) + sample_at (lengths_of b j)) < arrival (sender_of b) (listener_of b j) 0
      others j p ready_by =
          let by = idle_by j p in
          let first_is = rate_tick (steady.rates j p.0) (11 * bit_quanta (setup_at plan j).segments) in
          let own_is = rate_tick (steady.rates sender one.inside) ready in
          let low = up_to j p.0 (10 * bit_quanta (lengths_of b j) + sample_at (lengths_of b j)) (11 * bit_quanta (setup_at plan j).segments) (omega arith) in
          let bits : suc decides * bit_quanta l ≡ decides * bit_quanta l + bit_quanta l = omega arith in
          let high = up_to sender one.inside ready (suc decides * bit_quanta l + 0 * bit_quanta l) (omega arith) in
          let some = is.causal.delays sender j one.inside p.0 in
          omega arith
        where
          up_to : (i : ℕ) → i < length plan.nodes → (k n : ℕ) → k ≤ n → steady_tick (clocks i) k ≤ steady_tick (clocks i) n
          up_to i inside k n h = tick_up (clocks i) (is.steady i inside).divides k n h
