-- On a plan that ends late enough no frame is left.
use Rattle.std.proofs.Common.{◌≡◌, ◌∙◌, ap, subst, inl, inr, ℕ, suc, ◌+◌, ◌-◌, ◌*◌, ◌<◌, ◌≤◌, ◌==◌, All, length, Bool, true, false, Some, cond, arith}
use Rattle.std.specs.Prelude.{count_by, slice_get}
use Rattle.std.proofs.lemmas.Bool.{cases_lt}
use Rattle.std.proofs.Math.Nat.{mul-le-mul_right}
use Rattle.wl_frame.specs.Grammar.{bits_of}
use Rattle.wl_frame.specs.Stuffing.{Stuffs}
use Rattle.wl_node.specs.History.{history_of, is_sent, unsent_of}
use Rattle.wl_plan.specs.declared.plan.Plan.{Plan}
use Rattle.wl_plan.specs.PlanLine.{line_of, setup_at}
use Rattle.wl_plan.specs.Simulation.{AreInside, ran}
use Rattle.wl_plan.specs.SimulationLaws.{SimulationLaws}
use Rattle.wl_plan.specs.Sound.{IsCausal}
use Rattle.wl_phase.specs.Clocks.{steady_tick}
use Rattle.wl_serial.specs.Outcome.{history_at_end, node_outcome_of, outcome_of}
use Rattle.wl_buses.specs.OneFrame.Expected.{expected_bits, expected_sample}
use Rattle.wl_buses.specs.OneFrame.Machines.{bus_levels}
use Rattle.wl_buses.specs.OneFrame.Plans.{IsPlanOf}
use Rattle.wl_buses.specs.OneFrame.Stations.{Stations}
use Rattle.wl_buses.specs.FirstFrame.FirstFrames.{HasFirstFrames, queues_of}
use Rattle.wl_buses.specs.FrameEnd.Rests.{passing_bit}
use Rattle.wl_buses.specs.NextFrames.Frames.{third_sample}
use Rattle.wl_buses.specs.SentFrames.Winners.{passed_with, won_by}
use Rattle.wl_buses.specs.SentFrames.Sending.{unsent_with}
use Rattle.wl_buses.specs.CleanPlans.Clean.{AllGetThrough, plan_history}
use Rattle.wl_buses.specs.CleanPlans.PlanFrames.{EmptyAllQueues, plan_decision_of}
use Rattle.wl_buses.proofs.Callers.{count_sent, head_in, left_is, levels_length, many, unsent_in}
use Rattle.wl_proved.proofs.Any as any
use Rattle.wl_proved.specs.LateEnds.{EndsLate, frames_below}
use Rattle.wl_proved.proofs.Counting.{few_frames}
use Rattle.wl_proved.proofs.Ends.{none_unsent}
use Rattle.wl_proved.proofs.Lasting as lasting
use Rattle.wl_proved.proofs.Queues.{of_each}
use Rattle.wl_proved.proofs.Starting.{place_low}

module _ (laws : SimulationLaws) (plan : Plan) (s : Stations) (of : IsPlanOf plan s) (late : EndsLate plan) (causal : IsCausal (line_of plan)) (all : AllGetThrough plan s)
    (has : HasFirstFrames plan (queues_of plan) s)
    (grows : (n bit i : ℕ) → suc n < all.bus.count → i < s.count → third_sample s (all.bus.frames n) i < expected_sample s (all.bus.frames (suc n)).outset bit i) where
  winner_is : (n : ℕ) → n < all.bus.count → all.bus.by.winner n < s.count
  winner_is n less = subst (λ w. w < s.count) (all.bus.by.wins n less) (all.bus.are.each n less).won.inside

  -- its frame is one of its queue
  place_of : (n : ℕ) → n < all.bus.count → (place : ℕ) × (slice_get (queues_of plan (all.bus.by.winner n)) place ≡ Some (all.bus.by.content n))
  place_of n less =
      let h = all.handed n less in
      let left = head_in (setup_at plan (all.bus.by.winner n)) (unsent_with s (setup_at plan) all.bus.frames all.bus.by.winner all.bus.by.content (all.bus.by.winner n) n)
      (plan_decision_of plan s all.bus n less) (all.bus.by.content n) h in
      unsent_in (setup_at plan (all.bus.by.winner n)) (passed_with s all.bus.frames all.bus.by.winner all.bus.by.content (all.bus.by.winner n) n) left.0 (all.bus.by.content n) left.1

  -- no frame has more bits
  few_bits : (n : ℕ) → n < all.bus.count → (all.bus.frames n).bits ≤ late.bits
  few_bits n less =
      let won = (all.bus.are.each n less).won in
      let place = place_of n less in
      let count = of.count in
      let inside = winner_is n less in
      let stuffs : Stuffs (bus_levels s (expected_bits s (all.bus.frames n).outset) (all.bus.frames n).bits) (bits_of (all.bus.by.content n)) =
      subst (λ c. Stuffs (bus_levels s (expected_bits s (all.bus.frames n).outset) (all.bus.frames n).bits) (bits_of c)) (all.bus.by.wins_with n less) won.stuffs in
      let most =
      of_each (λ c. Stuffs (bus_levels s (expected_bits s (all.bus.frames n).outset) (all.bus.frames n).bits) (bits_of c)
      → length (bus_levels s (expected_bits s (all.bus.frames n).outset) (all.bus.frames n).bits) ≤ late.bits) (setup_at plan (all.bus.by.winner n)).queue
      (late.frames (all.bus.by.winner n) (bus_levels s (expected_bits s (all.bus.frames n).outset) (all.bus.frames n).bits) (omega arith)) place.0 (all.bus.by.content n) place.1 stuffs in
      let long = levels_length s (expected_bits s (all.bus.frames n).outset) (all.bus.frames n).bits in
      omega arith

  won_few : (i : ℕ) → won_by all.bus.by.winner i all.bus.count ≤ length (setup_at plan i).queue
  won_few i =
      let left = left_is s all.bus.frames all.bus.by.winner all.bus.by.content i (setup_at plan i) all.bus.count (any.own_handed plan s all i) all.bus.count (omega arith) in
      omega arith

  gone : (n i : ℕ) → n < all.bus.count → i < s.count → steady_tick (s.clocks i) (suc (third_sample s (all.bus.frames n) i)) < plan.end
  gone n i less ni =
      let by = lasting.gone_by plan s of late causal all has grows few_bits n less i ni in
      let count = of.count in
      let total = few_frames all.bus.by.winner plan all.bus.count won_few (λ m h. (let inside = winner_is m h in omega arith)) in
      let most : suc n * lasting.one_frame plan s of late causal ≤ frames_below plan (length plan.nodes) * lasting.one_frame plan s of late causal =
      mul-le-mul_right (lasting.one_frame plan s of late causal) (let r : suc n ≤ frames_below plan (length plan.nodes) = omega arith in r) in
      let end = late.late in
      omega arith

  some_node : 0 < s.count
  some_node = let one = has.has.some in let inside = one.1 in omega arith

  -- all queues are empty
  emptied : EmptyAllQueues plan s all.bus
  emptied = elim all.ends [
    | inl before ↦
        (let some = all.bus.some in
        let last : suc (all.bus.count - 1) ≡ all.bus.count = omega arith in
        let over = before.sampled 0 (all.bus.count - 1) some_node last in
        let end = gone (all.bus.count - 1) 0 (omega arith) some_node in
        absurd (omega arith))
    | inr empty ↦ empty
  ]

  module _ (i : ℕ) (ni : i < length plan.nodes) where
    inside : i < s.count
    inside = let e = of.count in omega arith

    abbrev k : ℕ
    k = ran (line_of plan) i plan.end

    run : AreInside (line_of plan) i k
    run = laws.ran_inside (line_of plan) i plan.end causal ni

    past_end : plan.end ≤ (line_of plan).instant i k
    past_end = elim (laws.ran_all (line_of plan) i plan.end causal ni) [
      | inl e ↦ e
      | inr e ↦ e
    ]

    -- each frame has passed the node
    passed_by : (n : ℕ) → n < all.bus.count → n < length (plan_history plan i k).frames
    passed_by n less =
        let end = gone n i less inside in
        let tick = lasting.tick_is plan s of late causal i k inside in
        let past = past_end in
        let low = place_low s i (lasting.short plan s of late causal i inside) (all.bus.frames n).outset (passing_bit (all.bus.frames n).bits i (all.bus.by.winner n)) ((all.bus.frames n).bits + 12)
        (by_role (i == all.bus.by.winner n)) in
        all.in_time i k n inside run less (elim (cases_lt (third_sample s (all.bus.frames n) i) k) [
          | inl before ↦ omega arith
          | inr after ↦ (let early = lasting.up plan s of late causal i k (suc (third_sample s (all.bus.frames n) i)) inside (omega arith) in absurd (omega arith))
        ])
      where
        by_role : (b : Bool) → (all.bus.frames n).bits + cond b 9 8 ≤ (all.bus.frames n).bits + 12
        by_role true = omega arith
        by_role false = omega arith

    pub none_left : (node_outcome_of plan i).unsent ≡ 0
    none_left =
        let x = all.passed i k inside run in
        let some = all.bus.some in
        let last = passed_by (all.bus.count - 1) (omega arith) in
        let long = ap length x.2 ∙ many s all.bus.frames all.bus.by.winner all.bus.by.content i x.0 in
        let few = x.1 in
        let whole : x.0 ≡ all.bus.count = omega arith in
        let same : history_at_end plan i ≡ plan_history plan i k = ap (history_of (setup_at plan i)) (laws.history_seen (line_of plan) i plan.end causal ni) in
        let sent = ap (count_by is_sent) x.2 ∙ count_sent s all.bus.frames all.bus.by.winner all.bus.by.content i x.0 ∙ ap (won_by all.bus.by.winner i) whole ∙ emptied i inside in
        let left = any.unsent_at plan s all i k inside run in
        ap (λ h. length (unsent_of (setup_at plan i) h)) same ∙ omega arith

  pub all_empty : All (λ node. node.unsent ≡ 0) (outcome_of plan).nodes
  all_empty = none_unsent plan none_left
