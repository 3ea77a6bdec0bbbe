-- What a plan shows on whose bus all frames of any senders get through.
use Rattle.std.proofs.Common.{◌≡◌, ◌∙◌, refl, sym, ap, subst, ℕ, zero, suc, ◌+◌, ◌<◌, List, [], ◌∷◌, ◌++◌, length, map, arith}
use Rattle.std.specs.Prelude.{count_by, filter}
use Rattle.std.proofs.lemmas.List.{length-map, map-append}
use Rattle.std.proofs.lemmas.List.Sums.{length-filter}
use Rattle.wl_frame.specs.Grammar.{Content}
use Rattle.wl_node.specs.History.{history_of, is_sent, unsent_of}
use Rattle.wl_plan.specs.declared.plan.Plan.{Plan}
use Rattle.wl_plan.specs.PlanLine.{line_of, setup_at}
use Rattle.wl_plan.specs.Simulation.{AreInside, seen}
use Rattle.wl_buses.specs.OneFrame.Stations.{Stations}
use Rattle.wl_buses.specs.NextFrames.Frames.{Frame}
use Rattle.wl_buses.specs.BothProofs.Queues.{ComeFrom, queued_contents}
use Rattle.wl_buses.specs.SentFrames.Sending.{unsent_with}
use Rattle.wl_buses.specs.SentFrames.Winners.{passed_with}
use Rattle.wl_buses.specs.CleanPlans.Clean.{AllGetThrough, plan_history, sent_contents}
use Rattle.wl_buses.specs.CleanPlans.PlanFrames.{plan_decision_of}
use Rattle.wl_buses.proofs.Callers.{IsHandedBy, come_from, come_length}
use Rattle.wl_proved.specs.CleanRuns.{as_passing, frames_from, passing_of}
use Rattle.wl_proved.proofs.Ends.{IsCleanAt}
use Rattle.wl_proved.proofs.Frames.{first_frames, from_sent, later_frames}

-- what has passed a node, without the quanta
passing : (s : Stations) (frames : ℕ → Frame) (winner : ℕ → ℕ) (content : ℕ → Content) (i n : ℕ)
    → map as_passing (passed_with s frames winner content i n) ≡ map (passing_of i) (first_frames winner content n)
passing s frames winner content i zero = refl
passing s frames winner content i (suc n) =
    map-append as_passing (passed_with s frames winner content i n) _ ∙ ap (λ l. l ++ passing_of i (winner n, content n) ∷ []) (passing s frames winner content i n)
    ∙ sym (map-append (passing_of i) (first_frames winner content n) ((winner n, content n) ∷ []))

module _ (plan : Plan) (s : Stations) (all : AllGetThrough plan s) where
  abbrev pub bus_frames : List (ℕ × Content)
  bus_frames = first_frames all.bus.by.winner all.bus.by.content all.bus.count

  -- a node was handed the frames with which it wins
  pub own_handed : (i n : ℕ) → n < all.bus.count → i ≡ all.bus.by.winner n
      → IsHandedBy (setup_at plan i) (unsent_with s (setup_at plan) all.bus.frames all.bus.by.winner all.bus.by.content i n) (all.bus.by.content n)
  own_handed i n less e =
      subst (λ w. IsHandedBy (setup_at plan w) (unsent_with s (setup_at plan) all.bus.frames all.bus.by.winner all.bus.by.content w n) (all.bus.by.content n)) (sym e)
      (plan_decision_of plan s all.bus n less, all.handed n less)

  pub in_order : (i : ℕ) → (later : List Content) × ComeFrom (setup_at plan i) (frames_from i bus_frames) later
  in_order i = (
    queued_contents (unsent_with s (setup_at plan) all.bus.frames all.bus.by.winner all.bus.by.content i all.bus.count),
    subst (λ l. ComeFrom (setup_at plan i) l (queued_contents (unsent_with s (setup_at plan) all.bus.frames all.bus.by.winner all.bus.by.content i all.bus.count)))
        (sym (from_sent all.bus.by.winner all.bus.by.content i s all.bus.frames all.bus.count))
        (come_from s all.bus.frames all.bus.by.winner all.bus.by.content i (setup_at plan i) all.bus.count (own_handed i) all.bus.count (omega arith)),
  )

  -- what it has sent and what it has left are as many as it had
  pub unsent_at : (i k : ℕ) → i < s.count → AreInside (line_of plan) i k
      → count_by is_sent (plan_history plan i k).frames + length (unsent_of (setup_at plan i) (plan_history plan i k)) ≡ length (setup_at plan i).queue
  unsent_at i k node inside =
      let whole = come_length (setup_at plan i) (sent_contents (plan_history plan i k).frames) (queued_contents (unsent_of (setup_at plan i) (plan_history plan i k))) (all.sent i k node inside) in
      let left = length-map (unsent_of (setup_at plan i) (plan_history plan i k)) (λ q. q.frame) in
      let sent = length-map (filter is_sent (plan_history plan i k).frames) (λ p. p.frame) in
      let counted = length-filter is_sent (plan_history plan i k).frames in
      omega arith

  pub clean_at : (i k : ℕ) → i < s.count → AreInside (line_of plan) i k → IsCleanAt plan bus_frames i (history_of (setup_at plan i) (seen (line_of plan) i k))
  clean_at i k node inside =
      let x = all.passed i k node inside in
      let more = later_frames all.bus.by.winner all.bus.by.content all.bus.count x.0 x.1 in
      record {
        errors = all.fine i k node inside;
        counters = all.counters i k node inside;
        passed = (
          map (passing_of i) more.0,
          ap (λ l. map as_passing l ++ map (passing_of i) more.0) x.2
              ∙ ap (λ l. l ++ map (passing_of i) more.0) (passing s all.bus.frames all.bus.by.winner all.bus.by.content i x.0)
              ∙ sym (map-append (passing_of i) (first_frames all.bus.by.winner all.bus.by.content x.0) more.0) ∙ ap (map (passing_of i)) more.1,
        );
        unsent = unsent_at i k node inside;
      }
