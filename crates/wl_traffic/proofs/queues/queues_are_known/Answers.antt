use Rattle.std.proofs.Common.{◌∙◌, ◌<◌, sym, subst, arith, zero-add, ℕ, None, length}
use Rattle.std.specs.List.{All, range_with_len}
use Rattle.std.proofs.lemmas.List.Elements.{All-map}
use Rattle.std.proofs.lemmas.List.FromFn.{get_or-range_with_len, length-range_with_len}
use Rattle.wl_delivery.specs.Joining.{no_joining}
use Rattle.wl_plan.specs.declared.plan.Plan.{Plan}
use Rattle.wl_plan.specs.PlanLine.{setup_at}
use Rattle.wl_serial.specs.Outcome.{node_outcome_of}
use Rattle.wl_traffic.specs.Entries.{node_queue, node_queues}
use Rattle.wl_traffic.specs.Known.{FramesAreKnown, IsKnownQuantum, IsKnownQueue, IsSoonQuantum, QuantaAreKnown}
use Rattle.wl_traffic.proofs.Growing.{joined_known, last_known}
use Rattle.wl_traffic.proofs.Marking.{all_hold}
use Rattle.wl_traffic.proofs.queues.queues_are_known.Goals as goal

module _ (plan : Plan) (known : QuantaAreKnown plan) (frames : FramesAreKnown plan) where
  queue_known : (i : ℕ) → i < length plan.nodes → IsKnownQueue (node_queue plan i)
  queue_known i b =
      record {
        joined = joined_known (node_outcome_of plan i).samples no_joining tt (known i b).samples;
        last = last_known (node_outcome_of plan i).samples None tt (known i b).samples;
        frames = frames i b;
        entries = all_hold IsKnownQuantum tt (setup_at plan i) (node_outcome_of plan i).samples (known i b).samples;
        soon = all_hold (IsSoonQuantum (setup_at plan i).clock) tt (setup_at plan i) (node_outcome_of plan i).samples (known i b).soon;
      }

  all_known : All IsKnownQueue (node_queues plan)
  all_known =
      All-map IsKnownQueue (node_queue plan) (range_with_len 0 (length plan.nodes))
      (λ k d b.
      let within : k < length plan.nodes = omega (arith, b, length-range_with_len 0 (length plan.nodes)) in
      subst (λ (i : ℕ). IsKnownQueue (node_queue plan i)) (sym (get_or-range_with_len 0 (length plan.nodes) k d within ∙ zero-add k)) (queue_known k within))

pub returns : goal.returns
returns c = record {
  each = queue_known c.args.plan.now c.quanta_are_known.ensures c.frames_are_known.ensures;
  all = all_known c.args.plan.now c.quanta_are_known.ensures c.frames_are_known.ensures;
}
