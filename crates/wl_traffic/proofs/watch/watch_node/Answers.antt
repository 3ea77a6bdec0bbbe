-- The node's frames, its last sample, and what it received.
use Rattle.std.proofs.Common.{◌≡◌, ◌∙◌, ap, ℕ}
use Rattle.wl_delivery.specs.declared.joining.Joining.{Joining}
use Rattle.wl_delivery.specs.Joining.{joined_quantum}
use Rattle.wl_node.specs.declared.setup.NodeSetup.{NodeSetup}
use Rattle.wl_plan.specs.declared.plan.Plan.{Plan}
use Rattle.wl_plan.specs.PlanLine.{setup_at}
use Rattle.wl_serial.specs.declared.outcome.NodeTotals.{NodeTotals}
use Rattle.wl_serial.specs.Outcome.{node_outcome_of}
use Rattle.wl_traffic.specs.Entries.{entries_by, entries_of, received_quanta}
use Rattle.wl_traffic.specs.Healing.{trouble_until}
use Rattle.wl_traffic.specs.States.{node_spans, spans_of, there_until}
use Rattle.wl_traffic.specs.Waits.{final_sample}
use Rattle.wl_traffic.proofs.watch.watch_node.Goals as goal

pub returns-clause-queue : goal.returns-clause-queue
unfolding entries_by
returns-clause-queue c =
    let plan = c.args.plan.now in
    let at : ℕ = c.args.i in
    let clock : c.node_at.result.0.now.clock ≡ (setup_at plan at).clock = ap (λ (s : NodeSetup). s.clock) c.node_at.ensures.setup in
    let last : c.in_ok-seen.seen.last ≡ final_sample (node_outcome_of plan at).samples = c.in_ok-seen.ensures.last in
    let joined : c.in_ok-seen.seen.joining.at ≡ joined_quantum (node_outcome_of plan at).samples =
    ap (λ (j : Joining). j.at) c.in_ok-seen.ensures.joining in
    let frames = c.in_ok-frames.ensures ∙ ap (λ (n : NodeTotals). n.frames) c.node_at.ensures.totals in
    let received : c.from_vec.result ≡ received_quanta (node_outcome_of plan at).frames =
    c.from_vec.ensures ∙ c.in_ok-received.ensures ∙ ap received_quanta (c.as_slice.ensures ∙ ap (λ (n : NodeTotals). n.frames) c.node_at.ensures.totals) in
    let entries : c.from_vec-2.result ≡ entries_of plan at = c.from_vec-2.ensures ∙ c.in_ok-seen.ensures.entries in
    let trouble : c.by.result ≡ trouble_until (node_spans plan at) =
    c.by.ensures ∙ c.in_ok-seen.ensures.trouble c.there_until-until.result
    ∙ ap (λ (end : ℕ). trouble_until (spans_of (setup_at plan at) end (node_outcome_of plan at).samples))
    (c.there_until-until.ensures
    ∙ ap (λ (p : Plan). there_until c.node_at.result.0.now.until c.node_at.result.0.now.clock p.end) c.deref.ensures.0
    ∙ ap (λ (s : NodeSetup). there_until s.until s.clock plan.end) c.node_at.ensures.setup) in
    λ i. record { node = at; clock = clock i; joined = joined i; last = last i; frames = frames i; received = received i; trouble = trouble i; entries = entries i }
