use Rattle.std.proofs.Common.{◌∙◌, ap, sym, subst, List, ℕ, length, take, arith, refl}
use Rattle.std.proofs.lemmas.List.{take_all}
use Rattle.wl_level.specs.declared.Level.{Level}
use Rattle.wl_level.specs.declared.Level.TheVariants.{Dominant}
use Rattle.wl_node.specs.declared.setup.NodeSetup.{NodeSetup}
use Rattle.wl_node.specs.History.{levels_there}
use Rattle.wl_node.proofs.Callers.{same_past}
use Rattle.wl_trace.specs.declared.event.Noted.{Noted}
use Rattle.wl_trace.specs.Replay.{IsReplay, SampledPast}
use Rattle.wl_trace.proofs.Replayed.{replay_of, replay_first, events_replayed, past_more, events_more, count_more}
use Rattle.wl_trace.proofs.replay.node_events.Goals as goal

pub loop-bit-init : goal.loop-bit-init
loop-bit-init c =
    let first = sym (replay_first c.args.setup.now) in
    record {
      past = subst (λ (r : SampledPast × List Noted). IsReplay c.args.setup.now c.in_ok-replay.replay r.0) first c.in_ok-replay.ensures;
      events = c.new-2.ensures.items ∙ ap (λ (r : SampledPast × List Noted). r.1) first;
      counted = ap (λ (r : SampledPast × List Noted). length r.0.samples) (sym first);
    }

pub loop-bit-preserved : goal.loop-bit-preserved
loop-bit-preserved c =
    let setup : NodeSetup = c.args.setup.now in
    let samples : List (ℕ × Level) = c.args.samples.now in
    let bit : ℕ = c.loop-bit.bit in
    let p : SampledPast = (replay_of setup (take bit samples)).0 in
    let d : ℕ × Level = (0, Dominant) in
    record {
      past = past_more setup samples bit d c.loop-bit-test.true c.sample.new.self (c.in_ok-sample.ensures.past p c.loop-bit.invariant.past);
      events =
          events_more setup samples bit d c.loop-bit-test.true _ c.sample.new.notes refl refl c.loop-bit.invariant.events c.loop-bit.invariant.counted
          (c.in_ok-sample.ensures.notes p c.loop-bit.invariant.past);
      counted = count_more setup samples bit d c.loop-bit-test.true c.loop-bit.invariant.counted;
    }

pub returns : goal.returns
returns c levels e =
    let setup : NodeSetup = c.args.setup.now in
    let samples : List (ℕ × Level) = c.args.samples.now in
    c.loop-bit.invariant.events
    ∙ ap (λ (xs : List (ℕ × Level)). (replay_of setup xs).1) (take_all c.loop-bit.bit samples (omega (arith, c.loop-bit-test.false)) ∙ (e ∙ (same_past setup levels).samples))
    ∙ events_replayed setup (levels_there setup.until levels)
