use Rattle.std.proofs.Common.{◌∙◌, ap, sym}
use Rattle.wl_sync.specs.Steps.{running_after, running_answer, running_beat, running_edge}
use Rattle.wl_sync.proofs.Cuts.{clock_next, beat_next, sync_next}
use Rattle.wl_sync.proofs.Skips.{GoesOn, goes_after, goes_answer, goes_beat}
use Rattle.wl_sync.proofs.Starts.{start_after, start_answer, start_beat}
use Rattle.wl_sync.proofs.BitClock.see.Goals as goal

goes : (c : goal.After-go_on-beat) → GoesOn c.args.self.now c.args.seen
goes c = record {
  no_edge = c.goes_on.ensures.edge c.if-goes_on.true;
  begun = c.goes_on.ensures.begun c.if-goes_on.true;
  inside = c.goes_on.ensures.inside c.if-goes_on.true;
}

pub returns-then-goes_on-clause-clock : goal.returns-then-goes_on-clause-clock
returns-then-goes_on-clause-clock c l past e =
    c.go_on-beat.ensures.clock ∙ sym (goes_after c.args.self.now c.args.seen (goes c)) ∙ ap (λ r. running_after r c.args.seen) e ∙ sym (clock_next l past c.args.seen)

pub returns-then-goes_on-clause-beat : goal.returns-then-goes_on-clause-beat
returns-then-goes_on-clause-beat c l past e =
    c.go_on-beat.ensures.beat ∙ sym (goes_beat c.args.self.now c.args.seen (goes c)) ∙ ap (λ r. running_beat (running_edge r) c.args.seen) e ∙ sym (beat_next l past c.args.seen)

pub returns-then-goes_on-clause-sync : goal.returns-then-goes_on-clause-sync
returns-then-goes_on-clause-sync c l past e =
    sym (goes_answer c.args.self.now c.args.seen (goes c)) ∙ ap (λ r. running_answer (running_edge r) c.args.seen) e ∙ sym (sync_next l past c.args.seen)

pub returns-then-meets_start-clause-clock : goal.returns-then-meets_start-clause-clock
returns-then-meets_start-clause-clock c l past e =
    c.start.ensures ∙ sym (start_after c.args.self.now c.args.seen (c.meets_start.ensures c.if-meets_start.true)) ∙ ap (λ r. running_after r c.args.seen) e ∙ sym (clock_next l past c.args.seen)

pub returns-then-meets_start-clause-beat : goal.returns-then-meets_start-clause-beat
returns-then-meets_start-clause-beat c l past e =
    sym (start_beat c.args.self.now c.args.seen (c.meets_start.ensures c.if-meets_start.true)) ∙ ap (λ r. running_beat (running_edge r) c.args.seen) e ∙ sym (beat_next l past c.args.seen)

pub returns-then-meets_start-clause-sync : goal.returns-then-meets_start-clause-sync
returns-then-meets_start-clause-sync c l past e =
    sym (start_answer c.args.self.now c.args.seen (c.meets_start.ensures c.if-meets_start.true)) ∙ ap (λ r. running_answer (running_edge r) c.args.seen) e ∙ sym (sync_next l past c.args.seen)
