-- The node, its frames, its last sample and when it found the bus busy, with one sample more.
use Rattle.std.proofs.Common.{◌≡◌, ◌∙◌, ◌++◌, ◌∷◌, [], ap, sym, subst, ℕ, List}
use Rattle.std.proofs.lemmas.List.Sums.{fold-append}
use Rattle.wl_delivery.specs.declared.joining.Joining.{Joining}
use Rattle.wl_delivery.specs.Joining.{joining_with, no_joining}
use Rattle.wl_level.specs.declared.Level.{Level}
use Rattle.wl_machine.specs.Doing.{doing_of}
use Rattle.wl_machine.specs.Judged.{stretch_of}
use Rattle.wl_node.specs.declared.setup.NodeSetup.{NodeSetup}
use Rattle.wl_trace.specs.Replay.{IsWatchedNode, SampledPast}
use Rattle.wl_traffic.specs.declared.entries.Entry.{Entry}
use Rattle.wl_traffic.specs.Entries.{queue_with_sample}
use Rattle.wl_traffic.specs.States.{doing_after}
use Rattle.wl_traffic.specs.Watching.{queue_by_samples}
use Rattle.wl_traffic.proofs.Watching.{final_more, past_is, queue_more}
use Rattle.wl_traffic.proofs.watch.Watch.take.Goals as goal

pub returns : goal.returns
returns c samples seen =
    let setup : NodeSetup = c.args.setup.now in
    let sample : ℕ × Level = c.args.sample in
    let front : SampledPast × List Entry = queue_by_samples setup samples in
    let more : queue_by_samples setup (samples ++ sample ∷ []) ≡ queue_with_sample setup front sample = queue_more setup samples sample in
    let kept =
    subst (λ (r : SampledPast × List Entry). IsWatchedNode setup c.note_sample.new.kept r.0) (sym more) (c.in_ok-note_sample.ensures.past front.0 seen.kept) in
    let doing : c.doing-doing.result ≡ doing_after setup (samples ++ sample ∷ []) =
    c.doing-doing.ensures setup (queue_by_samples setup (samples ++ sample ∷ [])).0 kept
    ∙ ap (λ (p : SampledPast). doing_of (stretch_of p.inputs)) (past_is setup (samples ++ sample ∷ [])) in
    record {
      kept = kept;
      entries =
          c.in_ok-note_sample.ensures.entries front.0 seen.kept
          ∙ ap (λ (es : List Entry). (queue_with_sample setup (front.0, es) sample).1) seen.entries
          ∙ ap (λ (r : SampledPast × List Entry). r.1) (sym more);
      joining = c.with-self-2.ensures ∙ ap (λ (j : Joining). joining_with j sample) seen.joining ∙ sym (fold-append joining_with no_joining samples (sample ∷ []));
      last = sym (final_more samples sample);
      found = c.in_ok-take.ensures setup samples sample seen.found c.at-at.ensures.tick doing;
      trouble = c.with-self.ensures setup samples sample seen.trouble c.at-at.ensures.tick doing;
    }
