-- The running stretch goes on as the machine judged.
use Rattle.std.proofs.Common.{◌≡◌, ◌∙◌, ◌++◌, List, [], ◌∷◌, ℕ, Option, refl, sym, ap, subst}
use Rattle.std.specs.Option.{option_copied}
use Rattle.wl_confine.specs.declared.Mode.{Mode}
use Rattle.wl_confine.specs.Counts.{Counts, counts_of, mode_of}
use Rattle.wl_machine.specs.Stretch.{Input, Judgement, Sampled, Stretch}
use Rattle.wl_machine.specs.Stretch.Input.{Sample}
use Rattle.wl_machine.specs.Judged.{judged, stretch_of, head_of}
use Rattle.wl_machine.specs.Laws.{HeadLaws}
use Rattle.wl_machine.specs.States.{done_of, sample_of}
use Rattle.wl_node.proofs.Callers.{same_judged, same_stretch}
use Rattle.wl_machine.proofs.Callers.{stretch_next}
use Rattle.wl_frame.specs.Grammar.{Content}
use Rattle.wl_node.specs.declared.setup.NodeSetup.{NodeSetup}
use Rattle.wl_node.specs.History.{switched_off}
use Rattle.wl_trace.specs.Events.{judged_events}
use Rattle.wl_trace.specs.Notes.{Adds}
use Rattle.wl_trace.specs.Replay.{IsGiven, IsSampledNode, head_then, past_after, sampled_then}
use Rattle.wl_trace.specs.Running.{ComesNext, KeepsStretch}
use Rattle.wl_trace.proofs.replay.Replay.judge.Goals as goal

pub returns-clause-past : goal.returns-clause-past
returns-clause-past c p r =
    let setup : NodeSetup = c.args.setup.now in
    let quantum : ℕ = c.args.notes.now.quantum in
    let s : Stretch = stretch_of p.inputs in
    let y : Sampled = sampled_then setup p quantum c.args.level in
    let head : Option Content = option_copied c.as_ref-given.result in
    let given = subst (IsGiven setup c.next_head-head.new.self p quantum c.args.level) (sym c.as_ref-given.ensures.value) (c.next_head-head.ensures.given p r.sampled_node) in
    let node : IsSampledNode setup c.next_head-head.new.self p = c.next_head-head.ensures.node p r.sampled_node in
    let x : Sampled = sample_of c.args.level head (mode_of (counts_of p.happened)) in
    let same : judged s x ≡ judged s y = same_judged s c.args.level head (head_then setup p quantum c.args.level) (mode_of (counts_of p.happened)) given.looked given.unlooked in
    let happened = c.sample-turn.ensures.happened p quantum given node ∙ ap (λ (j : Judgement). j.happened) (sym same) in
    let mode : x.mode ≡ c.mode-mode.result = ap mode_of (sym r.sampled_node.counters) ∙ sym c.mode-mode.ensures in
    let next : ComesNext c.args.level c.next-next.result (judged s x).next = c.next-next.ensures s x r.stretch refl refl mode happened in
    let stretch = subst (KeepsStretch c.step.new.self) (sym (stretch_next p.inputs (Sample x))) (c.in_ok-step.ensures s x r.stretch refl next) in
    let after : IsSampledNode setup c.sample-turn.new.self (past_after setup p (quantum, c.args.level)) = c.sample-turn.ensures.past p quantum given node in
    let off : c.mode.result ≡ mode_of (counts_of (p.happened ++ (judged s y).happened ∷ [])) = c.mode.ensures ∙ ap mode_of after.counters in
    let off_then : List Input = switched_off (mode_of (counts_of p.happened)) (mode_of (counts_of (p.happened ++ (judged s y).happened ∷ []))) in
    record {
      sampled_node = subst (λ k. IsSampledNode setup k (past_after setup p (quantum, c.args.level))) (sym c.switch_off.ensures.sampled_node) after;
      stretch =
          subst (KeepsStretch c.switch_off.new.self.stretch) (same_stretch p.inputs x y off_then refl same)
          (subst (λ (m : Mode). KeepsStretch c.switch_off.new.self.stretch (stretch_of ((p.inputs ++ Sample x ∷ []) ++ switched_off m (mode_of (counts_of (p.happened ++ (judged s y).happened ∷ [])))))) (sym mode)
          (subst (λ (m : Mode). KeepsStretch c.switch_off.new.self.stretch (stretch_of ((p.inputs ++ Sample x ∷ []) ++ switched_off c.mode-mode.result m))) off
          (c.switch_off.ensures.stretch (p.inputs ++ Sample x ∷ []) stretch)));
    }

pub returns-clause-notes : goal.returns-clause-notes
returns-clause-notes c p r =
    let setup : NodeSetup = c.args.setup.now in
    let quantum : ℕ = c.args.notes.now.quantum in
    let s : Stretch = stretch_of p.inputs in
    let y : Sampled = sampled_then setup p quantum c.args.level in
    let head : Option Content = option_copied c.as_ref-given.result in
    let given = subst (IsGiven setup c.next_head-head.new.self p quantum c.args.level) (sym c.as_ref-given.ensures.value) (c.next_head-head.ensures.given p r.sampled_node) in
    let node : IsSampledNode setup c.next_head-head.new.self p = c.next_head-head.ensures.node p r.sampled_node in
    let x : Sampled = sample_of c.args.level head (mode_of (counts_of p.happened)) in
    let same : judged s x ≡ judged s y = same_judged s c.args.level head (head_then setup p quantum c.args.level) (mode_of (counts_of p.happened)) given.looked given.unlooked in
    let laws : HeadLaws = c.a_sent_frame_is_the_head_that_began_its_stretch.ensures in
    let happened = c.sample-turn.ensures.happened p quantum given node ∙ ap (λ (j : Judgement). j.happened) (sym same) in
    let mode : x.mode ≡ c.mode-mode.result = ap mode_of (sym r.sampled_node.counters) ∙ sym c.mode-mode.ensures in
    let next : ComesNext c.args.level c.next-next.result (judged s x).next = c.next-next.ensures s x r.stretch refl refl mode happened in
    let noted : Adds c.args.notes.now c.push_sample.new.self (judged_events s c.args.level c.args.self.now.sampled_node.counters (judged s x)) =
    c.in_ok-push_sample.ensures s (judged s x) r.stretch happened (c.sample-turn.ensures.done p quantum given node ∙ ap (λ (j : Judgement). done_of j.ended) (sym same)) next (λ frame e. ap head_of (laws.sent s x frame e)) in
    subst (λ (k : Counts). Adds c.args.notes.now c.push_sample.new.self (judged_events s c.args.level k (judged s y))) r.sampled_node.counters
    (subst (λ (j : Judgement). Adds c.args.notes.now c.push_sample.new.self (judged_events s c.args.level c.args.self.now.sampled_node.counters j)) same noted)
