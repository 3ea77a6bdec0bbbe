use Rattle.std.proofs.Common.{◌≡◌, ◌∙◌, ◌+◌, Bool, true, false, List, [], ◌∷◌, ◌++◌, length, Option, None, refl, sym, ap, subst, length-append}
use Rattle.std.specs.Prelude.{count_by, fold}
use Rattle.std.proofs.lemmas.List.Sums.{fold-append}
use Rattle.std.specs.Option.{option_copied}
use Rattle.wl_confine.specs.declared.Happened.{Happened}
use Rattle.wl_confine.specs.declared.Mode.{Mode}
use Rattle.wl_confine.specs.Counts.{counts_of, mode_of, is_error}
use Rattle.wl_level.specs.declared.Level.{Level}
use Rattle.wl_machine.specs.Stretch.{Stretch, Sampled, Input, Ended, Judgement}
use Rattle.wl_machine.specs.Stretch.Input.{Sample}
use Rattle.wl_machine.specs.Judged.{judged, or_next, stretch_of, stretch_after, drive_of, head_of}
use Rattle.wl_machine.specs.Laws.{HeadLaws}
use Rattle.wl_machine.specs.States.{IsIn, sample_of}
use Rattle.wl_machine.proofs.Callers.{stretch_next}
use Rattle.wl_machine.specs.Doing.{doing_of}
use Rattle.wl_frame.specs.Grammar.{Content}
use Rattle.wl_node.specs.declared.setup.NodeSetup.{NodeSetup}
use Rattle.wl_node.specs.declared.traffic.Traffic.{Traffic}
use Rattle.wl_node.specs.History.{History, handed, head_at_next, sampled_next, history_after_judgement, passed_frames, switched_off, unsent_of}
use Rattle.wl_node.specs.Deciding.{looks_at_head}
use Rattle.wl_node.specs.Kept.{IsTraffic}
use Rattle.wl_node.specs.Unsent.{IsChosen, IsUnsent}
use Rattle.wl_node.proofs.Deciding.{same_judged, same_stretch}
use Rattle.wl_node.proofs.Sends.{sends_next}
use Rattle.wl_node.proofs.Unsents.{count_append}
use Rattle.wl_node.proofs.traffic.Traffic.judge.Goals as goal

-- the history after a sample, by what was answered of it
abbrev made : History → Sampled → Happened → Ended → Mode → History
made h x happened ended after = record {
  seen = h.seen;
  inputs = (h.inputs ++ Sample x ∷ []) ++ switched_off x.mode after;
  happened = h.happened ++ happened ∷ [];
  samples = h.samples ++ (length h.seen, x.level) ∷ [];
  frames = h.frames ++ passed_frames (length h.seen) ended;
  syncs = h.syncs;
  drive = h.drive;
}

-- the same of a history whose machine is at the same
restretched : (setup : NodeSetup) (kept : Traffic) (h : History) (inputs : List Input) → stretch_of h.inputs ≡ stretch_of inputs → IsTraffic setup kept h
    → IsTraffic setup kept (record h { inputs = inputs })
restretched setup kept h inputs same is = record {
  machine = subst (λ s. IsIn kept.machine.progress s) same is.machine;
  counters = is.counters;
  pending = is.pending ∙ ap drive_of same;
  unsent = is.unsent;
  errors = is.errors;
  samples = is.samples;
  sampled = is.sampled;
  frames = is.frames;
  sends = λ frame e. is.sends frame (ap (λ s. head_of s.sort) same ∙ e);
}

pub returns-clause-traffic : goal.returns-clause-traffic
returns-clause-traffic c h n was =
    let setup : NodeSetup = c.args.setup.now in
    let old : IsTraffic setup c.next_head-head.new.self h = c.next_head-head.ensures.traffic h was in
    let now : Traffic = record {
      machine = c.switch_off.new.machine;
      counters = c.apply.new.self;
      pending = c.switch_off.new.pending;
      unsent = c.pass.new.unsent;
      errors = c.count.new.errors;
      samples = c.push.new.self;
      frames = c.pass.new.frames;
    } in
    let laws : HeadLaws = c.a_sent_frame_is_the_head_that_began_its_stretch.ensures in
    let s : Stretch = stretch_of h.inputs in
    let mode : c.mode-mode.result ≡ mode_of (counts_of h.happened) = c.mode-mode.ensures ∙ ap mode_of was.counters in
    let x : Sampled = sample_of c.args.level (option_copied c.as_ref.result) c.mode-mode.result in
    let z : Sampled = sample_of c.args.level c.next_head-head.result (mode_of (counts_of h.happened)) in
    let y : Sampled = sampled_next setup h c.args.level in
    let copied : option_copied c.as_ref.result ≡ c.next_head-head.result = c.as_ref.ensures.value in
    let x_is : x ≡ z = λ i. record { level = c.args.level; head = copied i; mode = mode i } in
    let same : judged s z ≡ judged s y = same_judged s c.args.level c.next_head-head.result (handed c.args.level setup.segments.sync (head_at_next setup h)) (mode_of (counts_of h.happened))
    (c.next_head-head.ensures.handed h n was) (c.next_head-head.ensures.none h was) in
    let ended : Ended = (judged s x).ended in
    let off = c.switch_off.ensures (h.inputs ++ Sample x ∷ []) (c.bit-turn.ensures.machine h.inputs old.machine) (c.bit-turn.ensures.drive h.inputs old.machine) in
    let kept = c.pass.ensures.passed ended h.frames (c.bit-turn.ensures.done h.inputs old.machine) old.unsent
    (λ frame e. subst (λ u. IsChosen setup.order u frame c.next_head-head.new.self.unsent.place) (sym old.unsent.left) (old.sends frame (ap head_of (laws.sent s x frame e)))) in
    let counted = c.apply.ensures.whole h.happened old.counters in
    let code : IsTraffic setup now (made h x c.bit-turn.result.happened ended c.mode-after.result) = record {
      machine = off.0;
      counters = counted;
      pending = off.1;
      unsent = subst (λ k. IsUnsent setup c.pass.new.unsent (h.frames ++ passed_frames k ended)) (sym n) kept.1;
      errors = c.count.ensures ∙ (ap (λ k. k + count_by is_error (c.bit-turn.result.happened ∷ [])) old.errors ∙ sym (count_append is_error h.happened (c.bit-turn.result.happened ∷ [])));
      samples = λ on.
          (let was_on = sym c.push.ensures.keeps ∙ on in
          c.push.ensures.samples was_on ∙ (ap (λ l. l ++ (c.args.quantum, c.args.level) ∷ []) (old.samples was_on) ∙ ap (λ k. h.samples ++ (k, c.args.level) ∷ []) (sym n)));
      sampled = c.push.ensures.count ∙ (ap (λ k. k + 1) old.sampled ∙ sym (length-append h.samples ((length h.seen, c.args.level) ∷ [])));
      frames = kept.0 ∙ (ap (λ l. l ++ passed_frames c.args.quantum ended) old.frames ∙ ap (λ k. h.frames ++ passed_frames k ended) (sym n));
      sends = λ frame e.
          (let on = sends_next laws (λ f. IsChosen setup.order (unsent_of setup h) f c.next_head-head.new.self.unsent.place) h.inputs x c.mode-after.result old.sends
          (λ f g. c.next_head-head.ensures.chosen h f was (sym copied ∙ g)) frame e setup.order setup.queue h.frames (length h.seen) in
          subst (λ u. IsChosen setup.order u frame c.pass.new.unsent.place) (sym on.1)
          (subst (IsChosen setup.order (unsent_of setup h) frame) (sym c.pass.ensures.place) on.0));
    } in
    let happened = c.bit-turn.ensures.happened h.inputs old.machine in
    let after : c.mode-after.result ≡ mode_of (counts_of (h.happened ++ c.bit-turn.result.happened ∷ [])) = c.mode-after.ensures ∙ ap mode_of counted in
    let placed = subst (λ (m : Mode). IsTraffic setup now (made h x c.bit-turn.result.happened ended m)) after code in
    let told = subst (λ (w : Happened). IsTraffic setup now (made h x w ended (mode_of (counts_of (h.happened ++ w ∷ []))))) happened placed in
    let by_head : IsTraffic setup now (history_after_judgement h z (judged s z)) = subst (λ (w : Sampled). IsTraffic setup now (history_after_judgement h w (judged s w))) x_is told in
    let by_judgement : IsTraffic setup now (history_after_judgement h z (judged s y)) = subst (λ (j : Judgement). IsTraffic setup now (history_after_judgement h z j)) same by_head in
    let off_then : List Input = switched_off (mode_of (counts_of h.happened)) (mode_of (counts_of (h.happened ++ (judged s y).happened ∷ []))) in
    restretched setup now (history_after_judgement h z (judged s y)) ((h.inputs ++ Sample y ∷ []) ++ off_then) (same_stretch h.inputs z y off_then refl same) by_judgement
