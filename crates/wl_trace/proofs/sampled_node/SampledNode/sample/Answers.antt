-- What the machine is given is what the past says, or does the same.
use Rattle.std.proofs.Common.{◌≡◌, ◌∙◌, [], ◌∷◌, ◌++◌, ℕ, List, Option, refl, sym, ap, subst}
use Rattle.std.specs.Option.{option_copied}
use Rattle.wl_level.specs.declared.Level.{Level}
use Rattle.wl_confine.specs.declared.Happened.{Happened}
use Rattle.wl_confine.specs.declared.Mode.{Mode}
use Rattle.wl_confine.specs.Counts.{Counts, counts_of, mode_of}
use Rattle.wl_frame.specs.Grammar.{Content}
use Rattle.wl_machine.specs.Stretch.{Sampled, Ended, Input, Judgement, Stretch}
use Rattle.wl_machine.specs.Stretch.Input.{Sample}
use Rattle.wl_machine.specs.Judged.{drive_of, head_of, judged, stretch_of}
use Rattle.wl_machine.specs.Laws.{HeadLaws}
use Rattle.wl_machine.specs.States.{IsIn, done_of, sample_of}
use Rattle.wl_node.specs.declared.setup.NodeSetup.{NodeSetup}
use Rattle.wl_node.specs.History.{passed_frames, switched_off}
use Rattle.wl_node.specs.Queues.{unsent_by}
use Rattle.wl_node.specs.Unsent.{IsChosen, IsUnsent}
use Rattle.wl_node.proofs.Callers.{same_judged, same_stretch, sends_next}
use Rattle.wl_trace.specs.declared.sampled_node.SampledNode.{SampledNode}
use Rattle.wl_trace.specs.Replay.{IsGiven, IsSampledNode, SampledPast, head_then, past_judged, sampled_then}
use Rattle.wl_trace.proofs.sampled_node.SampledNode.sample.Goals as goal

-- the past after a sample, by what was answered of it
abbrev made : SampledPast → ℕ → Sampled → Happened → Ended → Mode → SampledPast
made p quantum x happened ended after = record {
  inputs = (p.inputs ++ Sample x ∷ []) ++ switched_off x.mode after;
  happened = p.happened ++ happened ∷ [];
  frames = p.frames ++ passed_frames quantum ended;
  samples = p.samples ++ (quantum, x.level) ∷ [];
}

-- what was given, with the mode of the past
abbrev with_mode : SampledPast → Level → Option Content → Sampled
with_mode p level head = sample_of level head (mode_of (counts_of p.happened))

given : (p : SampledPast) (level : Level) (head : Option Content) (mode : Mode) (counters : Counts) → counters ≡ counts_of p.happened
    → mode ≡ mode_of counters → sample_of level head mode ≡ with_mode p level head
given p level head mode counters k m i = record { level = level; head = head; mode = (m ∙ ap mode_of k) i }

-- it does what the past says
does : {setup : NodeSetup} {kept : SampledNode} (p : SampledPast) (quantum : ℕ) (level : Level) (head : Option Content) → IsGiven setup kept p quantum level head
    → judged (stretch_of p.inputs) (with_mode p level head) ≡ judged (stretch_of p.inputs) (sampled_then setup p quantum level)
does {setup} p quantum level head is = same_judged (stretch_of p.inputs) level head (head_then setup p quantum level) (mode_of (counts_of p.happened)) is.looked is.unlooked

pub returns-clause-happened : goal.returns-clause-happened
returns-clause-happened c p quantum is r =
    let head : Option Content = option_copied c.args.head in
    c.bit-turn.ensures.happened p.inputs r.machine
    ∙ ap (λ (x : Sampled). (judged (stretch_of p.inputs) x).happened) (given p c.args.level head c.mode-mode.result c.args.self.now.counters r.counters c.mode-mode.ensures)
    ∙ ap (λ (j : Judgement). j.happened) (does p quantum c.args.level head is)

pub returns-clause-done : goal.returns-clause-done
returns-clause-done c p quantum is r =
    let head : Option Content = option_copied c.args.head in
    c.bit-turn.ensures.done p.inputs r.machine
    ∙ ap (λ (x : Sampled). done_of (judged (stretch_of p.inputs) x).ended) (given p c.args.level head c.mode-mode.result c.args.self.now.counters r.counters c.mode-mode.ensures)
    ∙ ap (λ (j : Judgement). done_of j.ended) (does p quantum c.args.level head is)

-- the same of a past whose machine is at the same
restretched : (setup : NodeSetup) (kept : SampledNode) (p : SampledPast) (inputs : List Input) → stretch_of p.inputs ≡ stretch_of inputs → IsSampledNode setup kept p
    → IsSampledNode setup kept (record p { inputs = inputs })
restretched setup kept p inputs same is = record {
  machine = subst (λ s. IsIn kept.machine.progress s) same is.machine;
  counters = is.counters;
  pending = is.pending ∙ ap drive_of same;
  unsent = is.unsent;
  sends = λ frame e. is.sends frame (ap (λ s. head_of s.sort) same ∙ e);
}

pub returns-clause-past : goal.returns-clause-past
returns-clause-past c p quantum is r =
    let setup : NodeSetup = c.args.setup.now in
    let laws : HeadLaws = c.a_sent_frame_is_the_head_that_began_its_stretch.ensures in
    let head : Option Content = option_copied c.args.head in
    let x : Sampled = sample_of c.args.level head c.mode-mode.result in
    let z : Sampled = with_mode p c.args.level head in
    let y : Sampled = sampled_then setup p quantum c.args.level in
    let s : Stretch = stretch_of p.inputs in
    let x_is : x ≡ z = given p c.args.level head c.mode-mode.result c.args.self.now.counters r.counters c.mode-mode.ensures in
    let same : judged s z ≡ judged s y = does p quantum c.args.level head is in
    let happened : c.bit-turn.result.happened ≡ (judged s x).happened = c.bit-turn.ensures.happened p.inputs r.machine in
    let counted = c.apply.ensures.whole p.happened r.counters in
    let ended : Ended = (judged s x).ended in
    let passed = c.pass.ensures ended p.frames quantum (c.bit-turn.ensures.done p.inputs r.machine) r.unsent (λ frame e. r.sends frame (ap head_of (laws.sent s x frame e))) in
    let code : IsSampledNode setup c.switch_off.new.self (made p quantum x c.bit-turn.result.happened ended c.mode-after.result) = record {
      machine = c.switch_off.ensures.machine (p.inputs ++ Sample x ∷ []) (c.bit-turn.ensures.machine p.inputs r.machine);
      counters = c.switch_off.ensures.counters ∙ counted;
      pending = c.switch_off.ensures.pending (p.inputs ++ Sample x ∷ []) (c.bit-turn.ensures.drive p.inputs r.machine);
      unsent = subst (λ u. IsUnsent setup u (p.frames ++ passed_frames quantum ended)) (sym c.switch_off.ensures.unsent) passed.0;
      sends = λ frame e.
          (let on = sends_next laws (λ f. IsChosen setup.order (unsent_by setup.order setup.queue p.frames) f c.args.self.now.unsent.place) p.inputs x c.mode-after.result r.sends is.chosen frame e
          setup.order setup.queue p.frames quantum in
          subst (λ u. IsChosen setup.order (unsent_by setup.order setup.queue (p.frames ++ passed_frames quantum ended)) frame u.place) (sym c.switch_off.ensures.unsent)
          (subst (IsChosen setup.order (unsent_by setup.order setup.queue (p.frames ++ passed_frames quantum ended)) frame) (sym passed.1)
          (subst (λ u. IsChosen setup.order u frame c.args.self.now.unsent.place) (sym on.1) on.0)));
    } in
    let after : c.mode-after.result ≡ mode_of (counts_of (p.happened ++ c.bit-turn.result.happened ∷ [])) = c.mode-after.ensures ∙ ap mode_of counted in
    let placed = subst (λ (m : Mode). IsSampledNode setup c.switch_off.new.self (made p quantum x c.bit-turn.result.happened ended m)) after code in
    let told = subst (λ (w : Happened). IsSampledNode setup c.switch_off.new.self (made p quantum x w ended (mode_of (counts_of (p.happened ++ w ∷ []))))) happened placed in
    let by_head : IsSampledNode setup c.switch_off.new.self (past_judged p quantum z (judged s z)) = subst (λ (w : Sampled). IsSampledNode setup c.switch_off.new.self (past_judged p quantum w (judged s w))) x_is told in
    let by_judgement : IsSampledNode setup c.switch_off.new.self (past_judged p quantum z (judged s y)) = subst (λ (j : Judgement). IsSampledNode setup c.switch_off.new.self (past_judged p quantum z j)) same by_head in
    let off : List Input = switched_off (mode_of (counts_of p.happened)) (mode_of (counts_of (p.happened ++ (judged s y).happened ∷ []))) in
    restretched setup c.switch_off.new.self (past_judged p quantum z (judged s y)) ((p.inputs ++ Sample y ∷ []) ++ off) (same_stretch p.inputs z y off refl same) by_judgement
