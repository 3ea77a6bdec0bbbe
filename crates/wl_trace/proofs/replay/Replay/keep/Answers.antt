-- The machine and the running stretch have it, and nothing else comes of it.
use Rattle.std.proofs.Common.{◌≡◌, refl, sym, ap, subst}
use Rattle.wl_level.specs.declared.Level.{Level}
use Rattle.wl_confine.specs.declared.Happened.TheVariants.{Nothing}
use Rattle.wl_machine.specs.Stretch.{Judgement, Sampled, Stretch, continues}
use Rattle.wl_machine.specs.Stretch.Input.{Sample}
use Rattle.wl_machine.specs.Judged.{stretch_of}
use Rattle.wl_machine.proofs.Callers.{stretch_next}
use Rattle.wl_trace.specs.Replay.{SampledPast, judged_then, sampled_then}
use Rattle.wl_trace.specs.Running.{KeepsStretch}
use Rattle.wl_trace.proofs.Kept.{nothing_noted, past_is}
use Rattle.wl_trace.proofs.replay.Replay.keep.Goals as goal

pub returns-clause-past : goal.returns-clause-past
returns-clause-past c e setup p quantum r =
    let level : Level = c.args.level in
    let s : Stretch = stretch_of p.inputs in
    let x : Sampled = sampled_then setup p quantum level in
    let judged : judged_then setup p quantum level ≡ continues Nothing = c.keep.ensures.judged c.if-not-keep.false setup p quantum r.sampled_node in
    record {
      sampled_node = c.keep.ensures.past c.if-not-keep.false setup p quantum r.sampled_node;
      stretch =
          subst (λ (q : SampledPast). KeepsStretch c.take.new.self (stretch_of q.inputs)) (sym (past_is setup p quantum level judged))
          (subst (KeepsStretch c.take.new.self) (sym (stretch_next p.inputs (Sample x)))
          (c.in_ok-take.ensures s x r.stretch refl (ap (λ (j : Judgement). j.next) judged)));
    }

pub returns-clause-none : goal.returns-clause-none
returns-clause-none c e setup p quantum r =
    nothing_noted setup p quantum c.args.level
    (c.keep.ensures.judged c.if-not-keep.false setup p quantum r.sampled_node) (c.keep.ensures.lost c.if-not-keep.false setup p r.sampled_node)

pub returns-then-not-keep-clause-same : goal.returns-then-not-keep-clause-same
returns-then-not-keep-clause-same c e setup p r = record { sampled_node = c.keep.ensures.same c.if-not-keep.true setup p r.sampled_node; stretch = r.stretch }
