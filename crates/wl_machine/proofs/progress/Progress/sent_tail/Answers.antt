use Rattle.std.proofs.Common.{◌∙◌, refl, sym, arith}
use Rattle.wl_machine.specs.States.{sample_of}
use Rattle.wl_machine.proofs.FrameSteps.{sent_tail_is, sent_tail_on, sent_unanswered, sent_answered, sent_next}
use Rattle.wl_machine.proofs.progress.Progress.sent_tail.Goals as goal
use Rattle.wl_machine.proofs.progress.Progress.sent_tail.Goals.{then-place-eq-ACKNOWLEDGEMENT+else-not-is_dominant, else-place-eq-ACKNOWLEDGEMENT+else-is_dominant+else-place-eq-LAST}

pub returns-then-not-is_dominant : goal.returns-then-not-is_dominant
returns-then-not-is_dominant c head given own end role t =
    c.unanswered.ensures _ _
    (sent_tail_is head own (sample_of c.args.level given c.args.mode) c.args.place end role t
    ∙ sent_unanswered head c.args.place (sample_of c.args.level given c.args.mode) c.if-place-eq-ACKNOWLEDGEMENT.true (sym c.if-not-is_dominant.ensures))

pub returns : goal.returns
returns c head given own end role t = elim c.if-place-eq-ACKNOWLEDGEMENT.branch [
  | then-place-eq-ACKNOWLEDGEMENT+else-not-is_dominant w ↦
      sent_tail_on _ _ head own (sample_of c.args.level given c.args.mode) c.args.place end role t (omega arith)
      (sent_answered head c.args.place (sample_of c.args.level given c.args.mode) w.if-place-eq-ACKNOWLEDGEMENT.true (sym w.if-not-is_dominant.ensures)) c.plain-2.ensures refl
  | else-place-eq-ACKNOWLEDGEMENT+else-is_dominant+else-place-eq-LAST w ↦
      sent_tail_on _ _ head own (sample_of c.args.level given c.args.mode) c.args.place end role t (omega arith)
      (sent_next head c.args.place (sample_of c.args.level given c.args.mode) w.if-place-eq-ACKNOWLEDGEMENT.false (sym w.if-is_dominant.ensures) w.if-place-eq-LAST.false) c.plain-2.ensures refl
]
