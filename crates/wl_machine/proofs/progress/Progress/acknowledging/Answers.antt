use Rattle.std.proofs.Common.{◌≡◌, ◌∙◌, true, refl, sym, ap, arith}
use Rattle.wl_level.specs.Levels.{is_dominant}
use Rattle.wl_frame.specs.Stuffing.{destuffed_bits}
use Rattle.wl_frame.specs.Grammar.{is_crc_right}
use Rattle.wl_confine.specs.declared.Happened.TheVariants as happens
use Rattle.wl_machine.specs.Stretch.Ended.{NoFrame}
use Rattle.wl_machine.specs.States.{sample_of}
use Rattle.wl_machine.proofs.FrameSteps.{received_tail_on, answered, not_answered}
use Rattle.wl_machine.proofs.progress.Progress.acknowledging.Goals as goal
use Rattle.wl_machine.proofs.progress.Progress.acknowledging.Goals.{else-is_crc_right-via-then-is_crc_right+else-not-is_dominant, else-is_crc_right-via-else-is_crc_right}

pub returns-then-is_crc_right-2 : goal.returns-then-is_crc_right-2
returns-then-is_crc_right-2 c head given own end role t =
    let d : is_dominant c.args.level ≡ true = elim c.else-is_crc_right.branch [
      | else-is_crc_right-via-then-is_crc_right+else-not-is_dominant w ↦ sym w.if-not-is_dominant.ensures
      | else-is_crc_right-via-else-is_crc_right w ↦ (let no = w.if-is_crc_right.false in let yes = c.if-is_crc_right-2.true in cc)
    ] in
    received_tail_on _ _ head own (sample_of c.args.level given c.args.mode) 1 end c.args.is_crc_right c.args.self.now.bits.items happens.Acked NoFrame
    role t (omega arith)
    (answered (destuffed_bits own end) (sample_of c.args.level given c.args.mode) c.args.is_crc_right (t.right_is ∙ ap is_crc_right t.bits_are) c.if-is_crc_right-2.true d)
    c.plain-then-is_crc_right-2.ensures refl refl

pub returns-else-is_crc_right-2 : goal.returns-else-is_crc_right-2
returns-else-is_crc_right-2 c head given own end role t =
    received_tail_on _ _ head own (sample_of c.args.level given c.args.mode) 1 end c.args.is_crc_right c.args.self.now.bits.items happens.Nothing NoFrame
    role t (omega arith)
    (not_answered (destuffed_bits own end) (sample_of c.args.level given c.args.mode) c.args.is_crc_right (t.right_is ∙ ap is_crc_right t.bits_are) c.if-is_crc_right-2.false)
    c.plain-else-is_crc_right-2.ensures refl refl
