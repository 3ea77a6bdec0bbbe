use Rattle.std.proofs.Common.{◌≡◌, ◌∙◌, refl, sym, ap, arith}
use Rattle.wl_frame.specs.Stuffing.{destuffed_bits}
use Rattle.wl_frame.specs.Grammar.{Content, is_crc_right, content_of}
use Rattle.wl_confine.specs.declared.Happened.TheVariants as happens
use Rattle.wl_machine.specs.declared.Done.TheVariants as dones
use Rattle.wl_machine.specs.declared.progress.Step.{Step}
use Rattle.wl_machine.specs.declared.state.State.TheVariants as states
use Rattle.wl_machine.specs.Stretch.Ended.{NoFrame, Received}
use Rattle.wl_machine.specs.States.{sample_of}
use Rattle.wl_machine.proofs.FrameSteps.{received_tail_is, received_tail_on, last_is, received_now, received_next, not_wrong}
use Rattle.wl_machine.proofs.progress.Progress.received_tail.Goals as goal

pub returns-then-place-eq-LAST : goal.returns-then-place-eq-LAST
returns-then-place-eq-LAST c head given own end role t =
    c.last_received.ensures _ (sample_of c.args.level given c.args.mode) refl
    (received_tail_is head own (sample_of c.args.level given c.args.mode) c.args.place end role t.tail
    ∙ last_is (destuffed_bits own end) c.args.place (sample_of c.args.level given c.args.mode) c.if-place-eq-LAST.true)

pub returns-then-place-eq-LAST_BUT_ONE : goal.returns-then-place-eq-LAST_BUT_ONE
returns-then-place-eq-LAST_BUT_ONE c head given own end role t =
    received_tail_on _ _ head own (sample_of c.args.level given c.args.mode) c.args.place end c.args.is_crc_right c.args.self.now.bits.items happens.Nothing (Received (content_of (destuffed_bits own end)))
    role t (omega arith)
    (received_now (destuffed_bits own end) c.args.place (sample_of c.args.level given c.args.mode) (sym c.if-is_dominant.ensures) c.if-place-eq-LAST_BUT_ONE.true)
    (let f : Content → Step = λ frame. record { happened = happens.Nothing; done = dones.Received frame } in
    let read : c.deref.result.now ≡ c.args.self.now.bits.items = c.deref.ensures.0 in
    ap f (c.from_bits-frame.ensures ∙ ap content_of (read ∙ t.bits_are)))
    (ap (λ n. states.ReceivedTail n c.args.is_crc_right) (omega arith)) refl

pub returns : goal.returns
returns c head given own end role t =
    received_tail_on _ _ head own (sample_of c.args.level given c.args.mode) c.args.place end c.args.is_crc_right c.args.self.now.bits.items happens.Nothing NoFrame
    role t (omega arith)
    (received_next (destuffed_bits own end) c.args.place (sample_of c.args.level given c.args.mode) c.if-place-eq-ACKNOWLEDGEMENT.false c.if-place-eq-LAST.false (sym c.if-is_dominant.ensures)
    (not_wrong c.args.place c.args.is_crc_right (destuffed_bits own end) c.else-place-eq-ACKNOWLEDGEMENT_DELIMITER.either (t.right_is ∙ ap is_crc_right t.bits_are))
    c.if-place-eq-LAST_BUT_ONE.false)
    c.plain-2.ensures refl refl
