use Rattle.std.proofs.Common.{◌≡◌, ◌<◌, ◌∙◌, [], ◌∷◌, ◌++◌, length, true, false, Some, sym, ap, arith}
use Rattle.wl_level.specs.Levels.{same}
use Rattle.wl_confine.specs.declared.Happened.TheVariants as happens
use Rattle.wl_frame.specs.Grammar.{bits_of, layout_of, is_arbitration}
use Rattle.wl_machine.specs.declared.state.Role.TheVariants.{Tx}
use Rattle.wl_machine.specs.Stretch.{Sampled}
use Rattle.wl_machine.specs.Stretch.Sort.{Flagging}
use Rattle.wl_machine.specs.Flags.{error_flag}
use Rattle.wl_machine.specs.States.{sample_of}
use Rattle.wl_machine.proofs.Steps.{meets_end}
use Rattle.wl_machine.proofs.Framed.{taken, role_loses}
use Rattle.wl_machine.proofs.FrameSteps.{frame_on, sending_differs, differ_dominant, differ_early, differ_late, differ_lost, differ_error, is_loss}
use Rattle.wl_machine.proofs.progress.Progress.differing.Goals as goal

pub returns-then-is_dominant : goal.returns-then-is_dominant
returns-then-is_dominant c head given own role s p is ne =
    let x : Sampled = sample_of c.args.level given c.args.mode in
    c.bit_error.ensures _ x
    (sending_differs head own x role p.going_on (ap (λ l. same l c.args.level) (sym is) ∙ ne)
    ∙ differ_dominant head own x c.args.last c.args.run c.args.self.now.bits.items c.args.sent p is (sym c.if-is_dominant.ensures))

pub returns-then-place-rtr_place : goal.returns-then-place-rtr_place
returns-then-place-rtr_place c head given own role s p is ne =
    let x : Sampled = sample_of c.args.level given c.args.mode in
    let sent_bits : c.deref.result.now ≡ bits_of head = c.deref.ensures.0 ∙ s in
    let rtr : c.rtr_place.result ≡ (layout_of (bits_of head)).rtr = c.rtr_place.ensures ∙ ap (λ b. (layout_of b).rtr) sent_bits in
    let place : c.len-place.result ≡ length c.args.self.now.bits.items = c.len-place.ensures.value in
    c.bit_error-then-place-rtr_place.ensures _ x
    (sending_differs head own x role p.going_on (ap (λ l. same l c.args.level) (sym is) ∙ ne)
    ∙ differ_late head own x c.args.last c.args.run c.args.self.now.bits.items c.args.sent p is (sym c.if-is_dominant.ensures) (omega arith) (omega arith))

pub returns-then-run-ge-STUFF_RUN : goal.returns-then-run-ge-STUFF_RUN
returns-then-run-ge-STUFF_RUN c head given own role s p is ne =
    let x : Sampled = sample_of c.args.level given c.args.mode in
    let sent_bits : c.deref.result.now ≡ bits_of head = c.deref.ensures.0 ∙ s in
    let rtr : c.rtr_place.result ≡ (layout_of (bits_of head)).rtr = c.rtr_place.ensures ∙ ap (λ b. (layout_of b).rtr) sent_bits in
    let place : c.len-place.result ≡ length c.args.self.now.bits.items = c.len-place.ensures.value in
    meets_end _ _ _ x happens.TxFree (Flagging (error_flag c.args.mode) Tx) []
    (sending_differs head own x role p.going_on (ap (λ l. same l c.args.level) (sym is) ∙ ne)
    ∙ differ_early head own x c.args.last c.args.run c.args.self.now.bits.items c.args.sent p is (sym c.if-is_dominant.ensures) (omega arith) (omega arith))
    c.plain.ensures c.fail.ensures

pub returns-then-not-is_arbitration : goal.returns-then-not-is_arbitration
returns-then-not-is_arbitration c head given own role s p is ne =
    let x : Sampled = sample_of c.args.level given c.args.mode in
    let sent_bits : c.deref-2.result.now ≡ bits_of head = c.deref-2.ensures.0 ∙ s in
    let place : c.len-place.result ≡ length c.args.self.now.bits.items = c.len-place.ensures.value in
    let asks : is_arbitration (bits_of head) (length c.args.self.now.bits.items) ≡ false =
    sym (ap (is_arbitration c.deref-2.result.now) place ∙ ap (λ b. is_arbitration b (length c.args.self.now.bits.items)) sent_bits) ∙ sym c.if-not-is_arbitration.ensures in
    c.bit_error-then-not-is_arbitration.ensures _ x
    (sending_differs head own x role p.going_on (ap (λ l. same l c.args.level) (sym is) ∙ ne)
    ∙ differ_error head own x c.args.last c.args.run c.args.self.now.bits.items c.args.sent p is (sym c.if-is_dominant.ensures) (omega arith) asks)

pub returns : goal.returns
returns c head given own role s p is ne =
    let x : Sampled = sample_of c.args.level given c.args.mode in
    let sent_bits : c.deref-2.result.now ≡ bits_of head = c.deref-2.ensures.0 ∙ s in
    let place : c.len-place.result ≡ length c.args.self.now.bits.items = c.len-place.ensures.value in
    let asks : is_arbitration (bits_of head) (length c.args.self.now.bits.items) ≡ true =
    sym (ap (is_arbitration c.deref-2.result.now) place ∙ ap (λ b. is_arbitration b (length c.args.self.now.bits.items)) sent_bits) ∙ sym c.if-not-is_arbitration.ensures in
    let short : c.args.run < 5 = omega arith in
    frame_on _ _ (Some head) own x happens.Nothing
    (sending_differs head own x role p.going_on (ap (λ l. same l c.args.level) (sym is) ∙ ne)
    ∙ differ_lost head own x c.args.last c.args.run c.args.self.now.bits.items c.args.sent p is (sym c.if-is_dominant.ensures) short asks)
    c.plain-2.ensures
    (c.received_bit.ensures (Some head) (own ++ c.args.level ∷ [])
    (role_loses head own c.args.level (is_loss head own x c.args.last c.args.run c.args.self.now.bits.items c.args.sent p is (sym c.if-is_dominant.ensures) short asks ne))
    (taken c.args.last c.args.run c.args.self.now.bits.items own c.args.level _ _ p c.take_bit-run.ensures.run c.take_bit-run.ensures.bits (λ due. absurd (omega arith))))
