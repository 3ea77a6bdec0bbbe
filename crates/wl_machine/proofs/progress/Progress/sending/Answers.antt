use Rattle.std.proofs.Common.{◌≡◌, ◌≤◌, ◌∙◌, [], ◌∷◌, ◌++◌, length, true, false, Some, sym, ap}
use Rattle.wl_level.specs.Levels.{same}
use Rattle.wl_confine.specs.declared.Happened.TheVariants as happens
use Rattle.wl_machine.specs.Stretch.{Sampled}
use Rattle.wl_machine.specs.Frames.{sent_at}
use Rattle.wl_machine.specs.States.{sample_of}
use Rattle.wl_machine.proofs.Framed.{taken, role_sends}
use Rattle.wl_machine.proofs.FrameSteps.{frame_on, sent_level_is, sending_same, not_lost_same, sent_opposite}
use Rattle.wl_machine.proofs.progress.Progress.sending.Goals as goal

pub returns-then-not-is : goal.returns-then-not-is
returns-then-not-is c head given own role s p =
    c.differing.ensures head given own role s p
    (c.sent_level-sent.ensures ∙ sent_level_is head own c.args.last c.args.run c.args.self.now.bits.items c.args.self.now.sent.items p s) (sym c.if-not-is.ensures)

pub returns : goal.returns
returns c head given own role s p =
    let x : Sampled = sample_of c.args.level given c.args.mode in
    let sent_is : c.sent_level-sent.result ≡ sent_at head own (length own) =
    c.sent_level-sent.ensures ∙ sent_level_is head own c.args.last c.args.run c.args.self.now.bits.items c.args.self.now.sent.items p s in
    let equal : same c.sent_level-sent.result c.args.level ≡ true = sym c.if-not-is.ensures in
    let equal_here : same (sent_at head own (length own)) c.args.level ≡ true = ap (λ l. same l c.args.level) (sym sent_is) ∙ equal in
    let no_sixth : 5 ≤ c.args.run → same c.args.last c.args.level ≡ false =
    sent_opposite c.args.last c.args.level c.sent_level-sent.result c.args.self.now.sent.items c.args.run (length c.args.self.now.bits.items) c.sent_level-sent.ensures equal in
    frame_on _ _ (Some head) own x happens.Nothing (sending_same head own x role p.going_on equal_here) c.plain.ensures
    (c.sent_bit.ensures head (own ++ c.args.level ∷ []) (role_sends head own c.args.level role (not_lost_same head own c.args.level equal_here))
    (c.take_bit-run.ensures.sent ∙ s)
    (taken c.args.last c.args.run c.args.self.now.bits.items own c.args.level _ _ p c.take_bit-run.ensures.run c.take_bit-run.ensures.bits no_sixth))
