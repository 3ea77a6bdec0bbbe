use Rattle.std.proofs.Common.{◌≡◌, ◌≤◌, [], ◌∷◌, ◌++◌, false, sym, arith}
use Rattle.wl_level.specs.Levels.{same}
use Rattle.wl_confine.specs.declared.Happened.TheVariants as happens
use Rattle.wl_confine.specs.declared.ErrorKind.TheVariants.{Stuff}
use Rattle.wl_machine.specs.declared.state.Role.TheVariants.{Rx}
use Rattle.wl_machine.specs.Stretch.{Sampled}
use Rattle.wl_machine.specs.Stretch.Sort.{Flagging}
use Rattle.wl_machine.specs.Flags.{error_flag}
use Rattle.wl_machine.specs.States.{sample_of}
use Rattle.wl_machine.proofs.Steps.{meets_end}
use Rattle.wl_machine.proofs.Framed.{taken, role_receives}
use Rattle.wl_machine.proofs.FrameSteps.{frame_on, receiving_six, receiving_on}
use Rattle.wl_machine.proofs.progress.Progress.receiving.Goals as goal
use Rattle.wl_machine.proofs.progress.Progress.receiving.Goals.{else-run-ge-STUFF_RUN-via-then-run-ge-STUFF_RUN+else-is, else-run-ge-STUFF_RUN-via-else-run-ge-STUFF_RUN}

pub returns-then-is : goal.returns-then-is
returns-then-is c head given own role p =
    let x : Sampled = sample_of c.args.level given c.args.mode in
    meets_end _ _ _ x (happens.RxError Stuff) (Flagging (error_flag c.args.mode) Rx) []
    (receiving_six head own x c.args.last c.args.run c.args.self.now.bits.items role p (omega arith) (sym c.if-is.ensures)) c.plain.ensures c.fail.ensures

pub returns : goal.returns
returns c head given own role p =
    let x : Sampled = sample_of c.args.level given c.args.mode in
    let no_sixth : 5 ≤ c.args.run → same c.args.last c.args.level ≡ false = elim c.else-run-ge-STUFF_RUN.branch [
      | else-run-ge-STUFF_RUN-via-then-run-ge-STUFF_RUN+else-is w ↦ (λ due. sym w.if-is.ensures)
      | else-run-ge-STUFF_RUN-via-else-run-ge-STUFF_RUN w ↦ (λ due. absurd (omega arith))
    ] in
    frame_on _ _ head own x happens.Nothing
    (receiving_on head own x c.args.last c.args.run c.args.self.now.bits.items role p no_sixth) c.plain-2.ensures
    (c.received_bit.ensures head (own ++ c.args.level ∷ []) (role_receives head own c.args.level role)
    (taken c.args.last c.args.run c.args.self.now.bits.items own c.args.level _ _ p c.take_bit-run.ensures.run c.take_bit-run.ensures.bits no_sixth))
