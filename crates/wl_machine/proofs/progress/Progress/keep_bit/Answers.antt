use Rattle.std.proofs.Common.{◌≡◌, ◌≤◌, [], ◌∷◌, ◌++◌, false, sym, arith}
use Rattle.wl_level.specs.Levels.{same}
use Rattle.wl_machine.proofs.Framed.{taken, role_receives}
use Rattle.wl_machine.proofs.progress.Progress.keep_bit.Goals as goal
use Rattle.wl_machine.proofs.progress.Progress.keep_bit.Goals.{else-run-ge-STUFF_RUN-via-then-run-ge-STUFF_RUN+else-is, else-run-ge-STUFF_RUN-via-else-run-ge-STUFF_RUN}

pub returns-clause-next : goal.returns-clause-next
returns-clause-next c e head own role p =
    let no_sixth : 5 ≤ c.args.run → same c.args.last c.args.level ≡ false = elim c.else-run-ge-STUFF_RUN.branch [
      | else-run-ge-STUFF_RUN-via-then-run-ge-STUFF_RUN+else-is w ↦ (λ due. sym w.if-is.ensures)
      | else-run-ge-STUFF_RUN-via-else-run-ge-STUFF_RUN w ↦ (λ due. absurd (omega arith))
    ] in
    c.received_bit.ensures head (own ++ c.args.level ∷ []) (role_receives head own c.args.level role)
    (taken c.args.last c.args.run c.args.self.now.bits.items own c.args.level _ _ p c.take_bit-run.ensures.run c.take_bit-run.ensures.bits no_sixth)
