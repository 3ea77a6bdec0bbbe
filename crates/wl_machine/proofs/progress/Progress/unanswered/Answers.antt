use Rattle.std.proofs.Common.{◌∙◌, [], true, refl, ap, arith}
use Rattle.wl_confine.specs.declared.Happened.TheVariants as happens
use Rattle.wl_confine.specs.declared.ErrorKind.TheVariants.{Ack}
use Rattle.wl_machine.specs.declared.state.Role.TheVariants.{Tx}
use Rattle.wl_machine.specs.Stretch.Flag.{PassiveFlag}
use Rattle.wl_machine.specs.Stretch.Sort.{Flagging}
use Rattle.wl_machine.specs.Flags.{error_flag}
use Rattle.wl_machine.specs.Frames.{unanswered}
use Rattle.wl_machine.proofs.Steps.{meets_end}
use Rattle.wl_machine.proofs.FrameSteps.{unanswered_fails}
use Rattle.wl_machine.proofs.progress.Progress.unanswered.Goals as goal

pub returns-in-Passive : goal.returns-in-Passive
returns-in-Passive c s x e =
    meets_end _ _ s x happens.TxFree (Flagging (PassiveFlag true) Tx) [] (e ∙ ap unanswered c.in-Passive.is) c.plain.ensures
    (true, refl, record { owed_is = refl; run_is = refl; alone = refl; run_small = omega arith })

pub returns-in_default : goal.returns-in_default
returns-in_default c s x e =
    meets_end _ _ s x (happens.TxError Ack) (Flagging (error_flag c.args.mode) Tx) [] (e ∙ unanswered_fails c.args.mode c.in_default.not-Passive) c.plain-in_default.ensures c.fail.ensures
