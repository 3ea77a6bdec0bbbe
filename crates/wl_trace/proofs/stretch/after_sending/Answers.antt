use Rattle.std.proofs.Common.{◌∙◌, ap, sym, subst, cond, true, false}
use Rattle.wl_confine.specs.Counts.{is_error}
use Rattle.wl_machine.specs.Frames.{sending}
use Rattle.wl_trace.specs.Running.{ComesNext, error_kind}
use Rattle.wl_trace.specs.declared.stretch.NextStretch.TheVariants.{Same, Begins}
use Rattle.wl_trace.proofs.Following.{sending_so}
use Rattle.wl_trace.proofs.stretch.after_sending.Goals as goal

pub returns : goal.returns
returns c x head own e h =
    subst (λ n. ComesNext x.level n (sending head own x).next)
    (sym (c.after_error.ensures ∙ ap (λ k. cond (is_error k) (Begins (error_kind c.args.mode true) false) Same) h))
    (sending_so x.level c.args.mode head own x e)
