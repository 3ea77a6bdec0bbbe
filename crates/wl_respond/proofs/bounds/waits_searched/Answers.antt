use Rattle.std.proofs.Common.{◌≡◌, ◌∙◌, ap, subst, List}
use Rattle.std.proofs.lemmas.Result.{IfOk-weaker}
use Rattle.wl_respond.specs.declared.asked.Asked.{Asked}
use Rattle.wl_respond.specs.declared.message.MessageWait.{MessageWait}
use Rattle.wl_respond.specs.Bounds.{AreWaits, asked_in}
use Rattle.wl_respond.proofs.bounds.waits_searched.Goals as goal

pub returns-clause-waits : goal.returns-clause-waits
returns-clause-waits c =
    let f = c.args.family.now in
    let asked : c.in_ok-asked.asked ≡ asked_in f c.args.question.any_data c.args.plain.now c.in_ok-bounds.bounds.messages.items =
    c.in_ok-asked.ensures ∙ ap (λ (x : List MessageWait). asked_in f c.args.question.any_data c.args.plain.now x) c.as_slice.ensures.value in
    IfOk-weaker c.waits_of.result _ _
    (λ w are. (
      c.in_ok-bounds.bounds.messages.items,
      c.in_ok-bounds.bounds.windows.items,
      c.in_ok-bounds.ensures,
      subst (λ (x : List Asked). AreWaits c.args.question.tick c.args.bus.now f c.in_ok-bounds.bounds.windows.items x w) asked are,
    ))
    c.waits_of.ensures.waits
