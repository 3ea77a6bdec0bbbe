use Rattle.std.proofs.Common.{◌+◌, sym, subst, string_bytes, take}
use Rattle.wl_settings.specs.Said.{GrowsBySaid}
use Rattle.wl_settings.proofs.Saying.{grows_more}
use Rattle.wl_settings.proofs.said.push_each.Goals as goal

pub loop-controller-preserved : goal.loop-controller-preserved
loop-controller-preserved c =
    subst (GrowsBySaid c.args.asked.now c.args.best (take (c.loop-controller.controller-index + 1) c.args.controllers.now) (string_bytes c.args.text.now)
    (string_bytes c.push_found.new.text)) (sym c.have_both-all.ensures) (
    grows_more c.args.asked.now c.args.best c.args.controllers.now c.loop-controller.controller-index c.controller-item.result (string_bytes c.args.text.now)
    (string_bytes c.loop-controller.text) (string_bytes c.push_found.new.text) c.loop-controller.all c.in_ok-has.has c.loop-controller-test.true
    c.controller-item.is c.loop-controller.invariant c.in_ok-has.ensures
    )
