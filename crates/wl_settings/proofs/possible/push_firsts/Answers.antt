use Rattle.std.proofs.Common.{◌+◌}
use Rattle.wl_settings.specs.Settings.{by_second}
use Rattle.wl_settings.proofs.Growing.{none_more, one_more}
use Rattle.wl_settings.proofs.possible.push_firsts.Goals as goal

pub loop-more-preserved : goal.loop-more-preserved
loop-more-preserved c =
    one_more (λ more. by_second c.args.question.now.asked.now c.args.question.now.controller.now c.args.prescaler c.args.prop (1 + more)) c.loop-more.more
    c.args.all.now c.loop-more.all c.push_seconds.new.all c.loop-more.invariant c.in_ok-push_seconds.ensures

pub loop-more-init : goal.loop-more-init
loop-more-init c = none_more (λ more. by_second c.args.question.now.asked.now c.args.question.now.controller.now c.args.prescaler c.args.prop (1 + more)) c.args.all.now
