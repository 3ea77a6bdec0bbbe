use Rattle.std.proofs.Common.{◌+◌}
use Rattle.wl_settings.specs.Settings.{by_length}
use Rattle.wl_settings.proofs.Growing.{none_more, one_more}
use Rattle.wl_settings.proofs.possible.push_lengths.Goals as goal

pub loop-more-preserved : goal.loop-more-preserved
loop-more-preserved c =
    one_more (λ more. by_length c.args.question.now.asked.now c.args.question.now.controller.now c.args.prescaler (8 + more) c.args.most) c.loop-more.more
    c.args.all.now c.loop-more.all c.push_length.new.all c.loop-more.invariant c.in_ok-push_length.ensures

pub loop-more-init : goal.loop-more-init
loop-more-init c = none_more (λ more. by_length c.args.question.now.asked.now c.args.question.now.controller.now c.args.prescaler (8 + more) c.args.most) c.args.all.now
