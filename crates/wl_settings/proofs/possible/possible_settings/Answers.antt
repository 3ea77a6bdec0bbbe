use Rattle.std.proofs.Common.{◌+◌, ◌∙◌, []}
use Rattle.wl_settings.specs.Settings.{by_prescaler}
use Rattle.wl_settings.proofs.Growing.{none_under, one_more}
use Rattle.wl_settings.proofs.possible.possible_settings.Goals as goal

pub loop-less-preserved : goal.loop-less-preserved
loop-less-preserved c =
    one_more (λ less. by_prescaler c.args.asked.now c.args.controller.now (less + 1)) c.loop-less.less
    [] c.loop-less.all c.push_prescaler.new.all c.loop-less.invariant c.in_ok-push_prescaler.ensures

pub loop-less-init : goal.loop-less-init
loop-less-init c = c.new-all.ensures ∙ none_under (λ less. by_prescaler c.args.asked.now c.args.controller.now (less + 1))
