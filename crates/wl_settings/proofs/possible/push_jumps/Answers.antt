use Rattle.std.proofs.Common.{◌-◌}
use Rattle.wl_settings.specs.Settings.{only}
use Rattle.wl_settings.proofs.Growing.{none_more, one_more}
use Rattle.wl_settings.proofs.possible.push_jumps.Goals as goal

pub loop-narrower-preserved : goal.loop-narrower-preserved
loop-narrower-preserved c =
    one_more (λ narrower. only c.args.question.now.asked.now c.args.question.now.controller.now (record { prescaler = c.args.prescaler; parts = c.args.parts; sjw = c.args.question.now.controller.now.bounds.sjw - narrower })) c.loop-narrower.narrower
    c.args.all.now c.loop-narrower.all c.push_possible.new.all c.loop-narrower.invariant c.in_ok-push_possible.ensures

pub loop-narrower-init : goal.loop-narrower-init
loop-narrower-init c = none_more (λ narrower. only c.args.question.now.asked.now c.args.question.now.controller.now (record { prescaler = c.args.prescaler; parts = c.args.parts; sjw = c.args.question.now.controller.now.bounds.sjw - narrower })) c.args.all.now
