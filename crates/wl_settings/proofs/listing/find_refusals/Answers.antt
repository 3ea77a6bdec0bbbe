use Rattle.wl_settings.proofs.Found.{refusal_more}
use Rattle.wl_settings.proofs.listing.find_refusals.Goals as goal

pub loop-setting-preserved : goal.loop-setting-preserved
loop-setting-preserved c =
    refusal_more c.args.asked.now c.args.controller.now c.args.settings.now c.loop-setting.setting-index _ c.loop-setting.all.items c.push_refusal.new.all.items
    c.in_ok-refusal.refusal c.loop-setting-test.true c.loop-setting.invariant c.in_ok-refusal.ensures c.in_ok-push_refusal.ensures
