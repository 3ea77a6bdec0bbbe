use Rattle.wl_settings.proofs.Found.{row_more}
use Rattle.wl_settings.proofs.listing.find_rows.Goals as goal

pub loop-setting-preserved : goal.loop-setting-preserved
loop-setting-preserved c =
    row_more c.args.asked.now c.args.controller.now c.args.settings.now c.loop-setting.setting-index _ c.loop-setting.rows.items c.push_found.new.rows.items
    c.in_ok-row.row c.loop-setting-test.true c.loop-setting.invariant c.in_ok-row.ensures c.in_ok-push_found.ensures
