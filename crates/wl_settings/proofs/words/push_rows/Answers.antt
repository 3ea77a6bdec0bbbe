use Rattle.std.proofs.Common.{string_bytes}
use Rattle.wl_settings.specs.Words.{line_at}
use Rattle.wl_settings.proofs.Growing.{none_more, one_more}
use Rattle.wl_settings.proofs.words.push_rows.Goals as goal

pub loop-place-preserved : goal.loop-place-preserved
loop-place-preserved c =
    one_more (line_at c.args.asked.now c.args.controller.now c.args.rows.now) c.loop-place.place
    (string_bytes c.args.text.now) (string_bytes c.loop-place.text) (string_bytes c.push_row_at.new.text) c.loop-place.invariant c.in_ok-push_row_at.ensures

pub loop-place-init : goal.loop-place-init
loop-place-init c = none_more (line_at c.args.asked.now c.args.controller.now c.args.rows.now) (string_bytes c.args.text.now)
