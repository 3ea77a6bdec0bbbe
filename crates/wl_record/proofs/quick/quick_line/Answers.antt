use Rattle.std.proofs.Common.{arith, ◌+◌}
use Rattle.wl_device.proofs.Runs.{slice_from}
use Rattle.wl_record.proofs.QuickLemmas.{three_there}
use Rattle.wl_record.proofs.quick.quick_line.Goals as goal

pub returns : goal.returns
returns c =
    let told = c.in_ok-told in
    let tick = c.in_ok-tick in
    three_there c.args.limits c.args.bytes.now told.told c.in_ok-node.at c.in_ok-place.at tick.at c.in_ok-node.node c.in_ok-place.place tick.tick (omega arith) told.ensures.letter told.ensures.numbers told.ensures.within
    c.in_ok-node.ensures.field c.in_ok-place.ensures.field tick.ensures.field (omega (arith, tick.ensures.within, c.in_ok-place.ensures.within, c.in_ok-node.ensures.within)) tick.ensures.end _ (slice_from (tick.at + 1) c.args.bytes.now)
