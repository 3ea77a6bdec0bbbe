use Rattle.std.proofs.Common.{◌-◌, ◌+◌, sym}
use Rattle.wl_replica.specs.Dense.{edges_of_row}
use Rattle.wl_replica.specs.Known.{ticks_from}
use Rattle.wl_replica.proofs.DenseWalks.{one_left}
use Rattle.wl_replica.proofs.WaveAfter.{made_on}
use Rattle.wl_replica.proofs.WaveLemmas.{made_more, can_close}
use Rattle.wl_replica.proofs.waves.wave_of.Goals as goal

pub loop-place-init : goal.loop-place-init
loop-place-init c = made_on (edges_of_row c.args.edges.now) c.requires.run.0 c.args.known c.requires.run.1 c.args.first c.requires.first c.new-set.result c.new-set.ensures

pub flip-requires-clause-since : goal.flip-requires-clause-since
flip-requires-clause-since c =
    let e = edges_of_row c.args.edges.now in
    let n = c.args.known.run.length in
    let all = ticks_from e c.args.first (n - c.args.first) in
    (can_close all c.args.known.horizon c.loop-place.set c.loop-place.since c.tick_at.result (ticks_from e (c.loop-place.place + 1) (n - (c.loop-place.place + 1)))
    (one_left e all c.args.known.horizon c.loop-place.place n c.tick_at.result c.loop-place.set c.loop-place.since c.loop-place-test.true (sym c.tick_at.ensures) c.loop-place.invariant)).0

pub loop-place-preserved : goal.loop-place-preserved
loop-place-preserved c =
    let e = edges_of_row c.args.edges.now in
    let n = c.args.known.run.length in
    let all = ticks_from e c.args.first (n - c.args.first) in
    made_more all c.args.known.horizon c.loop-place.set c.loop-place.since c.in_ok-since.since c.flip.new.set c.tick_at.result (ticks_from e (c.loop-place.place + 1) (n - (c.loop-place.place + 1)))
    (one_left e all c.args.known.horizon c.loop-place.place n c.tick_at.result c.loop-place.set c.loop-place.since c.loop-place-test.true (sym c.tick_at.ensures) c.loop-place.invariant)
    c.in_ok-since.ensures.opened c.in_ok-since.ensures.closed
