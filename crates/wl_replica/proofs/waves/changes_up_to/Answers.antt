use Rattle.std.proofs.Common.{◌+◌, ◌-◌, ◌/◌, arith}
use Rattle.wl_replica.specs.Dense.{edges_of_row}
use Rattle.wl_replica.proofs.HalvingLemmas.{run_climbs, middle_below}
use Rattle.wl_replica.proofs.waves.changes_up_to.Goals as goal

pub loop-low-preserved-then-tick_at-tick : goal.loop-low-preserved-then-tick_at-tick
loop-low-preserved-then-tick_at-tick c =
    let e = edges_of_row c.args.edges.now in
    let inv = c.loop-low.invariant in
    let m = c.loop-low.low + (c.loop-low.high - c.loop-low.low) / 2 in
    let below = middle_below c.loop-low.low c.loop-low.high c.loop-low-test.true in
    record {
      order = omega (arith, below);
      few = inv.few;
      before = λ n lt. (let climb = run_climbs e c.requires.0 c.args.known.run.length m n c.requires.1.run (omega (arith, below, inv.few)) (omega arith) in omega (arith, climb, c.tick_at.ensures, c.if-tick_at-tick.true));
      after = inv.after;
    }

pub loop-low-preserved : goal.loop-low-preserved
loop-low-preserved c =
    let e = edges_of_row c.args.edges.now in
    let inv = c.loop-low.invariant in
    let m = c.loop-low.low + (c.loop-low.high - c.loop-low.low) / 2 in
    let below = middle_below c.loop-low.low c.loop-low.high c.loop-low-test.true in
    record {
      order = omega arith;
      few = omega (arith, below, inv.few);
      before = inv.before;
      after = λ n le lt. (let climb = run_climbs e c.requires.0 c.args.known.run.length n m c.requires.1.run lt le in omega (arith, climb, c.tick_at.ensures, c.if-tick_at-tick.false));
    }
