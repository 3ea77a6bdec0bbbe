use Rattle.std.proofs.Common.{arith}
use Rattle.wl_spikes.proofs.Parts.{spikes_up}
use Rattle.wl_spikes.proofs.spike.Spikes.tally.Goals as goal

pub loop-done-preserved-in-Some-progress : goal.loop-done-preserved-in-Some-progress
loop-done-preserved-in-Some-progress g c = record {
  below = omega arith;
  tally =
      spikes_up c.args.self.now 0 c.loop-done.done c.min-next.result c.loop-done.tally c.in_ok-batch.field-0 c.then-tally.result
      (omega arith) (omega arith) (omega arith) c.then-tally.ensures c.loop-done.invariant.tally c.in_ok-batch.ensures;
}

pub loop-done-preserved : goal.loop-done-preserved
loop-done-preserved g c = record {
  below = omega arith;
  tally =
      spikes_up c.args.self.now 0 c.loop-done.done c.min-next.result c.loop-done.tally c.in_ok-batch.field-0 c.then-tally.result
      (omega arith) (omega arith) (omega arith) c.then-tally.ensures c.loop-done.invariant.tally c.in_ok-batch.ensures;
}
