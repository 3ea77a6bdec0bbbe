use Rattle.std.proofs.Common.{arith}
use Rattle.wl_sweep.proofs.Found.{tally_up}
use Rattle.wl_sweep.proofs.family.TextFamily.tally.Goals as goal

pub loop-done-preserved-in-Some : goal.loop-done-preserved-in-Some
loop-done-preserved-in-Some g c = record {
  low = omega arith;
  below = omega arith;
  tally =
      tally_up c.args.self.now.options c.args.self.now.text c.args.runs.from c.loop-done.done c.min-next.result c.loop-done.tally c.in_ok-batch.field-0 c.then-tally.result
      (omega arith) (omega arith) (omega arith) c.then-tally.ensures c.loop-done.invariant.tally c.in_ok-batch.ensures;
}

pub loop-done-preserved : goal.loop-done-preserved
loop-done-preserved g c = record {
  low = omega arith;
  below = omega arith;
  tally =
      tally_up c.args.self.now.options c.args.self.now.text c.args.runs.from c.loop-done.done c.min-next.result c.loop-done.tally c.in_ok-batch.field-0 c.then-tally.result
      (omega arith) (omega arith) (omega arith) c.then-tally.ensures c.loop-done.invariant.tally c.in_ok-batch.ensures;
}
