-- The nodes keep their samples as they did, step by step.
use Rattle.wl_serial.proofs.engine.Engine.run.Goals as goal

pub loop-j-preserved-in-Some-2 : goal.loop-j-preserved-in-Some-2
loop-j-preserved-in-Some-2 c = (c.in_ok-t.ensures.engine, λ k all. c.in_ok-t.ensures.keeps k (c.loop-j.invariant.1 k all))

pub loop-j-preserved : goal.loop-j-preserved
loop-j-preserved c = (c.in_ok-t.ensures.engine, λ k all. c.in_ok-t.ensures.keeps k (c.loop-j.invariant.1 k all))
