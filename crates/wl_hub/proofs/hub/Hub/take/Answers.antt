use Rattle.std.proofs.Common.{arith}
use Rattle.wl_record_core.specs.Limits.{tick_end-is}
use Rattle.wl_hub.proofs.hub.Hub.take.Goals as goal

pub take_edge-requires-clause-small : goal.take_edge-requires-clause-small
take_edge-requires-clause-small g c = let w = rw c.in-Edge.is at c.requires.in_shape.1 in omega (arith, tick_end-is, w.2)
