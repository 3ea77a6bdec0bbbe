-- The lines have heard nothing, whatever the nodes do.
use Rattle.std.proofs.Common.{subst}
use Rattle.wl_serial.specs.Running.{AreKnown}
use Rattle.wl_serial.proofs.engine.Engine.new.Goals as goal

pub returns-clause-engine : goal.returns-clause-engine
returns-clause-engine c = record {
  running = c.in_ok-nodes.ensures.running;
  lines = c.in_ok-lines.ensures.lines;
  heard = c.in_ok-lines.ensures.heard c.in_ok-nodes.nodes.items;
  known = subst (λ rs. AreKnown c.args.plan.now.end rs c.all_known-known.result) c.deref.ensures.value c.all_known-known.ensures;
}
