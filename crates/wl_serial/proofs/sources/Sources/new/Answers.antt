-- No node drives yet.
use Rattle.std.proofs.Common.{◌^◌, ◌-◌, length, refl, arith}
use Rattle.wl_topology.specs.Limits.{most_places}
use Rattle.wl_serial.proofs.Kept.{none_drives, nothing_comes, silent}
use Rattle.wl_serial.proofs.sources.Sources.new.Goals as goal

pub loop-i-init : goal.loop-i-init
loop-i-init c = nothing_comes most_places (2 ^ 64 - 1) refl (omega arith)

pub returns-clause-kept : goal.returns-clause-kept
returns-clause-kept c = record {
  nexts = c.loop-i.invariant.0;
  drives = refl;
  beyond = λ i past b. c.loop-i.invariant.2 i (omega (arith, past, c.loop-i.auto.i-end, c.nodes-i-end.ensures.value)) b;
  quiet = λ i past b. silent most_places i;
  driving = none_drives (length c.args.plan.now.nodes);
}
