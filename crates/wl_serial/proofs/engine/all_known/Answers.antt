-- The tick of each node stands at its number.
use Rattle.std.proofs.Common.{◌^◌, ◌-◌, refl, ap, arith}
use Rattle.std.proofs.lemmas.List.{get_or_default}
use Rattle.wl_topology.specs.Limits.{most_places}
use Rattle.wl_serial.proofs.Known.{none_known, known_more}
use Rattle.wl_serial.proofs.engine.all_known.Goals as goal

pub loop-i-init : goal.loop-i-init
loop-i-init c = none_known c.args.plan.now.end most_places (2 ^ 64 - 1) c.args.running.now refl (let ends = c.laws.ensures.checked.ends in omega (arith, ends))

pub loop-i-preserved : goal.loop-i-preserved
loop-i-preserved c =
    known_more c.args.plan.now.end c.args.running.now c.loop-i.known c.loop-i.i _ (omega (arith, c.loop-i-test.true, c.requires.running.all, c.laws.ensures.checked.few_nodes, c.loop-i.invariant.0))
    c.loop-i.invariant (λ r. ap (λ x. x.known) (get_or_default c.args.running.now c.loop-i.i c.index-running-i.result r c.loop-i-test.true))
