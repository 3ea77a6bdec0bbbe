use Rattle.std.proofs.Common.{refl, arith}
use Rattle.wl_setup.specs.Names.{names_of}
use Rattle.wl_setup.proofs.NameLemmas.{one_more, repeats_left-none}
use Rattle.wl_setup.proofs.plan_text.PlanText.placed_names.Goals as goal

pub loop-node-init : goal.loop-node-init
loop-node-init c = rw (c.as_slice-node-items.ensures, c.new-names.ensures) (refl, repeats_left-none (names_of c.args.self.now), omega arith)

pub loop-node-preserved : goal.loop-node-preserved
loop-node-preserved c =
    one_more c.as_slice-node-items.result.now c.loop-node.node-index c.node-item.result c.loop-node.names c.add.new.self _ c.as_str.result.now c.in_ok-add.field-0
    c.loop-node-test.true c.node-item.is c.as_str.ensures c.in_ok-add.ensures.added c.if-not-branch.false c.in_ok-add.ensures.names c.loop-node.invariant
