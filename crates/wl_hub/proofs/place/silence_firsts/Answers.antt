use Rattle.std.proofs.Common.{◌∙◌, ap, arith}
use Rattle.std.specs.Prelude.{unwrap_or}
use Rattle.std.proofs.Math.ListN.{length-set}
use Rattle.wl_hub.specs.Words.{silence_widths}
use Rattle.wl_hub.proofs.Shapes.{one_more_first}
use Rattle.wl_hub.proofs.place.silence_firsts.Goals as goal

pub loop-node-preserved : goal.loop-node-preserved
loop-node-preserved c = (
  length-set c.loop-node.firsts c.loop-node.node c.unwrap_or.result ∙ c.loop-node.invariant.0,
  one_more_first (silence_widths c.args.shape.now) c.loop-node.firsts c.loop-node.node c.unwrap_or.result
      (let n = c.loop-node.invariant.0 in let t = c.loop-node-test.true in omega arith)
      (c.unwrap_or.ensures ∙ ap (λ o. unwrap_or o 0) c.silence_place.ensures.place) c.loop-node.invariant.1,
)
