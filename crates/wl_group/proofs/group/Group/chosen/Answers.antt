use Rattle.std.proofs.Common.{◌∙◌, false, ap, arith}
use Rattle.std.specs.Prelude.{slice_set}
use Rattle.std.proofs.Math.ListN.{length-set}
use Rattle.std.proofs.lemmas.List.{length-replicate}
use Rattle.wl_topology.specs.Limits.{most_places}
use Rattle.wl_group.specs.GroupValue.{belongs}
use Rattle.wl_group.specs.Chosen.{is_chosen}
use Rattle.wl_group.proofs.BeginProofs.{none_yet, one_more_chosen}
use Rattle.wl_group.proofs.group.Group.chosen.Goals as goal

pub loop-i-init : goal.loop-i-init
loop-i-init c = (none_yet (belongs c.args.self.now) most_places, length-replicate most_places false)

pub loop-i-preserved : goal.loop-i-preserved
loop-i-preserved c = (
  (λ j. ap (λ b. is_chosen (slice_set c.loop-i.chosen c.loop-i.i b) j) c.has.ensures
      ∙ one_more_chosen c.loop-i.chosen (belongs c.args.self.now) c.loop-i.i (let n = c.loop-i.invariant.1 in let t = c.loop-i-test.true in omega arith) c.loop-i.invariant.0 j),
  length-set c.loop-i.chosen c.loop-i.i c.has.result ∙ c.loop-i.invariant.1,
)
