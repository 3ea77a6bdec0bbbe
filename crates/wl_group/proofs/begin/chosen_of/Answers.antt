use Rattle.std.proofs.Common.{◌∙◌, false, ap, arith}
use Rattle.std.specs.Prelude.{slice_set}
use Rattle.std.proofs.Math.ListN.{length-set}
use Rattle.std.proofs.lemmas.List.{length-replicate}
use Rattle.wl_topology.specs.Limits.{most_places}
use Rattle.wl_group.specs.GroupValue.{names}
use Rattle.wl_group.specs.Chosen.{is_chosen}
use Rattle.wl_group.proofs.BeginProofs.{none_yet, one_more_chosen, all_chosen, names_past}
use Rattle.wl_group.proofs.begin.chosen_of.Goals as goal

pub loop-i-init : goal.loop-i-init
loop-i-init c = (none_yet (names c.args.members.now) most_places, length-replicate most_places false)

pub loop-i-preserved : goal.loop-i-preserved
loop-i-preserved c = (
  (λ j. ap (λ b. is_chosen (slice_set c.loop-i.chosen c.loop-i.i b) j) c.is_named.ensures
      ∙ one_more_chosen c.loop-i.chosen (names c.args.members.now) c.loop-i.i (let n = c.loop-i.invariant.1 in let t = c.loop-i-test.true in omega arith) c.loop-i.invariant.0 j),
  length-set c.loop-i.chosen c.loop-i.i c.is_named.result ∙ c.loop-i.invariant.1,
)

pub returns : goal.returns
returns c =
    all_chosen c.loop-i.chosen (names c.args.members.now) c.loop-i.i
    (λ j b. names_past c.args.members.now most_places j c.requires (let t = c.loop-i-test.false in omega arith)) c.loop-i.invariant.0
