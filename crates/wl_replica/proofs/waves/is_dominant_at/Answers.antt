use Rattle.std.proofs.Common.{sym, ◌∙◌}
use Rattle.wl_replica.specs.Dense.{edges_of_row}
use Rattle.wl_replica.proofs.HalvingLemmas.{level_after}
use Rattle.wl_replica.proofs.RunLemmas.{level_of_run}
use Rattle.wl_replica.proofs.waves.is_dominant_at.Goals as goal

pub returns : goal.returns
returns c =
    let e = edges_of_row c.args.edges.now in
    let told = c.changes_up_to.ensures in
    sym (level_after e c.args.known.run.length c.changes_up_to.result c.args.tick told.few told.before told.after) ∙ level_of_run e c.requires.run.0 c.args.known c.requires.run.1 c.args.tick c.requires.known
