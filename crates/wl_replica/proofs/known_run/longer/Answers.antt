use Rattle.std.proofs.Common.{sym, ◌∙◌, arith}
use Rattle.wl_record_core.specs.Limits.{most_edges-is, tick_end-is}
use Rattle.wl_replica.proofs.known_run.longer.Goals as goal

pub overflow_add-result : goal.overflow_add-result
overflow_add-result c =
    let within = c.requires.within c.args.run.length c.in-Value.tick (sym c.edge_at.ensures ∙ c.in-Value.is) in
    omega (arith, within.0, most_edges-is)

pub overflow_add-result-2 : goal.overflow_add-result-2
overflow_add-result-2 c =
    let within = c.requires.within c.args.run.length c.in-Value.tick (sym c.edge_at.ensures ∙ c.in-Value.is) in
    omega (arith, within.1, tick_end-is)
