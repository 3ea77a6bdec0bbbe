use Rattle.std.proofs.Common.{◌-◌, sym, ◌∙◌, arith}
use Rattle.wl_record_core.specs.Limits.{tick_end-is}
use Rattle.wl_replica.proofs.known_run.first_of.Goals as goal

pub overflow_add-end : goal.overflow_add-end
overflow_add-end c =
    let within = c.requires (c.args.count - 1) c.in-Value.tick (sym c.edge_at.ensures ∙ c.in-Value.is) in
    omega (arith, within.1, tick_end-is)
