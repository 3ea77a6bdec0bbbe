-- A row that ends with the next tick is the next quantum.
use Rattle.std.proofs.Common.{◌+◌, arith}
use Rattle.wl_record_core.specs.Limits.{tick_end-is}
use Rattle.wl_group.proofs.OverProofs.{next_before, up_to_next}
use Rattle.wl_group.proofs.group.Group.run_next.Goals as goal

pub overflow_add-next : goal.overflow_add-next
overflow_add-next c =
    let less = (next_before c.args.self.now c.args.i c.requires).0 in
    let small = (c.checked_is_sound.ensures c.args.self.now.plan c.plan.ensures.holds.checked).end_fits in
    omega (arith, less, small, c.due-next.ensures, tick_end-is)

pub run_row-requires-clause-known : goal.run_row-requires-clause-known
run_row-requires-clause-known c = up_to_next c.args.self.now c.args.i (c.due-next.result + 1) c.requires (omega (arith, c.due-next.ensures))
