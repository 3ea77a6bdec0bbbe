use Rattle.std.proofs.Common.{arith}
use Rattle.wl_record_core.specs.Limits.{most_edges-is}
use Rattle.wl_group.proofs.cell.Cell.next_slots.Goals as goal

pub overflow_add-result : goal.overflow_add-result
overflow_add-result c = let few = c.requires in omega (arith, most_edges-is)
