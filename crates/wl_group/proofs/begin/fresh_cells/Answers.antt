use Rattle.wl_group.proofs.BeginProofs.{one_more_ran, ran_length, one_more_cell, one_more_listing}
use Rattle.wl_group.proofs.begin.fresh_cells.Goals as goal

pub loop-i-preserved : goal.loop-i-preserved
loop-i-preserved c = (
  one_more_ran _ c.loop-i.cells.items c.push.new.self.items c.in_ok-fresh_cell.field-0 c.loop-i.i c.in_ok-push.ensures.items c.loop-i.invariant.0 c.in_ok-fresh_cell.ensures.ran,
  one_more_cell c.args.plan.now c.loop-i.cells.items c.push.new.self.items c.in_ok-fresh_cell.field-0 c.loop-i.i c.in_ok-push.ensures.items
      (ran_length _ c.loop-i.cells.items c.loop-i.i c.loop-i.invariant.0) c.loop-i.invariant.1 c.in_ok-fresh_cell.ensures.cell,
  one_more_listing c.args.lists c.loop-i.cells.items c.push.new.self.items c.in_ok-fresh_cell.field-0 c.loop-i.i c.in_ok-push.ensures.items
      (ran_length _ c.loop-i.cells.items c.loop-i.i c.loop-i.invariant.0) c.loop-i.invariant.2 c.in_ok-fresh_cell.ensures.keeps,
)
