use Rattle.std.proofs.Common.{◌+◌, sym, subst}
use Rattle.wl_intervals.specs.Search.{IsMerged}
use Rattle.wl_intervals.proofs.JoinLaws.{merged_left, merged_right}
use Rattle.wl_intervals.proofs.intervals.merged.Goals as goal

pub loop-i-preserved-then-left_is_next : goal.loop-i-preserved-then-left_is_next
loop-i-preserved-then-left_is_next c =
    subst (IsMerged c.args.left.now c.args.right.now (c.loop-i.i + 1) c.loop-i.j) (sym c.in_ok-absorb.ensures)
    (merged_left _ _ _ _ _ c.requires.left c.loop-i.invariant (c.left_is_next.ensures.left c.if-left_is_next.true))

pub loop-i-preserved : goal.loop-i-preserved
loop-i-preserved c =
    subst (IsMerged c.args.left.now c.args.right.now c.loop-i.i (c.loop-i.j + 1)) (sym c.in_ok-absorb-2.ensures)
    (merged_right _ _ _ _ _ c.requires.right c.loop-i.invariant (c.left_is_next.ensures.right c.if-left_is_next.false))
