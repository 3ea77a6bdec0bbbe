use Rattle.std.proofs.Common.{sym}
use Rattle.wl_sweep.proofs.Joining.{tally-joined}
use Rattle.wl_sweep.proofs.tally.Tally.then.Goals as goal

pub returns : goal.returns
returns c xs ys one other small =
    rw (c.saturating_add.ensures, c.saturating_add-2.ensures, c.saturating_add-3.ensures, c.saturating_add-4.ensures, c.or.ensures, c.or-2.ensures, c.shifted.ensures, c.shifted-2.ensures, one, other)
    (sym (tally-joined xs ys small))
