use Rattle.std.proofs.Common.{sym}
use Rattle.wl_spikes.proofs.Joined.{class-joined}
use Rattle.wl_spikes.proofs.tally.ClassTally.then.Goals as goal

pub returns : goal.returns
returns c class xs ys one other runs small =
    rw (c.saturating_add.ensures, c.or.ensures, c.moved_on.ensures, one, other, runs) (sym (class-joined class xs ys small))
