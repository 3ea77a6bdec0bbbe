use Rattle.std.proofs.Common.{sym, subst, IsSomeAnd, ◌≤◌}
use Rattle.std.proofs.lemmas.Bool.{iff_false}
use Rattle.wl_intervals.specs.Pairs.{AreIntervals, last_end}
use Rattle.wl_intervals.proofs.PairLaws.{pushed}
use Rattle.wl_intervals.proofs.intervals.Intervals.push.Goals as goal

pub invariant_of-self : goal.invariant_of-self
invariant_of-self c =
    subst AreIntervals (sym c.push.ensures.items)
    (pushed _ c.args.from c.args.to _ c.self.invariant c.if-from-to.false
    (λ reaches. iff_false c.ends_at_or_after.ensures.last c.if-ends_at_or_after.false
    (subst (λ ps. IsSomeAnd (last_end ps) (λ end. c.args.from ≤ end)) c.self.view_is reaches)))
