use Rattle.std.proofs.Common.{◌≡◌, ◌∙◌, sym, subst, arith, nat_le, ℕ, rules}
use Rattle.std.proofs.lemmas.Bool.{leb-true, leb-false}
use Rattle.std.proofs.lemmas.List.Sorted.{IsPartitionPoint-from_clause, IsPartitionedBy-leb}
use Rattle.wl_intervals.specs.Pairs.{AreIntervals}
use Rattle.wl_intervals.specs.Search.{IsPlace}
use Rattle.wl_intervals.proofs.PairLaws.{ends_rise}
use Rattle.wl_intervals.proofs.intervals.Intervals.place_of.Goals as goal

pub returns-clause-place : goal.returns-clause-place
returns-clause-place c =
    let items = c.deref.result.now in
    let same : items ≡ c.args.self.now = c.deref.ensures.value ∙ c.self.view_is in
    let sorted : AreIntervals items = subst AreIntervals (sym c.deref.ensures.value) c.self.invariant in
    let parts = IsPartitionPoint-from_clause (λ (p : ℕ × ℕ). nat_le p.1 c.args.t) items c.partition_point.result c.partition_point.ensures.partitioned
    (IsPartitionedBy-leb (λ p. p.1) items c.args.t (λ i j d le lt. ends_rise 0 items i j d sorted le lt)) (search rules) in
    subst (λ ps. IsPlace ps c.args.t c.partition_point.result) same (record {
      inside = c.partition_point.ensures.bound;
      before = λ j below. leb-true _ _ (parts.0 j (0, 0) (omega arith) below);
      after = λ j from below. leb-false _ _ (parts.1 j (0, 0) from below);
    })
