use Rattle.std.proofs.Common.{◌≡◌, ◌+◌, ◌<◌, ◌^◌, ◌∙◌, sym, ap, subst, arith, length, take, IfSome}
use Rattle.std.proofs.Math.Seq.{take-length}
use Rattle.wl_intervals.specs.Pairs.{covers, AreIntervals, later_by, last_end}
use Rattle.wl_intervals.proofs.PairLaws.{end_fits, each_holds}
use Rattle.wl_intervals.proofs.SetLaws.{covers-later_by, covers_before_shift, intervals_later_by}
use Rattle.wl_intervals.proofs.intervals.Intervals.shift.Goals as goal

pub overflow_add-from : goal.overflow_add-from
overflow_add-from c =
    let same = c.deref-from-items.ensures.value ∙ c.self.view_is in
    let sorted : AreIntervals c.deref-from-items.result.now = subst AreIntervals (sym c.deref-from-items.ensures.value) c.self.invariant in
    let fits : IfSome (last_end c.deref-from-items.result.now) (λ end. end + c.args.d < 2 ^ 64) =
    subst (λ ps. IfSome (last_end ps) (λ end. end + c.args.d < 2 ^ 64)) (sym same) c.requires in
    let below = end_fits c.deref-from-items.result.now c.loop-from.from-index c.args.d (2 ^ 64) sorted (omega arith) fits in
    let holds = each_holds 0 c.deref-from-items.result.now c.loop-from.from-index sorted (omega arith) in
    omega (arith, below, holds)

pub overflow_add-to : goal.overflow_add-to
overflow_add-to c =
    let same = c.deref-from-items.ensures.value ∙ c.self.view_is in
    let sorted : AreIntervals c.deref-from-items.result.now = subst AreIntervals (sym c.deref-from-items.ensures.value) c.self.invariant in
    let fits : IfSome (last_end c.deref-from-items.result.now) (λ end. end + c.args.d < 2 ^ 64) =
    subst (λ ps. IfSome (last_end ps) (λ end. end + c.args.d < 2 ^ 64)) (sym same) c.requires in
    let below = end_fits c.deref-from-items.result.now c.loop-from.from-index c.args.d (2 ^ 64) sorted (omega arith) fits in
    omega (arith, below)

-- the whole list went through
whole : (c : goal.After-loop-from) → c.loop-from.pairs.items ≡ later_by c.args.d c.args.self.now
whole c =
    let same : length c.deref-from-items.result.now ≡ length c.args.self.now = ap length (c.deref-from-items.ensures.value ∙ c.self.view_is) in
    let end : c.loop-from.from-index ≡ length c.args.self.now = omega arith in
    c.loop-from.invariant ∙ ap (λ n. later_by c.args.d (take n c.args.self.now)) end ∙ ap (later_by c.args.d) (take-length c.args.self.now)

pub invariant_of-result : goal.invariant_of-result
invariant_of-result c = subst AreIntervals (sym (whole c)) (intervals_later_by c.args.d _ (subst AreIntervals c.self.view_is c.self.invariant))

pub returns-clause-ticks : goal.returns-clause-ticks
returns-clause-ticks c = λ t. ap (λ ps. covers ps (t + c.args.d)) (whole c) ∙ covers-later_by c.args.d c.args.self.now t

pub returns-clause-none_before : goal.returns-clause-none_before
returns-clause-none_before c =
    λ t early. ap (λ ps. covers ps t) (whole c) ∙ covers_before_shift c.args.d c.args.self.now t (subst AreIntervals c.self.view_is c.self.invariant) early
