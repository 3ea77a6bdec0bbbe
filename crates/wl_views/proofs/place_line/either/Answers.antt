-- As long as both stay, whether one of them is dominant stays.
use Rattle.std.proofs.Common.{◌∙◌, ◌||◌, ap₂, sym, arith}
use Rattle.wl_views.proofs.place_line.either.Goals as goal

pub returns-then-one-clause-both : goal.returns-then-one-clause-both
returns-then-one-clause-both c = λ f g t h k.
    let p = h.later in
    let q = k.later in
    record {
      later = omega arith;
      same = λ u from below. ap₂ (λ x y. x || y) (h.same u from (omega arith) ∙ c.if-one.true) (k.same u from (omega arith)) ∙ sym c.if-one.true;
    }

pub returns-else-one-clause-both : goal.returns-else-one-clause-both
returns-else-one-clause-both c = λ f g t h k.
    let p = h.later in
    let q = k.later in
    record {
      later = omega arith;
      same = λ u from below. ap₂ (λ x y. x || y) (h.same u from (omega arith) ∙ c.if-one.false) (k.same u from (omega arith));
    }
