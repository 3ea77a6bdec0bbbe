use Rattle.std.proofs.Common.{◌≡◌, ◌∙◌, sym, ap, Some}
use Rattle.wl_intervals.specs.Pairs.{last_end}
use Rattle.wl_intervals.proofs.PairLaws.{last_end_at}
use Rattle.wl_intervals.proofs.intervals.Intervals.end.Goals as goal

pub returns-in-Some-clause-end : goal.returns-in-Some-clause-end
returns-in-Some-clause-end c =
    let item = c.in-Some.ensures.item in
    sym (ap last_end (sym (c.deref.ensures.value ∙ c.self.view_is)) ∙ last_end_at c.deref.result.now (0, 0) item.3.0 ∙ ap (λ p. Some p.1) (sym (item.3.1 (0, 0))))
