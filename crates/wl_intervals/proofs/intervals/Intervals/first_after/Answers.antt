use Rattle.std.proofs.Common.{◌≡◌, ◌∙◌, ap, is_some, length, nat_lt, unwrap_or, get_or, arith}
use Rattle.wl_intervals.proofs.PairLaws.{found_first, found_none, is_some-mapped}
use Rattle.wl_intervals.proofs.intervals.Intervals.first_after.Goals as goal

some : (c : goal.After-copied) → is_some c.copied.result ≡ nat_lt c.place_of.result (length c.args.self.now)
some c =
    ap is_some c.copied.ensures ∙ is_some-mapped (λ x. x.now) c.get.result ∙ c.get.ensures.lookup.0
    ∙ ap (λ xs. nat_lt c.place_of.result (length xs)) (c.deref.ensures.value ∙ c.self.view_is)

pub returns-clause-found : goal.returns-clause-found
returns-clause-found c =
    found_first _ _ _ c.place_of.result c.place_of.ensures.intervals c.place_of.ensures.place (some c)
    (ap (λ r. unwrap_or r (0, 0)) c.copied.ensures ∙ c.get.ensures.lookup.4 (omega arith) (0, 0)
    ∙ ap (λ xs. get_or xs c.place_of.result (0, 0)) (c.deref.ensures.value ∙ c.self.view_is))

pub returns-clause-none : goal.returns-clause-none
returns-clause-none c = found_none _ _ _ c.place_of.result c.place_of.ensures.place (some c)
