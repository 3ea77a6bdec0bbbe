use Rattle.std.proofs.Common.{false, sym, subst}
use Rattle.wl_margin.specs.Margins.{IsHeadroom, unproved}
use Rattle.wl_margin.proofs.Judged.{without_proof}
use Rattle.wl_margin.proofs.searches.SearchResults.headroom.Goals as goal

pub returns : goal.returns
returns c = λ proved f are.
    let found = c.args.self.now in
    let both = without_proof proved f found.longer found.wider are.reached in
    let second = subst (λ w. IsHeadroom false f (unproved found.longer) w) (sym c.unproved-2.ensures) both in
    subst (λ l. IsHeadroom false f l c.unproved-2.result) (sym c.unproved.ensures) second
