use Rattle.std.proofs.Common.{rules, ◌≡◌}
use Rattle.std.proofs.lemmas.Fn.{always_returns_same}
use Rattle.wl_settings.specs.Rankings.{row_rank}
use Rattle.wl_settings.proofs.listing.sort_by_rank.Goals as goal

pub returns-clause-order : goal.returns-clause-order
returns-clause-order c = c.in_ok-sort_by_key.ensures.sorted row_rank (always_returns_same _ (λ a r. r ≡ row_rank a.0.now) _ (λ a r q k. search rules))
