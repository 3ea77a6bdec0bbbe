use Rattle.std.proofs.Common.{ap, List, length, ◌++◌}
use Rattle.std.proofs.lemmas.List.{drop-replicate}
use Rattle.wl_clock.specs.declared.Rate.{Rate}
use Rattle.wl_clock.specs.Timing.{most_rates}
use Rattle.wl_clock.specs.Padded.{spare}
use Rattle.wl_clock.proofs.filled.Goals as goal

pub returns : goal.returns
returns c = rw c.copy_from_slice.ensures.after (ap (λ (xs : List Rate). c.args.rates.now ++ xs) (drop-replicate (length c.args.rates.now) most_rates spare))
