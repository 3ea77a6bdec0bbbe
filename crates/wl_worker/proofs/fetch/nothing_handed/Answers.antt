-- None of a number's changes was handed over.
use Rattle.std.proofs.Common.{ℕ, ◌<◌, subst}
use Rattle.std.proofs.lemmas.List.{get_or-replicate, length-replicate}
use Rattle.wl_topology.specs.Limits.{most_places}
use Rattle.wl_worker.proofs.fetch.nothing_handed.Goals as goal

pub returns : goal.returns
returns c k d b = get_or-replicate {A = ℕ} most_places k 0 d (subst (λ n. k < n) (length-replicate {A = ℕ} most_places 0) b)
