use Rattle.wl_bound.proofs.Sound.{any_of, any_to, one_of, one_to}
use Rattle.wl_bound.proofs.laws.condition_laws.Goals as goal

pub returns : goal.returns
returns c = record { any = λ f s. (any_to f s, any_of f s); one = λ f s. (one_to f s, one_of f s) }
