-- What a search rests on: the condition only gets harder with a longer cable or wider tolerances.
use Rattle.std.specs.Prelude.{◌≡◌, ℕ, ◌≤◌, true}
use Rattle.wl_bound.specs.declared.condition.Senders.{Senders}
use Rattle.wl_bound.specs.declared.search.Growth.{Growth}
use Rattle.wl_bound.specs.Families.{Buses}
use Rattle.wl_bound.specs.Searches.{holds_grown}

pub record SearchLaws : Type 0 where
  pub less : (f : Buses) (senders : Senders) (growth : Growth) (n m : ℕ) → n ≤ m → holds_grown f senders growth m ≡ true
      → holds_grown f senders growth n ≡ true
