-- What the condition says: no inequality fails exactly if all three hold for each pair.
use Rattle.std.specs.Prelude.{◌≡◌, ℕ, ◌<◌, ◌↔◌, true, length, None}
use Rattle.wl_bound.specs.declared.condition.Senders.TheVariants.{Any, One}
use Rattle.wl_bound.specs.declared.family.Setting.{Setting}
use Rattle.wl_bound.specs.declared.family.Source.TheVariants.{Alone}
use Rattle.wl_bound.specs.Families.{Buses, bus_of, member_at}
use Rattle.wl_bound.specs.Conditions.{IsSound, first_failure_of}

pub record ConditionLaws : Type 0 where
  -- for any senders
  pub any : (f : Buses) (s : Setting) → (first_failure_of f s Any ≡ None) ↔ IsSound (bus_of f s)
  -- for one sender at a time: whichever it is
  pub one : (f : Buses) (s : Setting) → (first_failure_of f s One ≡ None)
      ↔ ((a : ℕ) → a < length f.members → (member_at f a).sends ≡ true → IsSound (bus_of f (record s { source = Alone a })))
