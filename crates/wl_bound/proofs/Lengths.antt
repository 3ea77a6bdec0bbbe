-- A cable with a length takes the ticks of one unit of length at least.
use Rattle.std.proofs.Common.{◌≡◌, ℕ, zero, suc, ◌*◌, ◌<◌, ◌≤◌, ◌⊎◌, max, inl, inr, refl, arith}
use Rattle.std.specs.Int.{abs_diff}
use Rattle.wl_topology.specs.Delays.{place_at}
use Rattle.wl_bound.specs.Families.{Buses}
use Rattle.wl_bound.specs.Searches.{cable_ticks, each}
use Rattle.wl_bound.specs.Terms.{greatest}

-- nothing, or one step at least
abbrev pub IsSteps : ℕ → ℕ → Type 0
IsSteps per x = (x ≡ 0) ⊎ ((0 < per) × (per ≤ x))

times : (d per : ℕ) → IsSteps per (d * per)
times zero per = inl (omega arith)
times (suc d) zero = inl (omega arith)
times (suc d) (suc per) = inr (omega arith, omega arith)

of_two : (per a b : ℕ) → IsSteps per a → IsSteps per b → IsSteps per (max a b)
of_two per a b (inl e) (inl f) = inl (omega arith)
of_two per a b (inl e) (inr h) = inr (h.0, omega arith)
of_two per a b (inr h) f = inr (h.0, omega arith)

of_all : (per n : ℕ) (f : ℕ → ℕ) → ((i : ℕ) → IsSteps per (f i)) → IsSteps per (greatest n each f)
of_all per zero f h = inl refl
of_all per (suc n) f h = of_two per (greatest n each f) (f n) (of_all per n f h) (h n)

pub cable_steps : (f : Buses) → IsSteps f.cable.per (cable_ticks f)
cable_steps f =
    of_all f.cable.per _ _
    (λ i. of_all f.cable.per _ _ (λ j. times (abs_diff (place_at f.cable i).x (place_at f.cable j).x) f.cable.per))
