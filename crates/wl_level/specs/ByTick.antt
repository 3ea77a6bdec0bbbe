-- Values with their ticks, in the order of the ticks.
use Rattle.std.specs.Prelude.{ℕ, ◌==◌, List}
use Rattle.std.specs.List.{filter, flat_map, range_with_len}

-- tick by tick up to the end, and at each tick in their order (this project's profile)
abbrev pub by_tick : {X : Type 0} → ℕ → List (ℕ × X) → List (ℕ × X)
by_tick end xs = flat_map (λ t. filter (λ x. x.0 == t) xs) (range_with_len 0 end)
