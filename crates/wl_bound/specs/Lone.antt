-- The left side of the condition for one sender at a time, as it is worked out: the greatest over the senders, each of them alone. This project's.
use Rattle.std.specs.Prelude.{ℕ, ◌+◌, ◌-◌, ◌*◌, ◌==◌, ◌&&◌, if◌then◌else◌}
use Rattle.wl_bound.specs.declared.condition.Inequality.{Inequality}
use Rattle.wl_bound.specs.declared.condition.Inequality.TheVariants.{DriftFitsJump, BitIsThereAtSample, NoBitTooEarly}
use Rattle.wl_bound.specs.Families.{Bus}
use Rattle.wl_bound.specs.Terms.{ahead, drift, look, strays, there_and_back, way}

-- what a lone sender takes beyond there and back to itself, if i and j are that sender
abbrev pub own_pull : Bus → ℕ → ℕ → ℕ
own_pull b i j = if (i == j) && b.sends i then b.longest j + b.tick - there_and_back b i j else 0

-- Nobody pulls a lone sender forward, and nobody has to catch up with it. So it counts by the way of its edges alone.
abbrev pub left_of_lone : Bus → Inequality → ℕ → ℕ → ℕ
left_of_lone b DriftFitsJump i j = 10 * drift b i j + own_pull b i j
left_of_lone b BitIsThereAtSample i j = if i == j then b.delay i i + b.turns i else way b i j + 11 * strays b j + ahead b j
left_of_lone b NoBitTooEarly i j = look b j + 10 * drift b i j + b.tick + ahead b i
