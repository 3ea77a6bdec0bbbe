-- The limit of calls, in numbers.
use Rattle.std.specs.Prelude.{◌≡◌, ℕ, ◌^◌, refl}
use Rattle.wl_device.specs.Limits.{most_calls}

calls_are : most_calls ≡ 2 ^ 28
unfolding most_calls
calls_are = refl
