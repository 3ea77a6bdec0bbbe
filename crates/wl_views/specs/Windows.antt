-- A part of a run: the ticks from one on, and below another if there is one (this project's profile).
use Rattle.std.specs.Prelude.{ℕ, ◌-◌, Bool, true, ◌&&◌, nat_le, nat_lt, min, max, Option, Some, None}
use Rattle.wl_views.specs.declared.window.Span.{Span}
use Rattle.wl_views.specs.declared.window.Window.{Window}

-- a tick is below this one, if there is one
abbrev pub is_below : Option ℕ → ℕ → Bool
is_below None t = true
is_below (Some to) t = nat_lt t to

-- a window has this tick
abbrev pub is_within : Window → ℕ → Bool
is_within window t = nat_le window.from t && is_below window.to t

-- the end of a run, or the window's if that comes first
abbrev pub end_within : Option ℕ → ℕ → ℕ
end_within None end = end
end_within (Some to) end = min to end

-- the ticks that a dump of a window has: from its first tick, or the last one of the run if that comes first, and below the other
abbrev pub span_of : Window → ℕ → Span
span_of window end = record {
  from = min window.from (end - 1);
  to = max (min window.from (end - 1)) (end_within window.to end);
}
