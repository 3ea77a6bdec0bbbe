-- Which part of a run a page shows (this project's profile).
use Rattle.std.specs.Prelude.{ℕ, ◌+◌, ◌-◌, ◌*◌, ◌/◌, ◌==◌, Bool, true, false, ◌&&◌, nat_lt, min, List, [], ◌++◌, codes, length, Option, Some, None, if◌then◌else◌}
use Rattle.std.specs.Fmt.{decimal}
use Rattle.wl_clock.specs.Timing.{tick_of}
use Rattle.wl_segments.specs.Lengths.{bit_quanta}
use Rattle.wl_plan.specs.declared.plan.Plan.{Plan}
use Rattle.wl_plan.specs.PlanLine.{setup_at}
use Rattle.wl_views.specs.declared.pick.Pick.{Pick}
use Rattle.wl_views.specs.declared.window.Span.{Span}
use Rattle.wl_views.specs.declared.window.Window.{Window}
use Rattle.wl_views.specs.Parts.{thousandths_text}
use Rattle.wl_views.specs.TraceText.{first_error_tick}
use Rattle.wl_views.specs.Windows.{span_of}
use Rattle.wl_engines.specs.declared.shown.TheConstants.{MOST_BITS}

-- a window that leaves out no tick
abbrev pub is_none : Option ℕ → Bool
is_none None = true
is_none (Some t) = false

abbrev pub is_whole_run : Window → Bool
is_whole_run window = window.from == 0 && is_none window.to

-- how many ticks ten bits of the first node take
abbrev pub ten_bits : Plan → ℕ
ten_bits plan = tick_of (setup_at plan 0).clock (10 * bit_quanta (setup_at plan 0).segments) - tick_of (setup_at plan 0).clock 0

-- The bits of all nodes together, by the first node's, are more than a page shows at once.
abbrev pub is_long_run : Plan → Bool
is_long_run plan = nat_lt (MOST_BITS * ten_bits plan) (10 * length plan.nodes * plan.end)

-- ten bits before an error and ten after it; or, if there is no error, the bits that a page shows
abbrev pub chosen_by : Plan → Option ℕ → Window
chosen_by plan (Some t) = record { from = t - ten_bits plan; to = Some (min (t + ten_bits plan) plan.end) }
chosen_by plan None = record { from = 0; to = Some (min (MOST_BITS * ten_bits plan / (10 * length plan.nodes)) plan.end) }

-- the window of a page: that which is asked for; if none is, and the run is long, the one around its first error
abbrev pub shown_window : Window → Plan → Window
shown_window window plan = if is_whole_run window && is_long_run plan then chosen_by plan (first_error_tick plan) else window

-- the same where a page is asked for by a window; else it shows all of the run
abbrev pub shown_by : Option Window → Plan → Window
shown_by None plan = record { from = 0; to = None }
shown_by (Some window) plan = shown_window window plan

-- the first tick that is shown, the one up to which it goes, and the end of the run
abbrev pub span_text : Span → ℕ → List ℕ
span_text span end = decimal span.from ++ codes " " ++ decimal span.to ++ codes " " ++ decimal end ++ codes "\n"

-- the run in a thousand parts
unfoldable pub run_parts : Plan → List ℕ
run_parts plan = thousandths_text plan

-- the ticks and these; nothing of a page that shows all
abbrev pub shown_text : Window → Plan → List ℕ
shown_text window plan = if is_whole_run window then [] else span_text (span_of window plan.end) plan.end ++ run_parts plan

-- the events of a window, whatever they are
abbrev pub pick_of : Window → Pick
pick_of window = record { window = window; node = None; only = None }
