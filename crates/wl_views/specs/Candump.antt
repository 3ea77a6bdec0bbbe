-- The log of can-utils, as its `candump -L` writes it and its `log2asc` and `log2long` read it: a line for each frame that was sent.
use Rattle.std.specs.Prelude.{ℕ, ◌+◌, ◌/◌, ◌%◌, ◌==◌, nat_lt, min, List, [], ◌∷◌, ◌++◌, codes, if◌then◌else◌}
use Rattle.std.specs.List.{filter, flat_map}
use Rattle.wl_frame.specs.Grammar.{Content}
use Rattle.wl_plan.specs.declared.plan.Plan.{Plan}
use Rattle.wl_serial.specs.declared.outcome.NodeTotals.{NodeTotals}
use Rattle.wl_serial.specs.Outcome.{outcome_of, totals_of}
use Rattle.wl_report.specs.Report.{id_digits}
use Rattle.wl_views.specs.declared.tick.Tick.{Tick}
use Rattle.wl_views.specs.Ticks.{microseconds}
use Rattle.wl_views.specs.Digits.{digits_of}
use Rattle.wl_views.specs.Windows.{is_within}
use Rattle.wl_views.specs.declared.window.Window.{Window}
use Rattle.wl_views.specs.SentFrames.{all_sent}
use Rattle.wl_level.specs.ByTick.{by_tick}

-- a data length code above 8, after the 8 that it means
abbrev pub code_word : ℕ → List ℕ
code_word dlc = if nat_lt 8 dlc then codes "_" ++ digits_of 16 1 dlc else []

-- what a remote frame asks for: nothing where the code is 0
abbrev pub wanted_word : ℕ → List ℕ
wanted_word dlc = if dlc == 0 then [] else digits_of 16 1 (min dlc 8) ++ code_word dlc

-- what comes after the identifier: an `R` and the code of a remote frame, and else the bytes
abbrev pub content_word : Content → List ℕ
content_word c = if c.remote then codes "R" ++ wanted_word c.dlc else flat_map (digits_of 16 2) c.bytes ++ code_word c.dlc

-- a time after so many seconds: seconds, and microseconds after a point
abbrev pub time_word : ℕ → ℕ → List ℕ
time_word from us = digits_of 10 10 (from + us / 1000000) ++ codes "." ++ digits_of 10 6 (us % 1000000)

-- a frame that was completed at a tick, if tick 0 is at this second
abbrev pub log_line : Tick → ℕ → ℕ × Content → List ℕ
log_line tick from (t, c) =
    codes "(" ++ time_word from (microseconds tick t) ++ codes ") can0 " ++ digits_of 16 (id_digits c.extended) c.id ++ codes "#" ++ content_word c ++ 10 ∷ []

-- the log of the frames that were sent within a window, tick by tick
abbrev pub log_of : Tick → ℕ → Window → Plan → List NodeTotals → List ℕ
log_of tick from window plan totals = flat_map (log_line tick from) (filter (λ s. is_within window s.0) (by_tick plan.end (all_sent plan totals)))

-- the log of what the one-thread simulation does within a window
abbrev pub log_text : Tick → ℕ → Window → Plan → List ℕ
log_text tick from window plan = log_of tick from window plan (totals_of (outcome_of plan))
