-- A run in equal parts: how much was sent in each, and how many errors were found (this project's profile).
use Rattle.std.specs.Prelude.{ℕ, ◌+◌, ◌*◌, ◌/◌, Bool, ◌&&◌, nat_le, nat_lt, min, List, ◌++◌, codes, if◌then◌else◌}
use Rattle.std.specs.List.{flat_map, range_with_len, sum_by}
use Rattle.std.specs.Fmt.{decimal}
use Rattle.wl_frame.specs.Grammar.{Content}
use Rattle.wl_level.specs.ByTick.{by_tick}
use Rattle.wl_plan.specs.declared.plan.Plan.{Plan}
use Rattle.wl_serial.specs.Outcome.{outcome_of, totals_of}
use Rattle.wl_trace.specs.declared.event.Noted.{Noted}
use Rattle.std.specs.List.{filter}
use Rattle.wl_views.specs.Picks.{all_errors, is_picked}
use Rattle.wl_views.specs.SentFrames.{all_sent}
use Rattle.wl_views.specs.TraceText.{all_told}

abbrev pub is_between_ticks : ℕ → ℕ → ℕ → Bool
is_between_ticks from to t = nat_le from t && nat_lt t to

-- The bits of a frame without stuff bits, from start of frame to the end of the intermission after it: 47 without bytes, 67 of an extended frame
-- (Bosch CAN 2.0 part B, sections 3.1 and 3.2).
abbrev pub unstuffed_bits : Content → ℕ
unstuffed_bits c = (if c.extended then 67 else 47) + (if c.remote then 0 else 8 * min c.dlc 8)

-- how many frames were completed within some ticks, how many bits these have, and how many errors were found
abbrev pub frames_between : ℕ → ℕ → List (ℕ × Content) → ℕ
frames_between from to sent = sum_by (λ s. if is_between_ticks from to s.0 then 1 else 0) sent

abbrev pub bits_between : ℕ → ℕ → List (ℕ × Content) → ℕ
bits_between from to sent = sum_by (λ s. if is_between_ticks from to s.0 then unstuffed_bits s.1 else 0) sent

abbrev pub errors_between : ℕ → ℕ → List (ℕ × (ℕ × Noted)) → ℕ
errors_between from to errors = sum_by (λ e. if is_between_ticks from to e.0 then 1 else 0) errors

-- those of the ticks of a part
abbrev pub between_text : List (ℕ × Content) → List (ℕ × (ℕ × Noted)) → ℕ → ℕ → List ℕ
between_text sent errors from to =
    decimal (frames_between from to sent) ++ codes " " ++ decimal (bits_between from to sent) ++ codes " " ++ decimal (errors_between from to errors) ++ codes "\n"

-- the first tick of part k of a thousand, which is the end of the part before it
abbrev pub part_begin : ℕ → ℕ → ℕ
part_begin end k = k * end / 1000

abbrev pub part_line : ℕ → List (ℕ × Content) → List (ℕ × (ℕ × Noted)) → ℕ → List ℕ
part_line end sent errors k = between_text sent errors (part_begin end k) (part_begin end (k + 1))

-- a line for each part of a run
abbrev pub parts_by : ℕ → List (ℕ × Content) → List (ℕ × (ℕ × Noted)) → List ℕ
parts_by end sent errors = flat_map (part_line end sent errors) (range_with_len 0 1000)

abbrev pub thousandths_text : Plan → List ℕ
thousandths_text plan = parts_by plan.end (all_sent plan (totals_of (outcome_of plan))) (filter (is_picked all_errors) (by_tick plan.end (all_told plan)))
