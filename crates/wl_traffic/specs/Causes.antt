-- The lines before the verdict: which messages are late, and which nodes are deaf (this project's profile).
use Rattle.std.specs.Prelude.{ℕ, Bool, true, false, List, [], ◌∷◌, ◌++◌, codes, length, if◌then◌else◌}
use Rattle.std.specs.Fmt.{decimal}
use Rattle.std.specs.List.{flat_map, enumerate_from, list_any}
use Rattle.wl_margin.specs.Pieces.{joined}
use Rattle.wl_report.specs.Lines.{hexadecimal}
use Rattle.wl_report.specs.Report.{id_digits}
use Rattle.wl_serial.specs.declared.outcome.NodeTotals.{NodeTotals}
use Rattle.wl_setup.specs.Names.{name_of}
use Rattle.wl_views.specs.declared.tick.Tick.{Tick}
use Rattle.wl_views.specs.Ticks.{microseconds}
use Rattle.wl_plan.specs.declared.plan.Plan.{Plan}
use Rattle.wl_traffic.specs.declared.found.Found.{Found}
use Rattle.wl_traffic.specs.declared.late.LateMessage.{LateMessage}
use Rattle.wl_traffic.specs.declared.reason.Reason.{Reason}
use Rattle.wl_traffic.specs.declared.reason.Reason.TheVariants.{Overloaded, Starved, Deaf}
use Rattle.wl_traffic.specs.Entries.{node_queues}
use Rattle.wl_traffic.specs.Bus.{bus_load}
use Rattle.wl_traffic.specs.Late.{late_messages}
use Rattle.wl_traffic.specs.Unequal.{unequal_deliveries}
use Rattle.wl_traffic.specs.Reasons.{is_stuck, misses_frames, most_passed, reason_of}

-- other nodes sent while its late frames waited, or its node alone asks for more than the bus has
abbrev pub late_word : (beaten : Bool) → List ℕ
late_word true = codes "starved"
late_word false = codes "overloads"

abbrev pub late_head : List (List ℕ) → LateMessage → List ℕ
late_head names m =
    joined (late_word m.beaten ∷ codes " " ∷ name_of names m.node ∷ codes " " ∷ hexadecimal (id_digits m.frame.extended) m.frame.id ∷ [])

-- for how long its frames wait at most, and for how long they may
abbrev pub late_times : (waited allowed : ℕ) → List ℕ
late_times waited allowed = joined (codes " waits " ∷ decimal waited ∷ codes " us allowed " ∷ decimal allowed ∷ codes " us\n" ∷ [])

-- a late message
abbrev pub line_of_late : Tick → List (List ℕ) → LateMessage → List ℕ
line_of_late tick names m = late_head names m ++ late_times (microseconds tick m.waited) (microseconds tick m.allowed)

abbrev pub late_lines : Tick → List (List ℕ) → List LateMessage → List ℕ
late_lines tick names late = flat_map (line_of_late tick names) late

-- for how many microseconds at the end the bus had no pause
abbrev pub full_words : ℕ → List ℕ
full_words time = joined (codes "full for the last " ∷ decimal time ∷ codes " us\n" ∷ [])

-- that, if a late frame waits there
abbrev pub full_line : Tick → (full : ℕ) → List LateMessage → List ℕ
full_line tick full late = if list_any (is_stuck full) late then full_words (microseconds tick full) else []

-- a node that missed frames: how many passed through it, and how many through the node through which most did
abbrev pub deaf_line : List (List ℕ) → (most : ℕ) → ℕ × NodeTotals → List ℕ
deaf_line names most (i, n) =
    if misses_frames most n
    then joined (codes "deaf " ∷ name_of names i ∷ codes " " ∷ decimal (length n.frames) ∷ codes " of " ∷ decimal most ∷ codes " frames\n" ∷ [])
    else []

abbrev pub deaf_lines : List (List ℕ) → List NodeTotals → List ℕ
deaf_lines names nodes = flat_map (deaf_line names (most_passed nodes)) (enumerate_from 0 nodes)

-- what is found of a run
abbrev pub found_of : Plan → Found
found_of plan = record {
  load = bus_load plan;
  late = late_messages (node_queues plan);
  unequal = unequal_deliveries (node_queues plan);
  reason = reason_of plan;
}

-- the lines of a reason
abbrev pub lines_by : Tick → List (List ℕ) → Found → List NodeTotals → Reason → List ℕ
lines_by tick names found nodes Overloaded = full_line tick found.load.full found.late ++ late_lines tick names found.late
lines_by tick names found nodes Starved = late_lines tick names found.late
lines_by tick names found nodes Deaf = deaf_lines names nodes
lines_by tick names found nodes reason = []

abbrev pub cause_lines : Tick → List (List ℕ) → Found → List NodeTotals → List ℕ
cause_lines tick names found nodes = lines_by tick names found nodes found.reason
