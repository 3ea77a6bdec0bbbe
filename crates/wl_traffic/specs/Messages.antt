-- The lines of messages: the frames of one identifier of one node (this project's profile).
use Rattle.std.specs.Prelude.{ℕ, ◌*◌, ◌/◌, ◌==◌, ◌&&◌, min, max, Bool, true, false, not, List, [], ◌∷◌, ◌++◌, codes, length, take, fold, sum, count_by, slice_index, is_some, Option, if◌then◌else◌}
use Rattle.std.specs.List.{filter, list_any, sum_by, enumerate_from, flat_map}
use Rattle.std.specs.Fmt.{decimal}
use Rattle.wl_clock.specs.Timing.{Timing}
use Rattle.wl_margin.specs.Pieces.{each_below, hundredths, joined}
use Rattle.wl_frame.specs.Grammar.{Content}
use Rattle.wl_plan.specs.declared.plan.Plan.{Plan}
use Rattle.wl_plan.specs.PlanLine.{setup_at}
use Rattle.wl_report.specs.Lines.{hexadecimal}
use Rattle.wl_report.specs.Report.{id_digits}
use Rattle.wl_serial.specs.Outcome.{node_outcome_of}
use Rattle.wl_setup.specs.Names.{name_of}
use Rattle.wl_views.specs.declared.tick.Tick.{Tick}
use Rattle.wl_traffic.specs.declared.entries.Entry.{Entry}
use Rattle.wl_traffic.specs.Entries.{entries_of}
use Rattle.wl_traffic.specs.Waits.{final_sample, most_waiting, quanta_waited, time_waited}

-- the least and the greatest of some numbers, and their mean in hundredths, rounded down
abbrev pub least_of : List ℕ → ℕ
least_of values = fold min (slice_index values 0) values

abbrev pub greatest_of : List ℕ → ℕ
greatest_of values = fold max (slice_index values 0) values

abbrev pub mean_hundredths : List ℕ → ℕ
mean_hundredths values = sum values * 100 / length values

abbrev pub statistics_words : List ℕ → List ℕ
statistics_words values =
    if length values == 0 then codes "least - mean - greatest -"
    else joined (codes "least " ∷ decimal (least_of values) ∷ codes " mean " ∷ hundredths (mean_hundredths values) ∷ codes " greatest "
    ∷ decimal (greatest_of values) ∷ [])

abbrev pub same_flag : Bool → Bool → Bool
same_flag true b = b
same_flag false b = not b

-- frames have one identifier, in one format
abbrev pub has_id_of : Content → Entry → Bool
has_id_of c e = same_flag c.extended e.frame.extended && (c.id == e.frame.id)

-- the frames of a queue with an identifier
abbrev pub with_id_of : Content → List Entry → List Entry
with_id_of c entries = filter (has_id_of c) entries

abbrev pub is_sent_entry : Entry → Bool
is_sent_entry e = is_some e.sent

abbrev pub is_left_entry : Entry → Bool
is_left_entry e = not (is_some e.sent)

-- what became of them, and how many waited at once
abbrev pub message_counts : Option ℕ → List Entry → List ℕ
message_counts last mine =
    joined (codes " sent " ∷ decimal (count_by is_sent_entry mine) ∷ codes " left " ∷ decimal (count_by is_left_entry mine)
    ∷ codes " waiting " ∷ decimal (most_waiting last mine) ∷ codes " lost " ∷ decimal (sum_by (λ e. e.lost) mine)
    ∷ codes " broken " ∷ decimal (sum_by (λ e. e.broken) mine) ∷ [])

-- how long they waited
abbrev pub wait_words : Tick → Timing → List Entry → List ℕ
wait_words tick clock mine =
    joined (codes " quanta " ∷ statistics_words (quanta_waited mine) ∷ codes " us " ∷ statistics_words (time_waited tick clock mine) ∷ codes "\n" ∷ [])

-- a node and an identifier
abbrev pub message_words : List (List ℕ) → ℕ → Content → List ℕ
message_words names i c =
    joined (codes "message " ∷ decimal i ∷ codes " " ∷ name_of names i ∷ codes " " ∷ hexadecimal (id_digits c.extended) c.id ∷ [])

module _ (tick : Tick) (plan : Plan) (names : List (List ℕ)) (i : ℕ) where
  abbrev pub message_line : Content → List Entry → List ℕ
  message_line c mine =
      message_words names i c ++ message_counts (final_sample (node_outcome_of plan i).samples) mine ++ wait_words tick (setup_at plan i).clock mine

  -- an entry that is the first of its identifier has the line of all of them
  abbrev pub line_at : List Entry → ℕ × Entry → List ℕ
  line_at entries (k, e) =
      if list_any (has_id_of e.frame) (take k entries) then [] else message_line e.frame (with_id_of e.frame entries)

  -- the messages of node i, in the order of their first places in its queue
  abbrev pub lines_of : List Entry → List ℕ
  lines_of entries = flat_map (line_at entries) (enumerate_from 0 entries)

  abbrev pub node_lines : List ℕ
  node_lines = lines_of (entries_of plan i)

-- those of all nodes
abbrev pub all_messages : Tick → Plan → List (List ℕ) → List ℕ
all_messages tick plan names = each_below (node_lines tick plan names) (length plan.nodes)
