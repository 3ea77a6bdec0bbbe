-- The lines of how long the messages of a bus may wait (this project's profile).
use Rattle.std.specs.Prelude.{◌≡◌, ℕ, ◌+◌, ◌==◌, ◌&&◌, nat_lt, Bool, true, false, List, [], ◌∷◌, ◌++◌, codes, length, slice_get, slice_index_or, if◌then◌else◌, Option, Some, None, option_and_then}
use Rattle.std.specs.Fmt.{decimal}
use Rattle.wl_counts.specs.Counts.{one_if, sum_below}
use Rattle.wl_level.specs.Places.{first_place}
use Rattle.wl_report.specs.Lines.{hexadecimal}
use Rattle.wl_report.specs.Report.{id_digits}
use Rattle.wl_setup.specs.Names.{name_of}
use Rattle.wl_setup.specs.declared.bus.Bus.{Bus}
use Rattle.wl_setup.specs.declared.plan_text.PlanText.{PlanText}
use Rattle.wl_topology.specs.Driven.{any_below}
use Rattle.wl_lines.specs.Formats.{lines_text}
use Rattle.wl_lines.specs.Shapes.{Form, TextLine, lines_to}
use Rattle.wl_margin.specs.Pieces.{each_below, hundredths, joined, thousandths}
use Rattle.wl_respond.specs.declared.asked.Asked.{Asked}
use Rattle.wl_respond.specs.declared.bounds.Waits.{Waits}
use Rattle.wl_respond.specs.declared.message.MessageWait.{MessageWait}
use Rattle.wl_respond.specs.declared.parts.Line.{Line}
use Rattle.wl_respond.specs.declared.parts.Met.{Met}
use Rattle.wl_respond.specs.declared.parts.Met.TheVariants.{InTime, Late, Open}
use Rattle.wl_respond.specs.declared.parts.Parts.{Parts}
use Rattle.wl_respond.specs.declared.premise.Lacking.{Lacking}
use Rattle.wl_respond.specs.declared.premise.Lacking.TheVariants.{Astray, Turning, Margin, Deciding, Table, Bounds}
use Rattle.wl_respond.specs.declared.verdict.Outcome.{Outcome}
use Rattle.wl_respond.specs.Asks.{asked_at, has_no_period, once}
use Rattle.wl_respond.specs.Bounds.{AreWaitsOf}
use Rattle.wl_respond.specs.Forms.{alone_form, not_proved_form, missed_form, load_form, message_form, open_form, proof_form, unknown_form, verdict_form}

abbrev pub no_line : Line
no_line = record { jitter = 0; deadline = None; met = Open; parts = None }

abbrev pub told_line_at : List Line → ℕ → Line
told_line_at lines e = slice_index_or lines e no_line

-- a line of a form
abbrev pub say : Form → List (List ℕ) → TextLine
say form values = record { form = form; values = values }

-- why a premise lacks
abbrev pub astray_lack : List ℕ → List ℕ
astray_lack a = joined (codes "the clock of " ∷ a ∷ codes " is outside of its tolerance" ∷ [])

abbrev pub turning_words : List ℕ → List ℕ
turning_words a = joined (codes "the clock of " ∷ a ∷ codes " has several rates" ∷ [])

abbrev pub deciding_words : List ℕ → List ℕ
deciding_words a = joined (codes "twelve bits after an edge a bit of another node may come to " ∷ a ∷ codes " after its sample" ∷ [])

abbrev pub reason_words : List (List ℕ) → Lacking → List ℕ
reason_words names (Astray i) = astray_lack (name_of names i)
reason_words names (Turning i) = turning_words (name_of names i)
reason_words names Margin = codes "margin doesn't say of this plan that it holds for any senders, proved"
reason_words names (Deciding i) = deciding_words (name_of names i)
reason_words names Table = codes "a frame is ready before its node's eleventh sample, or waits out of order"
reason_words names Bounds = codes "no waits pass the inequalities"

-- the first line: that the bounds are proved, or what lacks of the premises
abbrev pub lacking_line : List (List ℕ) → Option Lacking → TextLine
lacking_line names None = say proof_form (codes "waits_are_bounded" ∷ [])
lacking_line names (Some lacking) = say not_proved_form (reason_words names lacking ∷ [])

-- how busy the bus is at most
abbrev pub load_line : ℕ → TextLine
load_line load = say load_form (hundredths load ∷ [])

-- a message that comes once has no period
abbrev pub every_words : ℕ → List ℕ
every_words every = if every == once then codes "-" else decimal every

abbrev pub id_words : MessageWait → List ℕ
id_words x = hexadecimal (id_digits x.frame.extended) x.frame.id

-- what a message is
abbrev pub message_values : List (List ℕ) → Asked → (jitter : ℕ) → List (List ℕ)
message_values names a jitter =
    decimal a.message.node ∷ name_of names a.message.node ∷ id_words a.message ∷ decimal (a.message.bits + 10) ∷ every_words a.every ∷
    thousandths jitter ∷ []

-- how long it waits at most
abbrev pub bound_values : Option Parts → List (List ℕ)
bound_values None = codes "-" ∷ codes "-" ∷ []
bound_values (Some p) = decimal p.quanta ∷ thousandths p.bound ∷ []

abbrev pub time_words : Option ℕ → List ℕ
time_words None = codes "-"
time_words (Some time) = thousandths time

abbrev pub met_word : Met → List ℕ
met_word InTime = codes "met"
met_word Late = codes "missed"
met_word Open = codes "-"

-- whether that is in time
abbrev pub deadline_values : Line → List (List ℕ)
deadline_values line = time_words line.deadline ∷ met_word line.met ∷ []

-- of what that consists
abbrev pub parts_values : Option Parts → List (List ℕ)
parts_values None = codes "-" ∷ codes "-" ∷ codes "-" ∷ codes "-" ∷ codes "-" ∷ []
parts_values (Some p) =
    thousandths p.start ∷ thousandths p.blocked ∷ thousandths p.queued ∷ thousandths p.others ∷ thousandths p.frame ∷ []

abbrev pub told_values : List (List ℕ) → Asked → Line → List (List ℕ)
told_values names a line =
    message_values names a line.jitter ++ bound_values line.parts ++ deadline_values line ++ parts_values line.parts

-- the message that blocks it
abbrev pub blocker : List Asked → Option Parts → Option Asked
blocker asked None = None
blocker asked (Some p) = option_and_then (λ e. slice_get asked e) p.by

abbrev pub message_line : List (List ℕ) → (values : List (List ℕ)) → (by : Option Asked) → TextLine
message_line names values None = say alone_form (values ++ codes "-" ∷ codes "-" ∷ [])
message_line names values (Some a) = say message_form (values ++ name_of names a.message.node ∷ id_words a.message ∷ [])

abbrev pub told_message : List (List ℕ) → List Asked → Asked → Line → TextLine
told_message names asked a line = message_line names (told_values names a line) (blocker asked line.parts)

abbrev pub line_of_message : List (List ℕ) → List Asked → List Line → ℕ → TextLine
line_of_message names asked lines e = told_message names asked (asked_at asked e) (told_line_at lines e)

-- the last line: who misses a deadline
abbrev pub is_missed : Met → Bool
is_missed InTime = false
is_missed Late = true
is_missed Open = false

abbrev pub misses : List Line → ℕ → Bool
misses lines e = is_missed (told_line_at lines e).met

abbrev pub missed_count : List Line → ℕ
missed_count lines = sum_below (λ e. one_if (misses lines e)) (length lines)

abbrev pub missed_name : List (List ℕ) → MessageWait → Bool → List ℕ
missed_name names x later = joined ((if later then codes ", " else []) ∷ id_words x ∷ codes " of " ∷ name_of names x.node ∷ [])

abbrev pub missed_words : List (List ℕ) → List Asked → List Line → ℕ → List ℕ
missed_words names asked lines e = if misses lines e then missed_name names (asked_at asked e).message (any_below e (misses lines)) else []

abbrev pub missed_line : List (List ℕ) → List Asked → List Line → TextLine
missed_line names asked lines =
    say missed_form (decimal (missed_count lines) ∷ decimal (length lines) ∷ each_below (missed_words names asked lines) (length lines) ∷ [])

abbrev pub bounded_line : List (List ℕ) → List Asked → List Line → TextLine
bounded_line names asked lines =
    if missed_count lines == 0 then say verdict_form (codes "all deadlines met" ∷ []) else missed_line names asked lines

-- or why there is no bound
abbrev pub no_period_words : List ℕ → MessageWait → List ℕ
no_period_words a x = joined (codes "the jitter of " ∷ id_words x ∷ codes " of " ∷ a ∷ codes " isn't less than its period" ∷ [])

abbrev pub beyond_load_words : ℕ → List ℕ
beyond_load_words load = joined (codes "the bus load is up to " ∷ hundredths load ∷ codes " %" ∷ [])

abbrev pub load_words : ℕ → List ℕ
load_words load = if nat_lt 10000 load then beyond_load_words load else codes "the search found none"

abbrev pub open_words : List (List ℕ) → List Asked → ℕ → Option ℕ → List ℕ
open_words names asked load None = load_words load
open_words names asked load (Some e) = no_period_words (name_of names (asked_at asked e).message.node) (asked_at asked e).message

abbrev pub open_line : List (List ℕ) → List Asked → ℕ → TextLine
open_line names asked load = say open_form (open_words names asked load (first_place (has_no_period asked) (length asked)) ∷ [])

-- all lines of a bus with these messages, by what lacks
module _ (names : List (List ℕ)) (asked : List Asked) (lines : List Line) where
  abbrev pub message_lines : List TextLine
  message_lines = lines_to (line_of_message names asked lines) (length lines)

  abbrev pub verdict_line : (shown : Bool) → (load : ℕ) → TextLine
  verdict_line true load = bounded_line names asked lines
  verdict_line false load = open_line names asked load

-- what the verdict is about
abbrev pub outcome_in : Waits → Outcome
outcome_in w = record { lacking = w.lacking; shown = w.shown; load = w.load }

abbrev pub outcome_lines : List (List ℕ) → List Asked → List Line → Outcome → List TextLine
outcome_lines names asked lines o =
    (lacking_line names o.lacking ∷ load_line o.load ∷ []) ++ message_lines names asked lines ++ verdict_line names asked lines o.shown o.load ∷ []

-- a bus with a clock that is none without its `ppm`
abbrev pub no_clock_line : TextLine
no_clock_line = say unknown_form (codes "without its ppm a quantum takes less than a tick or more than 1,048,576" ∷ [])

-- The lines of waits, and whether all deadlines are met.
abbrev pub AreLinesOf : List (List ℕ) → Option Waits → List TextLine → Bool → Type 0
AreLinesOf names None said met = (said ≡ no_clock_line ∷ []) × (met ≡ false)
AreLinesOf names (Some w) said met =
    (said ≡ outcome_lines names w.asked w.lines (outcome_in w)) × (met ≡ (w.shown && (missed_count w.lines == 0)))

-- all lines of a bus, for ticks of so many picoseconds; and whether all deadlines are met
abbrev pub AreLinesOfBus : ℕ → Bool → PlanText → Bus → List TextLine → Bool → Type 0
AreLinesOfBus tick any plain bus said met = (found : Option Waits) × AreWaitsOf tick any plain bus found × AreLinesOf bus.names found said met

-- their text
abbrev pub IsTextOf : List (List ℕ) → Option Waits → List ℕ → Bool → Type 0
IsTextOf names found text met = (said : List TextLine) × (text ≡ lines_text said) × AreLinesOf names found said met

abbrev pub IsTextOfBus : ℕ → Bool → PlanText → Bus → List ℕ → Bool → Type 0
IsTextOfBus tick any plain bus text met = (said : List TextLine) × (text ≡ lines_text said) × AreLinesOfBus tick any plain bus said met
