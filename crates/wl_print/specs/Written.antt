-- A plan text as TOML, key by key (this project's profile; the keys are those of a plan's text).
use Rattle.std.specs.Prelude.{◌≡◌, String, string_bytes, ℕ, ◌/◌, ◌%◌, ◌==◌, ◌&&◌, ◌||◌, Bool, true, false, List, [], ◌∷◌, ◌++◌, codes, Option, Some, None, if◌then◌else◌}
use Rattle.std.specs.List.{flat_map}
use Rattle.std.specs.Fmt.{decimal, digits, digit_glyph, signed_decimal}
use Rattle.wl_segments.specs.declared.SyncRules.{SyncRules}
use Rattle.wl_segments.specs.declared.SyncRules.TheVariants as sync
use Rattle.wl_setup.specs.declared.plan_text.PlanText.{PlanText}
use Rattle.wl_setup.specs.declared.plan_text.NodeText.{NodeText}
use Rattle.wl_setup.specs.declared.plan_text.RateText.{RateText}
use Rattle.wl_setup.specs.declared.plan_text.FrameText.{FrameText}
use Rattle.wl_setup.specs.declared.plan_text.DisturbanceText.{DisturbanceText}
use Rattle.wl_setup.specs.declared.plan_text.ClockText.{ClockText}
use Rattle.wl_setup.specs.declared.plan_text.ClockText.TheVariants as text
use Rattle.wl_setup.specs.declared.plan_text.QueueText.{QueueText}
use Rattle.wl_setup.specs.declared.plan_text.QueueText.TheVariants as queue
use Rattle.wl_setup.specs.declared.plan_text.SegmentsText.{SegmentsText}
use Rattle.wl_setup.specs.declared.plan_text.SegmentsText.TheVariants as segments

-- a text has these bytes more, at its end
abbrev pub HasAdded : {Z : Type 0} → String Z → String Z → List ℕ → Type 0
HasAdded old new more = string_bytes new ≡ string_bytes old ++ more

abbrev pub sync_word : SyncRules → List ℕ
sync_word sync.After = codes "after"
sync_word sync.Book = codes "book"

-- the top table
unfoldable pub top_lines : PlanText → List ℕ
top_lines p =
    codes "version = " ++ decimal p.version ++ codes "\nend = " ++ decimal p.end ++ codes "\nper = " ++ decimal p.per
    ++ codes "\nsync = \"" ++ sync_word p.sync ++ codes "\"\n"

-- the two keys of a clock
unfoldable pub clock_lines : ClockText → List ℕ
clock_lines (text.Rate num den) = codes "num = " ++ decimal num ++ codes "\nden = " ++ decimal den ++ codes "\n"
clock_lines (text.Ppm quantum ppm) = codes "quantum = " ++ decimal quantum ++ codes "\nppm = " ++ signed_decimal ppm ++ codes "\n"
clock_lines (text.Fraction num den ppm) =
    codes "num = " ++ decimal num ++ codes "\nden = " ++ decimal den ++ codes "\nppm = " ++ signed_decimal ppm ++ codes "\n"

abbrev pub rate_clock_lines : RateText → List ℕ
rate_clock_lines r = clock_lines r.clock

-- the line that begins a table
unfoldable pub header_line : List ℕ → List ℕ
header_line name = codes "\n[[" ++ name ++ codes "]]\n"

unfoldable pub from_line : ℕ → List ℕ
from_line from = codes "from = " ++ decimal from ++ codes "\n"

abbrev pub rate_lines : RateText → List ℕ
rate_lines r = header_line (codes "node.rates") ++ from_line r.from ++ clock_lines r.clock

-- there is one rate, from quantum 0 on
abbrev pub is_one : List RateText → Bool
is_one (rate ∷ []) = rate.from == 0
is_one rates = false

-- the clock keys of a node are its own in version 1, and in versions 3 and 4 if it has one rate, from quantum 0 on; else those of tables
abbrev pub is_own : ℕ → List RateText → Bool
is_own version rates = (version == 1) || (((version == 3) || (version == 4)) && is_one rates)

abbrev pub own_clock_lines : ℕ → List RateText → List ℕ
own_clock_lines version rates = if is_own version rates then flat_map rate_clock_lines rates else []

abbrev pub rate_tables : ℕ → List RateText → List ℕ
rate_tables version rates = if is_own version rates then [] else flat_map rate_lines rates

-- the keys of segments and of the jump width
abbrev pub lines_of_segments : SegmentsText → ℕ → List ℕ
lines_of_segments (segments.Each prop ps1 ps2) sjw =
    codes "prop = " ++ decimal prop ++ codes "\nps1 = " ++ decimal ps1 ++ codes "\nps2 = " ++ decimal ps2
    ++ codes "\nsjw = " ++ decimal sjw ++ codes "\n"
lines_of_segments (segments.Controller tseg1 tseg2) sjw =
    codes "tseg1 = " ++ decimal tseg1 ++ codes "\ntseg2 = " ++ decimal tseg2 ++ codes "\nsjw = " ++ decimal sjw ++ codes "\n"

unfoldable pub segment_lines : NodeText → List ℕ
segment_lines n = lines_of_segments n.segments n.sjw

unfoldable pub place_lines : NodeText → List ℕ
place_lines n =
    codes "x = " ++ decimal n.x ++ codes "\nout = " ++ decimal n.out_delay ++ codes "\nin = " ++ decimal n.in_delay ++ codes "\n"

-- a key that may be left out, with a number
unfoldable pub number_line : List ℕ → Option ℕ → List ℕ
number_line key None = []
number_line key (Some number) = key ++ codes " = " ++ decimal number ++ codes "\n"

-- a key that may be left out, with a number and its unit as a text
unfoldable pub measure_line : List ℕ → List ℕ → Option ℕ → List ℕ
measure_line key unit None = []
measure_line key unit (Some number) = key ++ codes " = \"" ++ decimal number ++ unit ++ codes "\"\n"

-- which frame a node sends first, if that isn't the first one that became ready
unfoldable pub queue_line : QueueText → List ℕ
queue_line queue.Fifo = []
queue_line queue.Priority = codes "queue = \"priority\"\n"

-- a byte in two hexadecimal digits
abbrev pub byte_words : ℕ → List ℕ
byte_words byte = codes "0x" ++ digit_glyph false (byte / 16) ∷ digit_glyph false (byte % 16) ∷ []

abbrev pub later_words : ℕ → List ℕ
later_words byte = codes ", " ++ byte_words byte

-- the data of a frame, if it has any
unfoldable pub data_line : List ℕ → List ℕ
data_line [] = []
data_line (byte ∷ bytes) = codes "bytes = [" ++ byte_words byte ++ flat_map later_words bytes ++ codes "]\n"

-- a key that is false if it is left out
unfoldable pub flag_line : List ℕ → Bool → List ℕ
flag_line key true = key ++ codes " = true\n"
flag_line key false = []

-- the identifier in hexadecimal digits
unfoldable pub frame_keys : FrameText → List ℕ
frame_keys f = codes "id = 0x" ++ digits 16 false f.id ++ codes "\ndlc = " ++ decimal f.dlc ++ codes "\nready = " ++ decimal f.ready ++ codes "\n"

abbrev pub frame_lines : FrameText → List ℕ
frame_lines f =
    header_line (codes "node.frame") ++ frame_keys f ++ number_line (codes "every") f.every ++ number_line (codes "count") f.count
    ++ number_line (codes "deadline") f.deadline ++ number_line (codes "jitter") f.jitter
    ++ flag_line (codes "extended") f.extended ++ flag_line (codes "remote") f.remote ++ data_line f.bytes

unfoldable pub name_lines : NodeText → List ℕ
name_lines n = codes "name = \"" ++ n.name ++ codes "\"\noffset = " ++ decimal n.offset ++ codes "\n"

-- the keys of a node's own table
unfoldable pub node_keys : ℕ → NodeText → List ℕ
node_keys version n =
    name_lines n ++ own_clock_lines version n.rates ++ segment_lines n ++ place_lines n ++ number_line (codes "tolerance") n.tolerance
    ++ flag_line (codes "listen") n.listens ++ queue_line n.queue ++ number_line (codes "until") n.until

abbrev pub node_lines : ℕ → NodeText → List ℕ
node_lines version n = header_line (codes "node") ++ node_keys version n ++ rate_tables version n.rates ++ flat_map frame_lines n.frame

-- at the node of a name alone, or at a place on the cable
unfoldable pub spot_line : Option (List ℕ) → ℕ → List ℕ
spot_line None x = codes "x = " ++ decimal x ++ codes "\n"
spot_line (Some name) x = codes "node = \"" ++ name ++ codes "\"\n"

unfoldable pub interval_lines : DisturbanceText → List ℕ
interval_lines d = codes "from = " ++ decimal d.from ++ codes "\nto = " ++ decimal d.to ++ codes "\n"

abbrev pub disturbance_lines : DisturbanceText → List ℕ
disturbance_lines d = header_line (codes "disturbance") ++ spot_line d.node d.x ++ interval_lines d

-- the whole text
abbrev pub plan_words : PlanText → List ℕ
plan_words p =
    top_lines p ++ measure_line (codes "tick") (codes "fs") p.tick ++ measure_line (codes "unit") (codes "um") p.unit
    ++ flat_map (node_lines p.version) p.node ++ flat_map disturbance_lines p.disturbance
