-- Value Change Dump (IEEE 1364-2005, clause 18.2): the signals of a simulation, with the ticks at which they change. Which signals
-- there are and how they are named is this project's profile.
use Rattle.std.specs.Prelude.{ℕ, suc, ◌+◌, ◌-◌, ◌*◌, ◌==◌, bytes_eq, Bool, List, [], ◌∷◌, ◌++◌, codes, if◌then◌else◌}
use Rattle.std.specs.List.{flat_map, range_with_len, enumerate_from}
use Rattle.std.specs.Fmt.{decimal}
use Rattle.wl_plan.specs.declared.plan.Plan.{Plan}
use Rattle.wl_plan.specs.Simulation.{differs}
use Rattle.wl_report.specs.Lines.{mode_word}
use Rattle.wl_machine.specs.declared.doing.Doing.{Doing}
use Rattle.wl_machine.specs.declared.doing.Doing.TheVariants.{Integrating, Idle, Receiving, Transmitting, ActiveFlag, PassiveFlag, OverloadFlag, Waiting, Delimiting, Intermission, Suspended, OffBus}
use Rattle.wl_trace.specs.declared.snapshot.NodeState.{NodeState}
use Rattle.wl_views.specs.declared.tick.TimeUnit.{TimeUnit}
use Rattle.wl_views.specs.declared.tick.TimeUnit.TheVariants.{Picosecond, Nanosecond, Microsecond}
use Rattle.wl_views.specs.declared.tick.Tick.{Tick}
use Rattle.wl_views.specs.declared.signals.NodeSignals.{NodeSignals}
use Rattle.wl_views.specs.declared.window.Span.{Span}
use Rattle.wl_views.specs.declared.window.Window.{Window}
use Rattle.wl_views.specs.Signals.{signals}
use Rattle.wl_views.specs.Windows.{span_of}

abbrev pub unit_word : TimeUnit → List ℕ
unit_word Picosecond = codes "ps"
unit_word Nanosecond = codes "ns"
unit_word Microsecond = codes "us"

-- the name of a signal of node i in the dump: a letter and the node's number
abbrev pub signal_id : List ℕ → ℕ → List ℕ
signal_id letter i = letter ++ decimal i

-- the name that a reader sees: the node's, and a word
abbrev pub shown_name : List ℕ → List ℕ → List ℕ
shown_name name word = name ++ codes "_" ++ word

-- a declaration: a signal's kind, its name in the dump and that which a reader sees
abbrev pub var_line : List ℕ → List ℕ → ℕ → List ℕ → List ℕ → List ℕ
var_line kind letter i name word =
    codes "$var " ++ kind ++ codes " " ++ signal_id letter i ++ codes " " ++ shown_name name word ++ codes " $end\n"

-- what node i drives, and the line at its place; two marks; its error counters as real numbers, and words
abbrev pub line_vars : ℕ → List ℕ → List ℕ
line_vars i name =
    var_line (codes "wire 1") (codes "t") i name (codes "tx") ++ var_line (codes "wire 1") (codes "r") i name (codes "rx")
    ++ var_line (codes "wire 1") (codes "w") i name (codes "cable") ++ var_line (codes "wire 1") (codes "n") i name (codes "disturbance")

abbrev pub mark_vars : ℕ → List ℕ → List ℕ
mark_vars i name =
    var_line (codes "wire 1") (codes "s") i name (codes "sample") ++ var_line (codes "wire 1") (codes "b") i name (codes "start")

abbrev pub level_vars : ℕ → List ℕ → List ℕ
level_vars i name = line_vars i name ++ mark_vars i name

abbrev pub state_vars : ℕ → List ℕ → List ℕ
state_vars i name =
    var_line (codes "real 64") (codes "e") i name (codes "tec") ++ var_line (codes "real 64") (codes "c") i name (codes "rec")
    ++ var_line (codes "string 1") (codes "m") i name (codes "mode") ++ var_line (codes "string 1") (codes "d") i name (codes "state")

-- the signals of node i
abbrev pub var_lines : ℕ → List ℕ → List ℕ
var_lines i name = level_vars i name ++ state_vars i name

-- those of a numbered node, under its name
abbrev pub scope_lines : ℕ × List ℕ → List ℕ
scope_lines (i, name) = codes "$scope module " ++ name ++ codes " $end\n" ++ var_lines i name ++ codes "$upscope $end\n"

-- the unit of time and the signals of all nodes
abbrev pub header : Tick → List (List ℕ) → List ℕ
header tick names =
    codes "$timescale 1 " ++ unit_word tick.unit ++ codes " $end\n" ++ flat_map scope_lines (enumerate_from 0 names) ++ codes "$enddefinitions $end\n"

-- the time of tick t in units; formats allow units of 1, 10 and 100 alone, so a tick's count is multiplied in
abbrev pub time_line : Tick → ℕ → List ℕ
time_line tick t = codes "#" ++ decimal (t * tick.count) ++ codes "\n"

-- a signal is high, or low
abbrev pub value_line : List ℕ → ℕ → Bool → List ℕ
value_line letter i high = (if high then codes "1" else codes "0") ++ letter ++ decimal i ++ codes "\n"

-- a number
abbrev pub number_line : List ℕ → ℕ → ℕ → List ℕ
number_line letter i n = codes "r" ++ decimal n ++ codes " " ++ letter ++ decimal i ++ codes "\n"

-- a word
abbrev pub word_line : List ℕ → ℕ → List ℕ → List ℕ
word_line letter i word = codes "s" ++ word ++ codes " " ++ letter ++ decimal i ++ codes "\n"

-- what a node does, as a word
abbrev pub doing_word : Doing → List ℕ
doing_word Integrating = codes "integrating"
doing_word Idle = codes "idle"
doing_word Receiving = codes "receiving"
doing_word Transmitting = codes "transmitting"
doing_word ActiveFlag = codes "active_flag"
doing_word PassiveFlag = codes "passive_flag"
doing_word OverloadFlag = codes "overload_flag"
doing_word Waiting = codes "waiting"
doing_word Delimiting = codes "delimiter"
doing_word Intermission = codes "intermission"
doing_word Suspended = codes "suspended"
doing_word OffBus = codes "bus_off"

-- the levels of node i, and what it is at
abbrev pub line_values : ℕ → NodeSignals → List ℕ
line_values i now =
    value_line (codes "t") i now.tx ++ value_line (codes "r") i now.rx ++ value_line (codes "w") i now.cable ++ value_line (codes "n") i now.disturbance

abbrev pub mark_values : ℕ → NodeSignals → List ℕ
mark_values i now = value_line (codes "s") i now.sample ++ value_line (codes "b") i now.start

abbrev pub level_values : ℕ → NodeSignals → List ℕ
level_values i now = line_values i now ++ mark_values i now

abbrev pub state_values : ℕ → NodeState → List ℕ
state_values i now =
    number_line (codes "e") i now.tec ++ number_line (codes "c") i now.rec
    ++ word_line (codes "m") i (mode_word now.mode) ++ word_line (codes "d") i (doing_word now.doing)

-- all signals of a numbered node
abbrev pub node_values : ℕ × NodeSignals → List ℕ
node_values (i, now) = level_values i now ++ state_values i now.state

-- a signal whose level is another than before
abbrev pub change_line : List ℕ → ℕ → Bool → Bool → List ℕ
change_line letter i was now = if differs was now then value_line letter i now else []

-- a number, and a word, that is another than before
abbrev pub number_change : List ℕ → ℕ → ℕ → ℕ → List ℕ
number_change letter i was now = if was == now then [] else number_line letter i now

abbrev pub word_change : List ℕ → ℕ → List ℕ → List ℕ → List ℕ
word_change letter i was now = if bytes_eq was now then [] else word_line letter i now

-- those of node i
abbrev pub line_changes : ℕ → NodeSignals → NodeSignals → List ℕ
line_changes i was now =
    change_line (codes "t") i was.tx now.tx ++ change_line (codes "r") i was.rx now.rx ++ change_line (codes "w") i was.cable now.cable
    ++ change_line (codes "n") i was.disturbance now.disturbance

abbrev pub mark_changes : ℕ → NodeSignals → NodeSignals → List ℕ
mark_changes i was now = change_line (codes "s") i was.sample now.sample ++ change_line (codes "b") i was.start now.start

abbrev pub level_changes : ℕ → NodeSignals → NodeSignals → List ℕ
level_changes i was now = line_changes i was now ++ mark_changes i was now

abbrev pub state_changes : ℕ → NodeState → NodeState → List ℕ
state_changes i was now =
    number_change (codes "e") i was.tec now.tec ++ number_change (codes "c") i was.rec now.rec
    ++ word_change (codes "m") i (mode_word was.mode) (mode_word now.mode)
    ++ word_change (codes "d") i (doing_word was.doing) (doing_word now.doing)

abbrev pub node_changes : ℕ → NodeSignals → NodeSignals → List ℕ
node_changes i was now = level_changes i was now ++ state_changes i was.state now.state

-- those of all nodes, numbered from i on
abbrev pub changes_from : ℕ → List NodeSignals → List NodeSignals → List ℕ
changes_from i [] now = []
changes_from i (w ∷ was) [] = []
changes_from i (w ∷ was) (n ∷ now) = node_changes i w n ++ changes_from (suc i) was now

-- these lines under their time, and nothing where there are none
abbrev pub under : List ℕ → List ℕ → List ℕ
under time [] = []
under time (byte ∷ more) = time ++ (byte ∷ more)

-- tick t: the signals whose level isn't that of the tick before
unfoldable pub tick_lines : Tick → (ℕ → List NodeSignals) → ℕ → List ℕ
tick_lines tick levels t = under (time_line tick t) (changes_from 0 (levels (t - 1)) (levels t))

-- all levels, as those at tick t
abbrev pub first_lines : Tick → ℕ → List NodeSignals → List ℕ
first_lines tick t now = time_line tick t ++ codes "$dumpvars\n" ++ flat_map node_values (enumerate_from 0 now) ++ codes "$end\n"

-- the levels at the first tick of a span, what changes at each tick after it and below the end of the span, and the time of that end
abbrev pub dump_lines : Tick → (ℕ → List NodeSignals) → Span → List ℕ
dump_lines tick levels span =
    first_lines tick span.from (levels span.from)
    ++ flat_map (tick_lines tick levels) (range_with_len (span.from + 1) (span.to - (span.from + 1))) ++ time_line tick span.to

-- the dump of what the one-thread simulation does within a window, under these names of the nodes
abbrev pub vcd_text : Tick → Window → Plan → List (List ℕ) → List ℕ
vcd_text tick window plan names = header tick names ++ dump_lines tick (signals plan) (span_of window plan.end)
