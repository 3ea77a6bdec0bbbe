-- The words of the command line (this project's profile).
use Rattle.std.specs.Prelude.{◌≡◌, ◌^◌, ◌-◌, ◌*◌, ◌&&◌, ◌++◌, not, nat_lt, ℕ, Bool, true, false, List, [], ◌∷◌, length, map, codes, pos, fold, Option, Some, None, is_some, unwrap_or, if◌then◌else◌, option_and_then, option_map}
use Rattle.std.specs.Char.{digit_value}
use Rattle.std.specs.List.{list_all, list_any}
use Rattle.std.specs.Option.{option_map_or}
use Rattle.std.specs.Str.{bytes_eq}
use Rattle.std.specs.Str.Parse.{digits_value, without_leading_plus}
use Rattle.clap.specs.Words.{App, Row, Rule, Text, all_of, first_of, new_app, new_rule, with_rule, with_subcommand, subcommand_of, subcommand_rows_of, fault_of, kind_of}
use Rattle.clap.specs.declared.error.Error.{Error}
use Rattle.clap.specs.declared.error.kind.ErrorKind.TheVariants.{OutOfMemory}
use Rattle.clap.specs.declared.parser.matches.ArgMatches.{ArgMatches}
use Rattle.clap.specs.Walk.{byte_or_zero}
use Rattle.clap.specs.declared.builder.action.ArgAction.TheVariants.{Append, SetTrue}
use Rattle.clap.specs.declared.builder.value_parser.ValueParser.TheVariants.{Signed, Unsigned}
use Rattle.clap.specs.Simple.{on_top}
use Rattle.wl_lines.specs.declared.formats.Format.{Format}
use Rattle.wl_lines.specs.declared.formats.Format.TheVariants.{Json, Csv, Table, Coloured}
use Rattle.wl_settings.specs.declared.said.Shown.{Shown}
use Rattle.wl_settings.specs.declared.said.Shown.TheVariants.{Best, Plan}
use Rattle.wl_settings.specs.declared.topics.AskedWord.{AskedWord}
use Rattle.wl_settings.specs.declared.topics.Topic.{Topic}
use Rattle.wl_settings.specs.declared.topics.Topic.TheVariants as topic
use Rattle.wl_settings.specs.Topics.{topic_option}
use Rattle.wl_sweep.specs.declared.part.Share.{Share}
use Rattle.wl_sweep.specs.Parts.{share_named}
use Rattle.wl_worker.specs.declared.by_links.LinkKind.{LinkKind}
use Rattle.wl_worker.specs.declared.by_links.LinkKind.TheVariants.{Hub, Mail}
use Rattle.wl_init.specs.declared.wish.Wish.{Wish}
use Rattle.wl_init.specs.Wishes.{cable_said, kind_said, rate_said}
use Rattle.wl_limits.specs.declared.Limits.{Limits}
use Rattle.wl_limits.specs.declared.Limits.TheVariants.{Narrow, Wide}
use Rattle.wl_words.specs.declared.clash.Clash.{Clash}
use Rattle.wl_words.specs.declared.clash.Clash.TheVariants as clash
use Rattle.wl_words.specs.declared.task.Task.{Task}
use Rattle.wl_words.specs.declared.task.Task.TheVariants.{Init, Merge, Horizon, Check, Upgrade, Records, Run, Explain, Trace, Candump, Vcd, Page, Margin, Respond, Traffic, Judge, Settings, Sweep}
use Rattle.wl_words.specs.declared.task.Swept.{Swept}
use Rattle.wl_words.specs.declared.values.Values.{Values}
use Rattle.wl_words.specs.Spikes.{if_alone, is_said, with_spike}
use Rattle.wl_views.specs.declared.pick.EventKind.{EventKind}
use Rattle.wl_views.specs.declared.pick.EventKind.TheVariants as kinds
use Rattle.wl_views.specs.declared.pick.Pick.{Pick}
use Rattle.wl_views.specs.declared.tick.Tick.{Tick}
use Rattle.wl_views.specs.declared.tick.TimeUnit.TheVariants.{Nanosecond}
use Rattle.wl_views.specs.declared.window.Window.{Window}
use Rattle.wl_views.specs.Ticks.{read_tick, tick_picoseconds}
use Rattle.wl_units.specs.Scales.{number_said}
use Rattle.wl_units.specs.declared.quantity.Measure.TheVariants.{Time}
use Rattle.wl_units.specs.declared.scale.Scale.{Scale}

-- the word of a task
abbrev pub task_word : Task → Text
task_word (Init wish) = codes "init"
task_word (Merge limits) = codes "merge"
task_word (Horizon limits) = codes "horizon"
task_word Check = codes "check"
task_word Upgrade = codes "format"
task_word (Records window) = codes "records"
task_word (Run workers kind brief strict) = codes "run"
task_word (Explain strict) = codes "explain"
task_word (Trace pick) = codes "trace"
task_word (Candump tick from errors window) = codes "candump"
task_word (Vcd tick window) = codes "vcd"
task_word (Page tick window) = codes "page"
task_word (Margin tick all strict) = codes "margin"
task_word (Respond tick any strict) = codes "respond"
task_word (Traffic tick strict) = codes "traffic"
task_word (Judge tick explain) = codes "judge"
task_word (Settings tick shown strict) = codes "settings"
task_word (Sweep swept) = codes "sweep"

-- the argument that names the file to read
abbrev pub input_rule : Rule
input_rule = record (new_rule (codes "input")) { value_names = 1 }

-- the option `-o` with the file to write
abbrev pub output_rule : Rule
output_rule = record (new_rule (codes "output")) { short = Some 111; value_names = 1 }

-- a flag of this name
abbrev pub flag_rule : Text → Rule
flag_rule name = record (new_rule name) { long = Some name; action = Some SetTrue }

-- the word of a subcommand that reads no file
abbrev pub reads_nothing : Text → Bool
reads_nothing word = bytes_eq word (codes "init")

-- the argument that names the file to read, unless none is read
abbrev pub input_rules : Text → List Rule
input_rules word = if reads_nothing word then [] else input_rule ∷ []

-- what each has
abbrev pub shared_rules : List Rule
shared_rules = output_rule ∷ flag_rule (codes "hint") ∷ flag_rule (codes "progress") ∷ []

-- the option `--tick`, which is `1ns` where it isn't given
abbrev pub tick_rule : Rule
tick_rule = record (new_rule (codes "tick")) { long = Some (codes "tick"); value_names = 1; defaults = codes "1ns" ∷ [] }

-- the option `--format`, which is `text` where it isn't given
abbrev pub format_rule : Rule
format_rule = record (new_rule (codes "format")) { long = Some (codes "format"); value_names = 1; defaults = codes "text" ∷ [] }

-- the option `--from`, seconds below 2^32 as 32 bits have them, which is 0 where it isn't given
abbrev pub from_rule : Rule
from_rule =
    record (new_rule (codes "from")) { long = Some (codes "from"); value_names = 1; defaults = codes "0" ∷ []; parser = Some (Signed (pos 0) (pos (2 ^ 32 - 1))) }

-- an option with a tick, by its name on the command line
abbrev pub ticks_rule : Text → Text → Rule
ticks_rule id name = record (new_rule id) { long = Some name; value_names = 1; parser = Some (Unsigned 0 (2 ^ 64 - 1)) }

-- a window: the option of its first tick has this name, and `--to` is the first tick after it
abbrev pub window_rules : Text → List Rule
window_rules first = ticks_rule (codes "since") first ∷ ticks_rule (codes "until") (codes "to") ∷ []

-- an option with a text, by its name on the command line
abbrev pub text_rule : Text → Text → Rule
text_rule id name = record (new_rule id) { long = Some name; value_names = 1 }

-- of `merge` and `horizon`
abbrev pub wide_rules : List Rule
wide_rules = flag_rule (codes "wide") ∷ []

-- of `records`
abbrev pub records_rules : List Rule
records_rules = window_rules (codes "from")

-- the option `--strict`, with which the status says whether the bus works, or what else a command is about
abbrev pub strict_rule : Rule
strict_rule = flag_rule (codes "strict")

-- of `check`
abbrev pub formatted_rules : List Rule
formatted_rules = format_rule ∷ []

-- of `explain`
abbrev pub explain_rules : List Rule
explain_rules = strict_rule ∷ format_rule ∷ []

-- of `candump`, whose `--from` isn't a window's
abbrev pub candump_rules : List Rule
candump_rules = tick_rule ∷ from_rule ∷ window_rules (codes "since") ++ flag_rule (codes "errors") ∷ []

-- of `vcd` and `page`, whose window may be said by times
abbrev pub wave_rules : List Rule
wave_rules = tick_rule ∷ text_rule (codes "begin") (codes "from") ∷ text_rule (codes "stop") (codes "to") ∷ []

-- of `trace`: a node, and a kind of events
abbrev pub node_rule : Rule
node_rule = text_rule (codes "node") (codes "node")

abbrev pub trace_rules : List Rule
trace_rules = ticks_rule (codes "since") (codes "from") ∷ ticks_rule (codes "until") (codes "to") ∷ node_rule ∷ text_rule (codes "only") (codes "only") ∷ format_rule ∷ []

-- of `margin`
abbrev pub margin_rules : List Rule
margin_rules = tick_rule ∷ flag_rule (codes "all-send") ∷ strict_rule ∷ format_rule ∷ []

-- of `respond`
abbrev pub respond_rules : List Rule
respond_rules = tick_rule ∷ flag_rule (codes "any-data") ∷ strict_rule ∷ format_rule ∷ []

-- of `traffic`
abbrev pub traffic_rules : List Rule
traffic_rules = tick_rule ∷ strict_rule ∷ format_rule ∷ []

-- of `judge`
abbrev pub judge_rules : List Rule
judge_rules = tick_rule ∷ flag_rule (codes "explain") ∷ format_rule ∷ []

-- of `run`: a number of workers from 1 to 8, which is 1 where it isn't given, and their link, which is `hub`
abbrev pub workers_rule : Rule
workers_rule =
    record (new_rule (codes "workers")) { long = Some (codes "workers"); value_names = 1; defaults = codes "1" ∷ []; parser = Some (Signed (pos 1) (pos 8)) }

abbrev pub link_rule : Rule
link_rule = record (new_rule (codes "link")) { long = Some (codes "link"); value_names = 1; defaults = codes "hub" ∷ [] }

abbrev pub run_rules : List Rule
run_rules = workers_rule ∷ link_rule ∷ flag_rule (codes "brief") ∷ strict_rule ∷ format_rule ∷ []

-- of `settings`: how many are listed, a number above 0, and that the plan of the best one is written
abbrev pub best_rule : Rule
best_rule = record (new_rule (codes "best")) { long = Some (codes "best"); value_names = 1; parser = Some (Signed (pos 1) (pos (2 ^ 32 - 1))) }

-- and in the place of a file the kinds and clocks of its controllers, which may come several times, and what else a text says
abbrev pub repeated_rule : Text → Rule
repeated_rule name = record (new_rule name) { long = Some name; value_names = 1; action = Some Append }

abbrev pub named_rule : Text → Rule
named_rule name = text_rule name name

abbrev pub settings_rules : List Rule
settings_rules =
    tick_rule ∷ best_rule ∷ flag_rule (codes "plan") ∷ named_rule (codes "apply") ∷ strict_rule ∷ repeated_rule (codes "kind") ∷ repeated_rule (codes "clock")
    ∷ named_rule (codes "bitrate") ∷ named_rule (codes "cable") ∷ named_rule (codes "per") ∷ named_rule (codes "out") ∷ named_rule (codes "in") ∷ named_rule (codes "tolerance")
    ∷ named_rule (codes "senders") ∷ named_rule (codes "rate-error") ∷ named_rule (codes "sample-point") ∷ named_rule (codes "nodes")
    ∷ named_rule (codes "sjw") ∷ format_rule ∷ []

-- of `init`, whose nodes are 2 to 64: two nodes, 500 kbit/s, 40 m and an MCP2515 where nothing else is said
abbrev pub nodes_rule : Rule
nodes_rule =
    record (new_rule (codes "nodes")) { long = Some (codes "nodes"); value_names = 1; defaults = codes "2" ∷ []; parser = Some (Signed (pos 2) (pos 64)) }

abbrev pub bitrate_rule : Rule
bitrate_rule = record (new_rule (codes "bitrate")) { long = Some (codes "bitrate"); value_names = 1; defaults = codes "500k" ∷ [] }

abbrev pub cable_rule : Rule
cable_rule = record (new_rule (codes "cable")) { long = Some (codes "cable"); value_names = 1; defaults = codes "40m" ∷ [] }

abbrev pub kind_rule : Rule
kind_rule = record (new_rule (codes "kind")) { long = Some (codes "kind"); value_names = 1; defaults = codes "mcp2515" ∷ [] }

abbrev pub init_rules : List Rule
init_rules = nodes_rule ∷ bitrate_rule ∷ cable_rule ∷ kind_rule ∷ []

-- of `sweep`: `--vary` may come several times; the members that are run are 1000 at most, and drawn by seed 1, where nothing else is said
abbrev pub vary_rule : Rule
vary_rule = record (new_rule (codes "vary")) { long = Some (codes "vary"); value_names = 1; action = Some Append }

abbrev pub step_rule : Rule
step_rule = record (new_rule (codes "step")) { long = Some (codes "step"); value_names = 1; parser = Some (Unsigned 1 (2 ^ 64 - 1)) }

abbrev pub runs_rule : Rule
runs_rule =
    record (new_rule (codes "runs")) { long = Some (codes "runs"); value_names = 1; defaults = codes "1000" ∷ []; parser = Some (Signed (pos 1) (pos (2 ^ 32 - 1))) }

abbrev pub seed_rule : Rule
seed_rule =
    record (new_rule (codes "seed")) { long = Some (codes "seed"); value_names = 1; defaults = codes "1" ∷ []; parser = Some (Signed (pos 0) (pos (2 ^ 32 - 1))) }

abbrev pub threads_rule : Rule
threads_rule = record (new_rule (codes "workers")) { long = Some (codes "workers"); value_names = 1; parser = Some (Signed (pos 1) (pos 8)) }

abbrev pub print_rule : Rule
print_rule = record (new_rule (codes "print")) { long = Some (codes "print"); value_names = 1; parser = Some (Unsigned 0 (2 ^ 64 - 1)) }

abbrev pub sweep_rules : List Rule
sweep_rules =
    vary_rule ∷ step_rule ∷ runs_rule ∷ seed_rule ∷ threads_rule ∷ flag_rule (codes "keep-offsets") ∷ flag_rule (codes "keep-ppm") ∷ flag_rule (codes "worst")
    ∷ print_rule ∷ flag_rule (codes "page") ∷ text_rule (codes "part") (codes "part") ∷ flag_rule (codes "join")
    ∷ text_rule (codes "spike") (codes "spike") ∷ text_rule (codes "length") (codes "length") ∷ format_rule ∷ []

-- the options that a word has beside those of each
abbrev pub option_rules : Text → List Rule
option_rules word =
    if bytes_eq word (codes "merge") then wide_rules else (if bytes_eq word (codes "horizon") then wide_rules else
    (if bytes_eq word (codes "records") then records_rules else
    (if bytes_eq word (codes "check") then formatted_rules else (if bytes_eq word (codes "explain") then explain_rules else
    (if bytes_eq word (codes "trace") then trace_rules else (if bytes_eq word (codes "run") then run_rules else
    (if bytes_eq word (codes "vcd") then wave_rules else (if bytes_eq word (codes "page") then wave_rules else
    (if bytes_eq word (codes "candump") then candump_rules else (if bytes_eq word (codes "margin") then margin_rules else
    (if bytes_eq word (codes "traffic") then traffic_rules else (if bytes_eq word (codes "settings") then settings_rules else
    (if bytes_eq word (codes "sweep") then sweep_rules else (if bytes_eq word (codes "init") then init_rules else
    (if bytes_eq word (codes "respond") then respond_rules else (if bytes_eq word (codes "judge") then judge_rules else []))))))))))))))))

-- a command with these options more
abbrev pub with_rules : App → List Rule → App
with_rules app rules = fold with_rule app rules

-- the subcommand of a word
abbrev pub subcommand_app : Text → App
subcommand_app word = with_rules (with_rules (with_rules (new_app word) (input_rules word)) shared_rules) (option_rules word)

-- a command with the subcommand of this word
abbrev pub with_word : App → Text → App
with_word a word = with_subcommand a (subcommand_app word).top

-- the program's command line without its subcommands: one of them has to be named
abbrev pub bare_program : App
bare_program = on_top (λ s. record s { subcommand_required = true }) (on_top (λ s. record s { has_version = true }) (new_app (codes "wl_sim")))

-- the words of the subcommands, in the order of the help
abbrev pub task_words : List Text
task_words =
    codes "init" ∷ codes "judge" ∷ codes "run" ∷ codes "margin" ∷ codes "explain" ∷ codes "respond" ∷ codes "traffic" ∷ codes "check" ∷ codes "settings" ∷ codes "sweep" ∷ codes "trace"
    ∷ codes "page" ∷ codes "vcd" ∷ codes "candump" ∷ codes "records" ∷ codes "format" ∷ codes "merge" ∷ codes "horizon" ∷ []

-- the program's command line
abbrev pub program : App
program = fold with_word bare_program task_words

-- the word names a subcommand
abbrev pub is_task_word : Text → Bool
is_task_word word = list_any (bytes_eq word) task_words

-- the subcommand that clap enters at these words, with what it finds there
abbrev pub entered : List Text → Option (Text × List Row)
entered words = subcommand_of program words

-- these matches are those of the words, which have no fault
abbrev pub MatchesWords : List Text → ArgMatches → Type 0
MatchesWords words m = (subcommand_rows_of m ≡ entered words) × (fault_of program words ≡ [])

-- of words without a fault, clap says no error but one of memory
abbrev pub FailsByMemory : List Text → Error → Type 0
FailsByMemory words e = fault_of program words ≡ [] → kind_of e ≡ OutOfMemory

abbrev pub word_in : Option (Text × List Row) → Option Text
word_in found = option_map (λ p. p.0) found

abbrev pub rows_in : Option (Text × List Row) → Option (List Row)
rows_in found = option_map (λ p. p.1) found

-- the tick that a subcommand's option gives
abbrev pub tick_among : List Row → Option Tick
tick_among rows = option_and_then read_tick (first_of (codes "tick") rows)

-- the number of workers that a subcommand's option gives
abbrev pub workers_among : List Row → Option ℕ
workers_among rows = option_map byte_or_zero (first_of (codes "workers") rows)

-- the kind of link that a text names: `hub` or `mail`
abbrev pub read_link : Text → Option LinkKind
read_link text = if bytes_eq text (codes "hub") then Some Hub else (if bytes_eq text (codes "mail") then Some Mail else None)

-- the kind of link that a subcommand's option gives
abbrev pub link_among : List Row → Option LinkKind
link_among rows = option_and_then read_link (first_of (codes "link") rows)

-- the format that a text names: `text`, or another one
abbrev pub read_format : Text → Option (Option Format)
read_format text =
    if bytes_eq text (codes "text") then Some None
    else (if bytes_eq text (codes "json") then Some (Some Json) else (if bytes_eq text (codes "csv") then Some (Some Csv) else
    (if bytes_eq text (codes "table") then Some (Some Table) else (if bytes_eq text (codes "coloured") then Some (Some Coloured) else None))))

-- the format that a subcommand's option gives; a subcommand that has no such option writes text
abbrev pub format_among : List Row → Option (Option Format)
format_among rows = option_map_or read_format (first_of (codes "format") rows) (Some None)

-- that of the subcommand that was found
abbrev pub format_in : Option (Text × List Row) → Option (Option Format)
format_in found = option_map_or (λ p. format_among p.1) found (Some None)

-- the file that a text names in the place of a standard stream, which `-` means
abbrev pub file_named : Text → Option Text
file_named text = if bytes_eq text (codes "-") then None else Some text

-- the file that an argument of a subcommand names
abbrev pub file_among : Text → List Row → Option Text
file_among id rows = option_and_then file_named (first_of id rows)

-- that of the subcommand that was found
abbrev pub file_in : Text → Option (Text × List Row) → Option Text
file_in id found = option_and_then (file_among id) (rows_in found)

-- whether a flag is set by its text
abbrev pub is_set : Text → Bool
is_set text = if bytes_eq text (codes "true") then true else false

-- whether a flag of a subcommand is set
abbrev pub is_flagged : Text → List Row → Bool
is_flagged id rows = option_map_or is_set (first_of id rows) false

-- whether that of the subcommand that was found is
abbrev pub has_flag : Text → Option (Text × List Row) → Bool
has_flag id found = option_map_or (λ p. is_flagged id p.1) found false

-- a text is a number below 2^bits in decimal digits
abbrev pub is_whole_number : ℕ → Text → Bool
is_whole_number bits text =
    let ds = without_leading_plus text in
    nat_lt 0 (length ds) && list_all (λ d. nat_lt (digit_value d) 10) ds && nat_lt (digits_value 10 ds) (2 ^ bits)

-- the number that a text writes, below 2^bits; its option lets no other text in
abbrev pub number_or_zero : ℕ → Text → ℕ
number_or_zero bits text = if is_whole_number bits text then digits_value 10 (without_leading_plus text) else 0

-- the number that an option of a subcommand gives
abbrev pub number_among : ℕ → Text → List Row → Option ℕ
number_among bits id rows = option_map (number_or_zero bits) (first_of id rows)

-- the number of a node that a text writes, from 0 to 63; any other text is a name
abbrev pub node_number : Text → Option ℕ
node_number text =
    let n = digits_value 10 (without_leading_plus text) in
    if is_whole_number 8 text && nat_lt n 64 then Some n else None

-- the name of a node in a list of its own, if a text is no number of one
abbrev pub said_name : Text → List Text
said_name text = if is_some (node_number text) then [] else text ∷ []

-- the name of a node that an option gives
abbrev pub said_name_among : List Row → List Text
said_name_among rows = option_map_or said_name (first_of (codes "node") rows) []

-- the ranges of a sweep in their order, or the node of a trace by its name
abbrev pub varied_among : List Row → List Text
varied_among rows = unwrap_or (all_of (codes "vary") rows) (said_name_among rows)

-- what the plan has to have: these, or where a spike is and how long it takes
abbrev pub ranges_among : List Row → List Text
ranges_among rows = with_spike (varied_among rows) rows

abbrev pub ranges_in : Option (Text × List Row) → List Text
ranges_in found = option_map_or (λ p. ranges_among p.1) found []

-- what is asked for in the place of a file, topic by topic, and of a topic in the order of the words
abbrev pub asked_topics : List Topic
asked_topics =
    topic.Kind ∷ topic.Clock ∷ topic.Bitrate ∷ topic.Cable ∷ topic.Per ∷ topic.Out ∷ topic.In ∷ topic.Tolerance ∷ topic.Senders ∷ topic.RateError
    ∷ topic.SamplePoint ∷ topic.Nodes ∷ topic.Sjw ∷ []

abbrev pub asked_word : Topic → Text → AskedWord
asked_word t text = record { topic = t; text = text }

abbrev pub asked_about : Topic → List Row → List AskedWord
asked_about t rows = map (asked_word t) (unwrap_or (all_of (topic_option t) rows) [])

abbrev pub asked_about_each : List Topic → List Row → List AskedWord
asked_about_each [] rows = []
asked_about_each (t ∷ ts) rows = asked_about t rows ++ asked_about_each ts rows

-- that of the subcommand that was found, if it is `settings`
abbrev pub asked_by : Text → List Row → List AskedWord
asked_by word rows = if bytes_eq word (codes "settings") then asked_about_each asked_topics rows else []

abbrev pub asked_words_in : Option (Text × List Row) → List AskedWord
asked_words_in found = option_map_or (λ p. asked_by p.0 p.1) found []

-- there is no file to read, or nothing is asked for in its place
abbrev pub is_asked_once : Option Text → List AskedWord → Bool
is_asked_once None asked = true
is_asked_once (Some name) [] = true
is_asked_once (Some name) (w ∷ ws) = false

-- what is wrong with options beside `--apply`, whose plan is a file: no other plan, no list and no other format than text is written with it
abbrev pub is_stream : Text → Bool
is_stream text = bytes_eq text (codes "-")

abbrev pub is_listed : List Row → Bool
is_listed rows = is_some (number_among 32 (codes "best") rows)

abbrev pub is_plain : Option (Option Format) → Bool
is_plain (Some (Some format)) = false
is_plain (Some None) = true
is_plain None = true

abbrev pub is_text : List Row → Bool
is_text rows = is_plain (format_among rows)

abbrev pub clash_beside : List Row → Text → Option Clash
clash_beside rows plan =
    if is_stream plan then Some clash.Stream
    else (if is_flagged (codes "plan") rows then Some clash.Plan
    else (if is_listed rows then Some clash.Best
    else (if not (is_text rows) then Some clash.Format
    else None)))

abbrev pub clash_among : List Row → Option Clash
clash_among rows = option_and_then (clash_beside rows) (first_of (codes "apply") rows)

abbrev pub clash_in : Option (Text × List Row) → Option Clash
clash_in found = option_and_then clash_among (rows_in found)

-- options that go together: nothing is asked for beside a file, and nothing is wrong beside `--apply`
abbrev pub are_fitting : Option Text → List AskedWord → Option Clash → Bool
are_fitting name asked wrong = is_asked_once name asked && not (is_some wrong)

abbrev pub go_together : Option (Text × List Row) → Bool
go_together found = are_fitting (file_in (codes "input") found) (asked_words_in found) (clash_in found)

-- the part of a sweep that a subcommand's option gives
abbrev pub share_among : List Row → Option Share
share_among rows = option_map share_named (first_of (codes "part") rows)

-- what the options say of a sweep
abbrev pub swept_by : List Row → ℕ → ℕ → Swept
swept_by rows runs seed = record {
  options = record {
    step = number_among 64 (codes "step") rows;
    keep_offsets = is_flagged (codes "keep-offsets") rows;
    keep_ppm = is_flagged (codes "keep-ppm") rows;
    runs = runs;
    seed = seed;
  };
  worst = is_flagged (codes "worst") rows;
  workers = workers_among rows;
  print = number_among 64 (codes "print") rows;
  page = is_flagged (codes "page") rows;
  part = share_among rows;
  join = is_flagged (codes "join") rows;
  spike = is_said (codes "spike") rows;
}

abbrev pub swept_among : List Row → Option Swept
swept_among rows =
    option_and_then (λ runs. option_and_then (λ seed. if_alone rows (swept_by rows runs seed)) (number_among 32 (codes "seed") rows)) (number_among 32 (codes "runs") rows)

-- what the options say of the settings of a bus
abbrev pub shown_among : List Row → Shown
shown_among rows = if is_flagged (codes "plan") rows then Plan else Best (number_among 32 (codes "best") rows)

-- by which limits a record text is refused
abbrev pub limits_among : List Row → Limits
limits_among rows = if is_flagged (codes "wide") rows then Wide else Narrow

-- the window that the options say: from tick 0 on where no first tick is given
abbrev pub window_among : List Row → Window
window_among rows = record { from = unwrap_or (number_among 64 (codes "since") rows) 0; to = number_among 64 (codes "until") rows }

-- how a text says ticks that take so long
abbrev pub tick_scale : Tick → Scale
tick_scale tick = record { tick = 1000 * tick_picoseconds tick; unit = 1 }

-- how many of them a text says: a number of ticks, or a time that is whole in them
abbrev pub ticks_said : Tick → Text → Option ℕ
ticks_said tick text = if is_whole_number 64 text then Some (digits_value 10 (without_leading_plus text)) else number_said Time (tick_scale tick) text

-- that of an end of a window
abbrev pub end_said : Tick → Text → Option (Option ℕ)
end_said tick text = option_map (λ n. Some n) (ticks_said tick text)

-- the end that an option gives, if it is there
abbrev pub end_among : Tick → Text → List Row → Option (Option ℕ)
end_among tick id rows = option_map_or (end_said tick) (first_of id rows) (Some None)

-- the window that the options say by ticks that take so long: from tick 0 on where no first tick is given
abbrev pub wave_by : List Row → Tick → Option Window
wave_by rows tick =
    option_and_then (λ from. option_map (λ to. record { from = unwrap_or from 0; to = to }) (end_among tick (codes "stop") rows))
    (end_among tick (codes "begin") rows)

abbrev pub wave_among : List Row → Option Window
wave_among rows = option_and_then (wave_by rows) (tick_among rows)

-- the kind of events that a text names
abbrev pub read_only : Text → Option (Option EventKind)
read_only text =
    if bytes_eq text (codes "lost") then Some (Some kinds.Lost)
    else (if bytes_eq text (codes "error") then Some (Some kinds.Error)
    else (if bytes_eq text (codes "flag") then Some (Some kinds.Flag)
    else (if bytes_eq text (codes "frame") then Some (Some kinds.Frame)
    else (if bytes_eq text (codes "mode") then Some (Some kinds.Mode)
    else (if bytes_eq text (codes "sync") then Some (Some kinds.Sync)
    else None)))))

-- the kind that the option gives; events of all kinds where it isn't given
abbrev pub only_among : List Row → Option (Option EventKind)
only_among rows = option_map_or read_only (first_of (codes "only") rows) (Some None)

-- the number of a node that the option gives
abbrev pub node_among : List Row → Option ℕ
node_among rows = option_and_then node_number (first_of (codes "node") rows)

-- what the options ask for of a plan to begin from
abbrev pub nodes_among : List Row → Option ℕ
nodes_among rows = option_map byte_or_zero (first_of (codes "nodes") rows)

abbrev pub rate_among : List Row → Option ℕ
rate_among rows = option_and_then rate_said (first_of (codes "bitrate") rows)

abbrev pub cable_among : List Row → Option ℕ
cable_among rows = option_and_then cable_said (first_of (codes "cable") rows)

abbrev pub kind_among : List Row → Option ℕ
kind_among rows = option_and_then kind_said (first_of (codes "kind") rows)

abbrev pub wish_among : List Row → Option Wish
wish_among rows =
    option_map (λ nodes. record { nodes = nodes; rate = rate_among rows; cable = cable_among rows; kind = kind_among rows }) (nodes_among rows)

-- which events the options ask for
abbrev pub pick_among : List Row → Option Pick
pick_among rows = option_map (λ only. record { window = window_among rows; node = node_among rows; only = only }) (only_among rows)

-- what the options say that only some tasks have
abbrev pub values_among : List Row → Values
values_among rows = record {
  tick = tick_among rows;
  workers = workers_among rows;
  link = link_among rows;
  swept = swept_among rows;
  shown = shown_among rows;
  strict = is_flagged (codes "strict") rows;
  explain = is_flagged (codes "explain") rows;
  all_send = is_flagged (codes "all-send") rows;
  any_data = is_flagged (codes "any-data") rows;
  limits = limits_among rows;
  from = number_among 32 (codes "from") rows;
  window = window_among rows;
  wave = wave_among rows;
  pick = pick_among rows;
  brief = is_flagged (codes "brief") rows;
  errors = is_flagged (codes "errors") rows;
  wish = wish_among rows;
}

-- a task that has values of options has these
abbrev pub HasValues : Option Values → Task → Type 0
HasValues given (Candump tick from errors window) =
    (option_and_then (λ v. v.tick) given ≡ Some tick) × (option_and_then (λ v. v.from) given ≡ Some from)
    × (option_map (λ v. v.errors) given ≡ Some errors) × (option_map (λ v. v.window) given ≡ Some window)
HasValues given (Vcd tick window) = (option_and_then (λ v. v.tick) given ≡ Some tick) × (option_and_then (λ v. v.wave) given ≡ Some window)
HasValues given (Page tick window) = (option_and_then (λ v. v.tick) given ≡ Some tick) × (option_and_then (λ v. v.wave) given ≡ Some window)
HasValues given (Margin tick all strict) =
    (option_and_then (λ v. v.tick) given ≡ Some tick) × (option_map (λ v. v.all_send) given ≡ Some all) × (option_map (λ v. v.strict) given ≡ Some strict)
HasValues given (Respond tick any strict) =
    (option_and_then (λ v. v.tick) given ≡ Some tick) × (option_map (λ v. v.any_data) given ≡ Some any) × (option_map (λ v. v.strict) given ≡ Some strict)
HasValues given (Traffic tick strict) = (option_and_then (λ v. v.tick) given ≡ Some tick) × (option_map (λ v. v.strict) given ≡ Some strict)
HasValues given (Judge tick explain) = (option_and_then (λ v. v.tick) given ≡ Some tick) × (option_map (λ v. v.explain) given ≡ Some explain)
HasValues given (Settings tick shown strict) =
    (option_and_then (λ v. v.tick) given ≡ Some tick) × (option_map (λ v. v.shown) given ≡ Some shown) × (option_map (λ v. v.strict) given ≡ Some strict)
HasValues given (Run workers kind brief strict) =
    (option_and_then (λ v. v.workers) given ≡ Some workers) × (option_and_then (λ v. v.link) given ≡ Some kind)
    × (option_map (λ v. v.brief) given ≡ Some brief) × (option_map (λ v. v.strict) given ≡ Some strict)
HasValues given (Sweep swept) = option_and_then (λ v. v.swept) given ≡ Some swept
HasValues given (Merge limits) = option_map (λ v. v.limits) given ≡ Some limits
HasValues given (Horizon limits) = option_map (λ v. v.limits) given ≡ Some limits
HasValues given Check = Unit {0}
HasValues given Upgrade = Unit {0}
HasValues given (Records window) = option_map (λ v. v.window) given ≡ Some window
HasValues given (Explain strict) = option_map (λ v. v.strict) given ≡ Some strict
HasValues given (Init wish) = option_and_then (λ v. v.wish) given ≡ Some wish
HasValues given (Trace pick) = option_and_then (λ v. v.pick) given ≡ Some pick

-- this word and these values make this task
abbrev pub NamedTask : Option Text → Option Values → Task → Type 0
NamedTask word given t = (word ≡ Some (task_word t)) × HasValues given t

-- the task that a word names by itself
abbrev pub plain_task : Text → Option Task
plain_task word =
    if bytes_eq word (codes "check") then Some Check
    else (if bytes_eq word (codes "format") then Some Upgrade
    else None)

-- the tasks with values of options that may be missing
abbrev pub run_task : Values → Option Task
run_task values = option_and_then (λ workers. option_map (λ link. Run workers link values.brief values.strict) values.link) values.workers

abbrev pub candump_task : Values → Option Task
candump_task values = option_and_then (λ tick. option_map (λ from. Candump tick from values.errors values.window) values.from) values.tick

abbrev pub trace_task : Values → Option Task
trace_task values = option_map (λ pick. Trace pick) values.pick

abbrev pub init_task : Values → Option Task
init_task values = option_map (λ wish. Init wish) values.wish

abbrev pub judgement_task : Values → Option Task
judgement_task values = option_map (λ tick. Judge tick values.explain) values.tick

abbrev pub sweep_task : Values → Option Task
sweep_task values = option_map (λ swept. Sweep swept) values.swept

abbrev pub vcd_task : Values → Tick → Option Task
vcd_task values tick = option_map (λ window. Vcd tick window) values.wave

abbrev pub page_task : Values → Tick → Option Task
page_task values tick = option_map (λ window. Page tick window) values.wave

-- the task that a word names with a tick
abbrev pub timed_task : Text → Values → Tick → Option Task
timed_task word values tick =
    if bytes_eq word (codes "vcd") then vcd_task values tick
    else (if bytes_eq word (codes "page") then page_task values tick
    else (if bytes_eq word (codes "margin") then Some (Margin tick values.all_send values.strict)
    else (if bytes_eq word (codes "traffic") then Some (Traffic tick values.strict)
    else (if bytes_eq word (codes "settings") then Some (Settings tick values.shown values.strict)
    else (if bytes_eq word (codes "respond") then Some (Respond tick values.any_data values.strict)
    else None)))))

-- the task that a word names if it is `init` or `judge`, or over the ticks of the values
abbrev pub begun_task : Text → Values → Option Task
begun_task word values =
    if bytes_eq word (codes "init") then init_task values
    else (if bytes_eq word (codes "judge") then judgement_task values else option_and_then (timed_task word values) values.tick)

-- the task that a word names with values of options
abbrev pub valued_task : Text → Values → Option Task
valued_task word values =
    if bytes_eq word (codes "merge") then Some (Merge values.limits)
    else (if bytes_eq word (codes "horizon") then Some (Horizon values.limits)
    else (if bytes_eq word (codes "records") then Some (Records values.window)
    else (if bytes_eq word (codes "explain") then Some (Explain values.strict)
    else (if bytes_eq word (codes "run") then run_task values
    else (if bytes_eq word (codes "trace") then trace_task values
    else (if bytes_eq word (codes "candump") then candump_task values
    else (if bytes_eq word (codes "sweep") then sweep_task values
    else begun_task word values)))))))

-- the first of two
abbrev pub or_task : Option Task → Option Task → Option Task
or_task (Some t) other = Some t
or_task None other = other

-- the task that a word and values name, if they name one
abbrev pub task_named : Option Text → Option Values → Option Task
task_named None given = None
task_named (Some word) given = or_task (plain_task word) (option_and_then (valued_task word) given)

-- a subcommand with its rows makes this task
abbrev pub FoundTask : Option (Text × List Row) → Task → Type 0
FoundTask found t = NamedTask (word_in found) (option_map (λ p. values_among p.1) found) t

-- clap enters the task's subcommand at these words, with the task's values, a format that there is, and options that go together, and finds no
-- fault in them
abbrev pub Enters : Task → List Text → Type 0
Enters t words =
    FoundTask (entered words) t × (fault_of program words ≡ []) × (is_some (format_in (entered words)) ≡ true) × (go_together (entered words) ≡ true)

-- what is swept where the words say nothing of it
abbrev pub plainly_swept : Swept
plainly_swept = record {
  options = record { step = None; keep_offsets = false; keep_ppm = false; runs = 1000; seed = 1 };
  worst = false;
  workers = None;
  print = None;
  page = false;
  part = None;
  join = false;
  spike = false;
}

-- where the words say nothing of it a tick is a nanosecond, one worker runs, over a hub if it were several, all settings are listed, and the status
-- says nothing of a run, tick 0 is at second 0, all of a run is written, and a report has its lines of frames
abbrev pub plain_values : Values
plain_values = record {
  tick = Some (record { count = 1; unit = Nanosecond });
  workers = Some 1;
  link = Some Hub;
  swept = Some plainly_swept;
  strict = false;
  explain = false;
  all_send = false;
  any_data = false;
  limits = Narrow;
  shown = Best None;
  from = Some 0;
  window = record { from = 0; to = None };
  wave = Some (record { from = 0; to = None });
  pick = Some (record { window = record { from = 0; to = None }; node = None; only = None });
  brief = false;
  errors = false;
  wish = Some (record { nodes = 2; rate = rate_said (codes "500k"); cable = cable_said (codes "40m"); kind = kind_said (codes "mcp2515") });
}

-- the program's own name, and after it the word of the task alone: clap enters the task there, with plain values
abbrev pub NamesTask : Task → List Text → Type 0
NamesTask t words = (name : Text) × HasValues (Some plain_values) t × (words ≡ name ∷ task_word t ∷ [])
