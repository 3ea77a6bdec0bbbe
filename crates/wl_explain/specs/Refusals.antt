-- The text on a plan that is refused: what is wrong, with its place, keys and values, and what to change (this project's profile).
use Rattle.std.specs.Prelude.{◌≡◌, ◌≤◌, ◌==◌, ◌+◌, ◌||◌, nat_lt, nat_le, ℕ, ℤ, pos, negsuc, Bool, true, false, List, [], ◌∷◌, ◌++◌, codes, length, take, filter, if◌then◌else◌, Option, Some, None, is_some, option_and_then}
use Rattle.std.specs.Fmt.{decimal, digits, signed_decimal}
use Rattle.std.specs.List.{flat_map, list_any}
use Rattle.std.specs.Str.{bytes_eq}
use Rattle.toml.specs.Data.{Data, string, integer, float, boolean, datetime, array, table, Members, get_member}
use Rattle.wl_clock.specs.declared.ClockFault.{ClockFault}
use Rattle.wl_clock.specs.declared.ClockFault.TheVariants as clock
use Rattle.wl_segments.specs.declared.SegmentsFault.{SegmentsFault}
use Rattle.wl_segments.specs.declared.SegmentsFault.TheVariants as segments
use Rattle.wl_frame.specs.declared.frame.FrameFault.{FrameFault}
use Rattle.wl_frame.specs.declared.frame.FrameFault.TheVariants as frame
use Rattle.wl_topology.specs.declared.TopologyFault.{TopologyFault}
use Rattle.wl_topology.specs.declared.TopologyFault.TheVariants as topology
use Rattle.wl_plan.specs.declared.check.PlanFault.{PlanFault}
use Rattle.wl_plan.specs.declared.check.PlanFault.TheVariants as plan
use Rattle.wl_setup.specs.declared.keys.Key.{Key}
use Rattle.wl_setup.specs.declared.keys.Key.TheVariants as key
use Rattle.wl_setup.specs.declared.fault.SetupFault.{SetupFault}
use Rattle.wl_setup.specs.declared.fault.SetupFault.TheVariants as fault
use Rattle.wl_setup.specs.declared.table_path.TablePath.{TablePath}
use Rattle.wl_setup.specs.declared.table_path.TablePath.TheVariants.{Top, Controller, Node, Rate, Frame, Disturbance}
use Rattle.wl_setup.specs.Keys.{key_text}
use Rattle.wl_setup.specs.Kinds.{list_of, value_at}
use Rattle.wl_setup.specs.Reading.{document_of}
use Rattle.wl_setup.specs.Shown.{shown}
use Rattle.wl_setup.specs.Document.{fault_path}
use Rattle.wl_setup.specs.TablePaths.{table_at}
use Rattle.wl_explain.specs.declared.remedies.TextForm.{TextForm}
use Rattle.wl_explain.specs.declared.remedies.TextForm.TheVariants as form
use Rattle.wl_explain.specs.Remedies.{cause, cause_in, remedy, remedy_in}

-- what a value is
abbrev pub truth_words : Bool → List ℕ
truth_words true = codes "true"
truth_words false = codes "false"

abbrev pub value_words : Data → List ℕ
value_words (string s) = codes "\"" ++ shown s ++ codes "\""
value_words (integer z) = signed_decimal z
value_words (float x) = codes "a number with a fraction"
value_words (boolean b) = truth_words b
value_words (datetime t) = codes "a date or a time"
value_words (array items) = codes "an array of " ++ decimal (length (list_of items))
value_words (table ms) = codes "a table"

-- beside the value of an identifier, its hexadecimal digits: a document doesn't tell in which base a number was written
abbrev pub hexadecimal_words : ℤ → List ℕ
hexadecimal_words (pos n) = codes " (0x" ++ digits 16 true n ++ codes ")"
hexadecimal_words (negsuc n) = []

abbrev pub beside_words : List ℕ → Data → List ℕ
beside_words label (integer z) = if bytes_eq label (key_text key.Id) then hexadecimal_words z else []
beside_words label _ = []

-- a key with its value, where it is there
abbrev pub valued : List ℕ → List ℕ → List ℕ → List ℕ
valued label said beside = codes ", " ++ label ++ codes " = " ++ said ++ beside

abbrev pub key_words : List ℕ → Option Data → List ℕ
key_words label None = []
key_words label (Some d) = valued label (value_words d) (beside_words label d)

abbrev pub keys_words : List Key → Option Members → List ℕ
keys_words keys None = []
keys_words keys (Some t) = flat_map (λ k. key_words (key_text k) (value_at k t)) keys

-- a node by its number, and its name where the text gives one
abbrev pub name_words : Option Data → List ℕ
name_words (Some (string s)) = codes " " ++ shown s
name_words _ = []

abbrev pub node_called : Members → ℕ → List ℕ
node_called top i = codes "node " ++ decimal i ++ name_words (option_and_then (value_at key.Name) (table_at (Node i) top))

abbrev pub rate_called : List ℕ → ℕ → List ℕ
rate_called node n = node ++ codes ", rate " ++ decimal n

abbrev pub frame_called : List ℕ → ℕ → List ℕ
frame_called node n = node ++ codes ", frame " ++ decimal n

abbrev pub path_words : Members → TablePath → List ℕ
path_words top Top = codes "the plan"
path_words top (Controller n) = codes "controller " ++ decimal n
path_words top (Node i) = node_called top i
path_words top (Rate i n) = rate_called (node_called top i) n
path_words top (Frame i n) = frame_called (node_called top i) n
path_words top (Disturbance n) = codes "disturbance " ++ decimal n

-- a table, and what some of its keys say
abbrev pub subject_words : Members → TablePath → List Key → List ℕ
subject_words top path keys = path_words top path ++ keys_words keys (table_at path top)

-- the keys that a refused clock, segments and a frame are made of
abbrev pub keys_of_clock : ClockFault → List Key
keys_of_clock clock.BigOffset = key.Offset ∷ []
keys_of_clock _ = key.Quantum ∷ key.Ppm ∷ key.Num ∷ key.Den ∷ key.Rates ∷ []

abbrev pub keys_of_segments : SegmentsFault → List Key
keys_of_segments segments.Prop = key.Prop ∷ []
keys_of_segments segments.Phase1 = key.Ps1 ∷ key.Tseg1 ∷ []
keys_of_segments segments.Phase2 = key.Ps2 ∷ key.Tseg2 ∷ []
keys_of_segments segments.Jump = key.Sjw ∷ key.Ps1 ∷ key.Tseg1 ∷ key.Tseg2 ∷ []
keys_of_segments segments.Length = key.Prop ∷ key.Ps1 ∷ key.Ps2 ∷ key.Tseg1 ∷ key.Tseg2 ∷ []

abbrev pub keys_of_frame : FrameFault → List Key
keys_of_frame frame.Id = key.Id ∷ key.Extended ∷ []
keys_of_frame frame.Dlc = key.Dlc ∷ []
keys_of_frame frame.DataLength = key.Dlc ∷ key.Remote ∷ key.Bytes ∷ []
keys_of_frame frame.ExtendedId = key.Id ∷ key.Extended ∷ []

-- the one or two tables that a fault of the topology, or of the whole plan, is about
abbrev pub two_nodes : Members → ℕ → ℕ → List ℕ
two_nodes top i j =
    subject_words top (Node i) (key.X ∷ key.Out ∷ []) ++ codes "; " ++ subject_words top (Node j) (key.X ∷ key.In ∷ [])

abbrev pub topology_subject : Members → TopologyFault → List ℕ
topology_subject top topology.NoNodes = subject_words top Top (key.Node ∷ [])
topology_subject top topology.TooManyNodes = subject_words top Top (key.Node ∷ [])
topology_subject top (topology.ZeroDelay i j) = two_nodes top i j
topology_subject top (topology.TooLong i j) = two_nodes top i j

abbrev pub quanta_words : Members → ℕ → List ℕ
quanta_words top i =
    subject_words top Top (key.End ∷ key.Sync ∷ []) ++ codes "; " ++ subject_words top (Node i) (key.Offset ∷ key.Quantum ∷ key.Ppm ∷ key.Num ∷ key.Den ∷ key.Rates ∷ [])

abbrev pub plan_subject : Members → PlanFault → List ℕ
plan_subject top plan.Nodes = subject_words top Top (key.Node ∷ [])
plan_subject top plan.End = subject_words top Top (key.End ∷ [])
plan_subject top (plan.Quanta i) = quanta_words top i
plan_subject top (plan.Queue i) = subject_words top (Node i) (key.Frame ∷ [])
plan_subject top (plan.Disturbance n) = subject_words top (Disturbance n) (key.X ∷ key.AtNode ∷ key.From ∷ key.To ∷ [])

-- a key that a table lacks, or one with its value
abbrev pub lacking : List ℕ → List ℕ → List ℕ
lacking place k = place ++ codes ", no " ++ k

abbrev pub missing_words : Members → TablePath → List ℕ → List ℕ
missing_words top path k = lacking (path_words top path) (shown k)

abbrev pub named_words : Members → TablePath → List ℕ → List ℕ
named_words top path k = path_words top path ++ key_words (shown k) (option_and_then (get_member k) (table_at path top))

-- what a fault in a table is about; a fault of numbers names its tables itself
abbrev pub subject : Members → TablePath → SetupFault → List ℕ
subject top path fault.Version = subject_words top Top (key.Version ∷ [])
subject top path (fault.Missing k) = missing_words top path k
subject top path (fault.Kind k) = named_words top path k
subject top path (fault.Unknown k) = named_words top path k
subject top path (fault.NodeClock i f) = subject_words top (Node i) (keys_of_clock f)
subject top path (fault.NodeSegments i f) = subject_words top (Node i) (keys_of_segments f)
subject top path (fault.NodeFrame i n f) = subject_words top (Frame i n) (keys_of_frame f)
subject top path (fault.Topology f) = topology_subject top f
subject top path (fault.Plan f) = plan_subject top f
subject top path _ = codes "the plan"

-- the two lines
abbrev pub lines : List ℕ → List ℕ → List ℕ → List ℕ
lines about wrong change = codes "wrong: " ++ about ++ codes ": " ++ wrong ++ codes "\nchange: " ++ change ++ codes "\n"

-- a document is of version 4
abbrev pub is_four : Data → Bool
is_four (integer (pos n)) = n == 4
is_four _ = false

abbrev pub is_wide_by : Option Data → Bool
is_wide_by None = false
is_wide_by (Some d) = is_four d

abbrev pub is_wide : Members → Bool
is_wide top = is_wide_by (value_at key.Version top)

-- a node's table has keys of a controller's segments
abbrev pub has_controller_keys : Option Members → Bool
has_controller_keys None = false
has_controller_keys (Some node) = is_some (value_at key.Tseg1 node) || is_some (value_at key.Tseg2 node)

-- by which words a fault is explained
abbrev pub wide_form : Members → SetupFault → TextForm
wide_form top (fault.NodeSegments i f) = if has_controller_keys (table_at (Node i) top) then form.Controller else form.Wide
wide_form top _ = form.Wide

abbrev pub form_of : Members → SetupFault → TextForm
form_of top f = if is_wide top then wide_form top f else form.Narrow

abbrev pub refusal_words : Members → TablePath → SetupFault → List ℕ
refusal_words top path f = lines (subject top path f) (cause_in (form_of top f) f) (remedy_in (form_of top f) f)

-- the line of a text's place, and its column in characters, both from 1
abbrev pub is_newline : ℕ → Bool
is_newline b = b == 10

abbrev pub begins_letter : ℕ → Bool
begins_letter b = nat_lt b 128 || nat_le 192 b

-- what stands before a place in its line
abbrev pub in_line : List ℕ → List ℕ
in_line [] = []
in_line (b ∷ more) = if list_any is_newline (b ∷ more) then in_line more else b ∷ more

abbrev pub line_number : List ℕ → ℕ
line_number before = 1 + length (filter is_newline before)

abbrev pub column_number : List ℕ → ℕ
column_number before = 1 + length (filter begins_letter (in_line before))

-- the column behind a byte that stands in a column
abbrev pub column_behind : ℕ → ℕ → ℕ
column_behind column b = if is_newline b then 1 else (if begins_letter b then column + 1 else column)

abbrev pub place_words : ℕ → ℕ → List ℕ
place_words line column = codes "line " ++ decimal line ++ codes ", column " ++ decimal column

abbrev pub toml_words : List ℕ → List ℕ
toml_words before = lines (place_words (line_number before) (column_number before)) (cause fault.Toml) (remedy fault.Toml)

abbrev pub size_words : List ℕ
size_words = lines (codes "the plan") (cause fault.Size) (remedy fault.Size)

-- the text on a document's fault; where there is no document, the text names a place in it
abbrev pub IsDocumentRefusal : Option Members → List ℕ → SetupFault → List ℕ → Type 0
IsDocumentRefusal None text f said = (place : ℕ) × (place ≤ length text) × (said ≡ toml_words (take place text))
IsDocumentRefusal (Some top) text f said = said ≡ refusal_words top (fault_path top) f

-- the text on a refused plan's text, by its fault
abbrev pub IsRefusal : List ℕ → SetupFault → List ℕ → Type 0
IsRefusal text f said = IsDocumentRefusal (document_of text) text f said
