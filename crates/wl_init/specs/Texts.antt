-- The text of a plan to begin from, letter for letter (this project's profile; the keys are those of a plan's text).
use Rattle.std.specs.Prelude.{◌≡◌, String, string_bytes, false, ℕ, zero, suc, ◌+◌, ◌-◌, ◌*◌, ◌/◌, ◌%◌, ◌==◌, max, List, [], ◌++◌, codes, if◌then◌else◌}
use Rattle.std.specs.Fmt.{decimal, digits}
use Rattle.wl_init.specs.declared.bits.BitSetting.{BitSetting}
use Rattle.wl_init.specs.declared.text.TheConstants.{REST, SYNC, TOP}
use Rattle.wl_init.specs.declared.draft.Draft.{Draft}
use Rattle.wl_init.specs.Drafts.{kind_word}

-- a text has these bytes more, at its end
abbrev pub HasGrownBy : {Z : Type 0} → String Z → String Z → List ℕ → Type 0
HasGrownBy old new more = string_bytes new ≡ string_bytes old ++ more

-- a length of so many units of 20 cm, in metres
unfoldable pub length_words : ℕ → List ℕ
length_words units =
    if units % 5 == 0 then decimal (units / 5) ++ codes "m" else decimal (units / 5) ++ codes "." ++ decimal (2 * (units % 5)) ++ codes "m"

-- a bit rate
unfoldable pub rate_words : ℕ → List ℕ
rate_words rate = if rate % 1000 == 0 then decimal (rate / 1000) ++ codes "kbit/s" else decimal rate ++ codes "bit/s"

-- some words
unfoldable pub fixed_words : List ℕ → List ℕ
fixed_words words = words

unfoldable pub nodes_words : ℕ → List ℕ
nodes_words nodes = codes "# A bus of " ++ decimal nodes ++ codes " nodes at "

-- what the plan is
abbrev pub title_words : Draft → List ℕ
title_words d =
    nodes_words d.asked.nodes ++ rate_words d.asked.rate ++ fixed_words (codes " on a cable of ") ++ length_words d.asked.cable
    ++ fixed_words (codes ", to begin from: change what differs on yours.\n")

-- the top table: the run ends after three cycles
abbrev pub end_of_run : Draft → ℕ
end_of_run d = 3 * d.cycle

unfoldable pub end_line : ℕ → List ℕ
end_line end = codes "end = \"" ++ decimal end ++ codes "ms\"  # when the run ends\n"

-- the table of the controllers
unfoldable pub kind_line : List ℕ → List ℕ
kind_line kind = codes "kind = \"" ++ kind ++ codes "\"  # which settings the controller can have\n"

unfoldable pub clock_line : ℕ → List ℕ
clock_line clock = codes "clock = \"" ++ decimal clock ++ codes "MHz\"  # the controller's\n"

unfoldable pub prescaler_words : ℕ → List ℕ
prescaler_words prescaler = codes "\"  # so the prescaler is " ++ decimal prescaler ++ codes "\n"

abbrev pub bitrate_lines : Draft → List ℕ
bitrate_lines d = fixed_words (codes "bitrate = \"") ++ rate_words d.asked.rate ++ prescaler_words d.setting.prescaler

unfoldable pub tseg1_line : ℕ → List ℕ
tseg1_line tseg1 = codes "tseg1 = " ++ decimal tseg1 ++ codes "  # PROP_SEG and PHASE_SEG1, in quanta\n"

unfoldable pub tseg2_line : ℕ → List ℕ
tseg2_line tseg2 = codes "tseg2 = " ++ decimal tseg2 ++ codes "  # PHASE_SEG2, in quanta: it is after the sample\n"

unfoldable pub sjw_line : ℕ → List ℕ
sjw_line jump = codes "sjw = " ++ decimal jump ++ codes "  # resynchronisation jump width, in quanta\n"

abbrev pub setting_lines : BitSetting → List ℕ
setting_lines s = tseg1_line s.shape.tseg1 ++ tseg2_line s.shape.tseg2 ++ sjw_line s.jump

abbrev pub controller_lines : Draft → List ℕ
controller_lines d =
    fixed_words (codes "\n[controller.ecu]  # what the nodes have in common\n") ++ kind_line (kind_word d.asked.kind) ++ clock_line d.clock
    ++ bitrate_lines d ++ setting_lines d.setting ++ fixed_words REST.now

-- the place of node i in units of 20 cm: the first and the last are at the ends of the cable, the others evenly between them
abbrev pub ecu_units : Draft → ℕ → ℕ
ecu_units d i = d.asked.cable * i / max (d.asked.nodes - 1) 1

-- the end of a line: at the first node with a remark
unfoldable pub line_end : ℕ → List ℕ → List ℕ
line_end i remark = if i == 0 then codes "  # " ++ remark ++ codes "\n" else codes "\n"

unfoldable pub remarked_line : ℕ → List ℕ → List ℕ → List ℕ
remarked_line i line remark = line ++ line_end i remark

-- a node
abbrev pub ecu_number : ℕ → ℕ
ecu_number i = i + 1

unfoldable pub ecu_name : ℕ → List ℕ
ecu_name number = codes "name = \"ecu" ++ decimal number ++ codes "\""

unfoldable pub ecu_offset : ℕ → List ℕ
ecu_offset i = codes "offset = \"" ++ decimal i ++ codes "us\""

abbrev pub ecu_place : Draft → ℕ → List ℕ
ecu_place d i = fixed_words (codes "x = \"") ++ length_words (ecu_units d i) ++ remarked_line i (codes "\"") (codes "its place on the cable")

abbrev pub ecu_lines : Draft → ℕ → List ℕ
ecu_lines d i =
    remarked_line i (codes "\n[[node]]") (codes "a controller on the cable") ++ ecu_name (ecu_number i)
    ++ line_end i (codes "up to 32 letters, digits, _ and -")
    ++ remarked_line i (codes "controller = \"ecu\"") (codes "the table above; a key here goes before its")
    ++ ecu_offset i ++ line_end i (codes "when it is powered up") ++ ecu_place d i

-- its frame
abbrev pub id_of : ℕ → ℕ
id_of i = 256 + i

unfoldable pub id_line : ℕ → List ℕ
id_line id = codes "id = 0x" ++ digits 16 false id

unfoldable pub cycle_words : List ℕ → ℕ → List ℕ
cycle_words key cycle = key ++ codes " = \"" ++ decimal cycle ++ codes "ms\""

abbrev pub data_lines : ℕ → List ℕ
data_lines i =
    remarked_line i (codes "\n[[node.frame]]") (codes "a message of the node, which may have several") ++ id_line (id_of i)
    ++ line_end i (codes "identifier: of two the lesser goes first")
    ++ remarked_line i (codes "dlc = 8") (codes "data length code: the number of bytes")
    ++ remarked_line i (codes "bytes = [1, 2, 3, 4, 5, 6, 7, 8]") (codes "the data")

abbrev pub time_lines : (cycle i : ℕ) → List ℕ
time_lines cycle i =
    cycle_words (codes "at") cycle ++ line_end i (codes "when it is ready to be sent") ++ cycle_words (codes "cycle") cycle
    ++ line_end i (codes "after which time it is ready again, and again") ++ cycle_words (codes "deadline") cycle
    ++ line_end i (codes "within which time it has to be sent")

unfoldable pub node_tables : Draft → ℕ → List ℕ
node_tables d i = ecu_lines d i ++ data_lines i ++ time_lines d.cycle i

-- the first nodes
abbrev pub tables_below : Draft → ℕ → List ℕ
tables_below d zero = []
tables_below d (suc n) = tables_below d n ++ node_tables d n

-- the whole text
abbrev pub first_plan_words : Draft → List ℕ
first_plan_words d = title_words d ++ fixed_words TOP.now ++ end_line (end_of_run d) ++ fixed_words SYNC.now ++ controller_lines d ++ tables_below d d.asked.nodes
