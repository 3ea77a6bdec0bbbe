-- The report of an outcome as text (this project's profile).
use Rattle.std.specs.Prelude.{ℕ, Bool, true, false, ◌==◌, ◌&&◌, if◌then◌else◌, List, [], ◌∷◌, ◌++◌, codes}
use Rattle.std.specs.List.{flat_map, list_all, enumerate_from, sum_by}
use Rattle.std.specs.Fmt.{decimal}
use Rattle.wl_confine.specs.Counts.{mode_of}
use Rattle.wl_frame.specs.Grammar.{Content}
use Rattle.wl_node.specs.declared.setup.Passed.{Passed}
use Rattle.wl_serial.specs.declared.outcome.NodeTotals.{NodeTotals}
use Rattle.wl_report.specs.Lines.{line, hexadecimal, bytes_word, mode_word, way_word, kind_word, error_word}

-- what is reported of a node: its counters and mode, how many errors, samples and synchronisations there were, and the
-- least and the greatest phase error
abbrev pub node_report_line : ℕ → NodeTotals → List ℕ
node_report_line i n =
    line (codes "node") (decimal i
    ∷ codes "tec" ∷ decimal n.counters.tec
    ∷ codes "rec" ∷ decimal n.counters.rec
    ∷ codes "mode" ∷ mode_word (mode_of n.counters)
    ∷ codes "errors" ∷ decimal n.errors
    ∷ codes "samples" ∷ decimal n.samples
    ∷ codes "hard" ∷ decimal n.hards
    ∷ codes "sync" ∷ decimal n.phases.count
    ∷ codes "least" ∷ error_word n.phases.least
    ∷ codes "greatest" ∷ error_word n.phases.greatest ∷ [])

-- how many hexadecimal digits an identifier of 11 bits has, and one of 29
abbrev pub id_digits : Bool → ℕ
id_digits true = 8
id_digits false = 3

-- what a frame carries, as it ends the line of a frame
abbrev pub content_text : Content → List ℕ
content_text c =
    hexadecimal (id_digits c.extended) c.id ++ codes " " ++ kind_word c.remote ++ codes " " ++ decimal c.dlc ++ codes " " ++ bytes_word c.bytes

-- a frame that passed through a node: which way, the quantum of the sample that completed it, and what it carries
abbrev pub frame_words : ℕ → Passed → List (List ℕ)
frame_words i p =
    decimal i ∷ way_word p.sent ∷ decimal p.quantum ∷ hexadecimal (id_digits p.frame.extended) p.frame.id ∷ kind_word p.frame.remote
    ∷ decimal p.frame.dlc ∷ []

abbrev pub frame_line : ℕ → Passed → List ℕ
frame_line i p = line (codes "frame") (frame_words i p ++ bytes_word p.frame.bytes ∷ [])

-- the line of a numbered node, and then its frames as they passed
abbrev pub node_report_lines : ℕ × NodeTotals → List ℕ
node_report_lines n = node_report_line n.0 n.1 ++ flat_map (frame_line n.0) n.1.frames

-- no error, and no frame left to send
abbrev pub is_clean : NodeTotals → Bool
is_clean n = n.errors == 0 && n.unsent == 0

-- how many errors and unsent frames there are in all
abbrev pub faulty_line : List NodeTotals → List ℕ
faulty_line nodes =
    line (codes "verdict") (codes "faulty"
    ∷ codes "errors" ∷ decimal (sum_by (λ n. n.errors) nodes)
    ∷ codes "unsent" ∷ decimal (sum_by (λ n. n.unsent) nodes) ∷ [])

-- the verdict on all nodes
abbrev pub verdict_line : List NodeTotals → List ℕ
verdict_line nodes = if list_all is_clean nodes then line (codes "verdict") (codes "clean" ∷ []) else faulty_line nodes

-- the report: node by node in order, and last the verdict
abbrev pub report_text : List NodeTotals → List ℕ
report_text nodes = flat_map node_report_lines (enumerate_from 0 nodes) ++ verdict_line nodes
