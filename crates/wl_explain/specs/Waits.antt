-- Which messages may wait for too long: the words of doubts (this project's profile).
use Rattle.std.specs.Prelude.{ℕ, ◌+◌, nat_lt, Bool, true, false, List, [], ◌∷◌, ◌++◌, codes, length, Option, Some, None, if◌then◌else◌}
use Rattle.wl_margin.specs.Pieces.{each_below, hundredths, joined, thousandths}
use Rattle.wl_setup.specs.Names.{name_of}
use Rattle.wl_respond.specs.declared.asked.Asked.{Asked}
use Rattle.wl_respond.specs.declared.bounds.Waits.{Waits}
use Rattle.wl_respond.specs.declared.message.MessageWait.{MessageWait}
use Rattle.wl_respond.specs.declared.parts.Line.{Line}
use Rattle.wl_respond.specs.declared.parts.Parts.{Parts}
use Rattle.wl_respond.specs.Parts.{counted_time}
use Rattle.wl_respond.specs.Asks.{asked_at}
use Rattle.wl_respond.specs.Texts.{id_words, misses, told_line_at}

-- A message may miss its deadline. Its jitter is a part of the time that it takes (Davis, Burns, Bril, Lukkien 2007, section 2).
abbrev pub overdue_head : List (List ℕ) → MessageWait → List ℕ
overdue_head names x = joined (codes "doubt: " ∷ id_words x ∷ codes " of " ∷ name_of names x.node ∷ [])

abbrev pub overdue_times : (time deadline : ℕ) → List ℕ
overdue_times time deadline =
    joined (codes " may take " ∷ thousandths time ∷ codes " us, and its deadline is " ∷ thousandths deadline ∷ codes " us\n" ∷ [])

abbrev pub overdue_by : List (List ℕ) → MessageWait → (jitter : ℕ) → Option Parts → Option ℕ → List ℕ
overdue_by names x jitter None deadline = []
overdue_by names x jitter (Some p) None = []
overdue_by names x jitter (Some p) (Some deadline) = overdue_head names x ++ overdue_times (counted_time (p.bound + jitter)) deadline

abbrev pub overdue_line : List (List ℕ) → MessageWait → Line → List ℕ
overdue_line names x line = overdue_by names x line.jitter line.parts line.deadline

abbrev pub overdue_at : List (List ℕ) → List Asked → List Line → ℕ → List ℕ
overdue_at names asked lines e = if misses lines e then overdue_line names (asked_at asked e).message (told_line_at lines e) else []

abbrev pub jitter_tail : List ℕ → List ℕ
jitter_tail a = joined (codes " of " ∷ a ∷ codes " isn't less than its period\n" ∷ [])

-- or there is no bound: the jitter of a message leaves nothing of its period, or the bus may be full
abbrev pub jitter_words : List (List ℕ) → MessageWait → List ℕ
jitter_words names x = codes "doubt: the jitter of " ++ id_words x ++ jitter_tail (name_of names x.node)

abbrev pub bus_full_words : ℕ → List ℕ
bus_full_words load = joined (codes "doubt: the bus load is up to " ∷ hundredths load ∷ codes " %, so no wait is bounded\n" ∷ [])

abbrev pub full_doubt : ℕ → List ℕ
full_doubt load = if nat_lt 10000 load then bus_full_words load else []

abbrev pub open_doubt : List (List ℕ) → List Asked → (load : ℕ) → Option ℕ → List ℕ
open_doubt names asked load None = full_doubt load
open_doubt names asked load (Some e) = jitter_words names (asked_at asked e).message

abbrev pub doubts_of : List (List ℕ) → (shown : Bool) → Waits → List ℕ
doubts_of names true w = each_below (overdue_at names w.asked w.lines) (length w.lines)
doubts_of names false w = open_doubt names w.asked w.load w.jittered

-- by the waits of a bus, if there are any
abbrev pub wait_doubts : List (List ℕ) → Option Waits → List ℕ
wait_doubts names None = []
wait_doubts names (Some w) = doubts_of names w.shown w
