-- How long each message that comes again waits at most, if that is proved (this project's profile).
use Rattle.std.specs.Prelude.{ℕ, ◌==◌, List, [], ◌∷◌, ◌++◌, codes, length, if◌then◌else◌, Option, Some, None}
use Rattle.std.specs.Fmt.{decimal}
use Rattle.wl_margin.specs.Pieces.{each_below, joined, thousandths}
use Rattle.wl_setup.specs.Names.{name_of}
use Rattle.wl_respond.specs.declared.asked.Asked.{Asked}
use Rattle.wl_respond.specs.declared.bounds.Waits.{Waits}
use Rattle.wl_respond.specs.declared.message.MessageWait.{MessageWait}
use Rattle.wl_respond.specs.declared.parts.Line.{Line}
use Rattle.wl_respond.specs.declared.parts.Parts.{Parts}
use Rattle.wl_respond.specs.declared.premise.Lacking.{Lacking}
use Rattle.wl_respond.specs.Asks.{asked_at, once}
use Rattle.wl_respond.specs.Texts.{id_words, told_line_at}

abbrev pub bound_head : List (List ℕ) → MessageWait → List ℕ
bound_head names x = joined (codes "bound " ∷ decimal x.node ∷ codes " " ∷ name_of names x.node ∷ codes " " ∷ id_words x ∷ [])

abbrev pub bound_times : Parts → List ℕ
bound_times p = joined (codes " at most " ∷ decimal p.quanta ∷ codes " quanta " ∷ thousandths p.bound ∷ codes " us, proved\n" ∷ [])

-- the line of a message, if it has a bound
abbrev pub bound_line : List (List ℕ) → MessageWait → Option Parts → List ℕ
bound_line names x None = []
bound_line names x (Some p) = bound_head names x ++ bound_times p

-- a message that comes once has no line
abbrev pub bound_line_at : List (List ℕ) → List Asked → List Line → ℕ → List ℕ
bound_line_at names asked lines e =
    if (asked_at asked e).every == once then [] else bound_line names (asked_at asked e).message (told_line_at lines e).parts

-- They are proved if no premise lacks.
abbrev pub proved_bounds : List (List ℕ) → List Asked → List Line → Option Lacking → List ℕ
proved_bounds names asked lines None = each_below (bound_line_at names asked lines) (length lines)
proved_bounds names asked lines (Some lacking) = []

abbrev pub bound_lines : List (List ℕ) → Option Waits → List ℕ
bound_lines names None = []
bound_lines names (Some w) = proved_bounds names w.asked w.lines w.lacking
