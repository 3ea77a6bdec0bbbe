-- How long the messages of a bus may wait, in three lines (this project's profile).
use Rattle.std.specs.Prelude.{◌≡◌, ℕ, zero, suc, ◌==◌, nat_lt, not, Bool, true, false, List, [], ◌∷◌, ◌++◌, codes, length, if◌then◌else◌, Option, Some, None}
use Rattle.wl_setup.specs.Names.{name_of}
use Rattle.wl_setup.specs.declared.bus.Bus.{Bus}
use Rattle.wl_setup.specs.declared.plan_text.PlanText.{PlanText}
use Rattle.wl_topology.specs.Driven.{any_below}
use Rattle.wl_lines.specs.Shapes.{TextLine, line_text}
use Rattle.wl_margin.specs.Pieces.{joined, thousandths}
use Rattle.wl_respond.specs.declared.asked.Asked.{Asked}
use Rattle.wl_respond.specs.declared.bounds.Waits.{Waits}
use Rattle.wl_respond.specs.declared.parts.Line.{Line}
use Rattle.wl_respond.specs.declared.parts.Parts.{Parts}
use Rattle.wl_respond.specs.declared.verdict.Outcome.{Outcome}
use Rattle.wl_respond.specs.Asks.{asked_at, once}
use Rattle.wl_respond.specs.Bounds.{AreWaitsOf}
use Rattle.wl_respond.specs.Texts.{id_words, lacking_line, outcome_in, told_line_at, verdict_line}

-- some message has a period
abbrev pub comes_again : List Asked → ℕ → Bool
comes_again asked e = not ((asked_at asked e).every == once)

abbrev pub is_cyclic : List Asked → Bool
is_cyclic asked = any_below (length asked) (comes_again asked)

-- the bound of a message, in thousandths of a microsecond, 0 if it has none
abbrev pub bound_in : Option Parts → ℕ
bound_in None = 0
bound_in (Some p) = p.bound

abbrev pub bound_of_line : List Line → ℕ → ℕ
bound_of_line lines e = bound_in (told_line_at lines e).parts

-- the first of the messages that wait longest, of those below a number
abbrev pub longer_wait : List Line → Option ℕ → ℕ → Option ℕ
longer_wait lines None e = Some e
longer_wait lines (Some k) e = if nat_lt (bound_of_line lines k) (bound_of_line lines e) then Some e else Some k

abbrev pub longest_below : List Line → ℕ → Option ℕ
longest_below lines zero = None
longest_below lines (suc e) = longer_wait lines (longest_below lines e) e

-- how long it waits
abbrev pub longest_head : ℕ → List ℕ
longest_head bound = joined (codes "waits: longest " ∷ thousandths bound ∷ codes " us, " ∷ [])

abbrev pub longest_tail : List ℕ → List ℕ
longest_tail a = joined (codes " of " ∷ a ∷ codes "\n" ∷ [])

abbrev pub longest_line : List (List ℕ) → Asked → ℕ → List ℕ
longest_line names a bound = longest_head bound ++ id_words a.message ++ longest_tail (name_of names a.message.node)

abbrev pub longest_at : List (List ℕ) → List Asked → List Line → Option ℕ → List ℕ
longest_at names asked lines None = []
longest_at names asked lines (Some e) = longest_line names (asked_at asked e) (bound_of_line lines e)

abbrev pub longest_words : List (List ℕ) → List Asked → List Line → (shown : Bool) → List ℕ
longest_words names asked lines true = longest_at names asked lines (longest_below lines (length lines))
longest_words names asked lines false = []

abbrev pub waits_line : TextLine → List ℕ
waits_line line = codes "waits: " ++ line_text line

-- what lacks of the proof, the longest wait, and the verdict
abbrev pub brief_words : List (List ℕ) → List Asked → List Line → Outcome → List ℕ
brief_words names asked lines o =
    waits_line (lacking_line names o.lacking) ++ longest_words names asked lines o.shown ++ waits_line (verdict_line names asked lines o.shown o.load)

-- nothing is said of messages that come once
abbrev pub cyclic_words : List (List ℕ) → Waits → List ℕ
cyclic_words names w = if is_cyclic w.asked then brief_words names w.asked w.lines (outcome_in w) else []

abbrev pub brief_of : List (List ℕ) → Option Waits → List ℕ
brief_of names None = []
brief_of names (Some w) = cyclic_words names w

-- the lines of a bus, for ticks of so many picoseconds
abbrev pub IsBriefOfBus : ℕ → Bool → PlanText → Bus → List ℕ → Type 0
IsBriefOfBus tick any plain bus text = (found : Option Waits) × AreWaitsOf tick any plain bus found × (text ≡ brief_of bus.names found)
