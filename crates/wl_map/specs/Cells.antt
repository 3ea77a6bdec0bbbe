-- The cells of a map: what each says of its row (this project's profile).
use Rattle.std.specs.Prelude.{◌≡◌, ◌↔◌, ℕ, true, List, [], ◌∷◌, ◌++◌, codes, Option, Some, None, Result, Ok, Err, if◌then◌else◌}
use Rattle.std.specs.List.{list_all}
use Rattle.wl_plan.specs.declared.plan.Plan.{Plan}
use Rattle.wl_setup.specs.declared.fault.SetupFault.{SetupFault}
use Rattle.wl_setup.specs.declared.plan_text.PlanText.{PlanText}
use Rattle.wl_setup.specs.Names.{has_repeat, names_of}
use Rattle.wl_setup.specs.Plans.{plan_of_text}
use Rattle.wl_views.specs.TraceText.{first_error_text}
use Rattle.wl_sweep.specs.declared.finding.Finding.{Finding}
use Rattle.wl_sweep.specs.declared.sweep.Sweep.{Sweep}
use Rattle.wl_sweep.specs.declared.tally.Tally.{Tally}
use Rattle.wl_sweep.specs.Findings.{is_clean}
use Rattle.wl_sweep.specs.Sweeps.{all_findings, member_at, sweep_text}
use Rattle.wl_sweep.specs.Tallies.{tally_of}
use Rattle.wl_map.specs.declared.cell.Colour.{Colour}
use Rattle.wl_map.specs.declared.cell.Colour.TheVariants.{Clean, Failing, Refused}

-- by the first member that was run and isn't clean, and by the first that was refused
abbrev pub colour_by : Option ℕ → Option ℕ → Colour
colour_by (Some n) refused = Failing
colour_by None (Some n) = Refused
colour_by None None = Clean

abbrev pub colour_of : Tally → Colour
colour_of tally = colour_by tally.first tally.first_refused

abbrev pub colour_word : Colour → List ℕ
colour_word Clean = codes "clean"
colour_word Failing = codes "failing"
colour_word Refused = codes "refused"

-- a cell is clean exactly if each member of its row is
abbrev pub CleanByMembers : Type 0
CleanByMembers = (found : List Finding) → (colour_of (tally_of found) ≡ Clean) ↔ (list_all is_clean found ≡ true)

-- the line of an error, after its label, if there is one
abbrev pub error_line : List ℕ → List ℕ
error_line [] = []
error_line (c ∷ cs) = codes "first error: " ++ c ∷ cs

-- the first error of a text's plan, if it can be run
abbrev pub plan_error : List (List ℕ) → Result Plan SetupFault → List ℕ
plan_error names (Err fault) = []
plan_error names (Ok plan) = error_line (first_error_text plan names)

-- in which no two nodes have one name
abbrev pub text_error : PlanText → List ℕ
text_error text = if has_repeat (names_of text) then [] else plan_error (names_of text) (plan_of_text text)

abbrev pub member_error : Option (List ℕ × PlanText) → List ℕ
member_error None = []
member_error (Some (change, text)) = text_error text

-- of the first member that isn't clean, if there is one
abbrev pub first_error_of : Sweep → Option ℕ → List ℕ
first_error_of s None = []
first_error_of s (Some n) = member_error (member_at s n)

-- a colour, and what a sweep says
abbrev pub coloured_words : Colour → List ℕ → List ℕ
coloured_words colour said = codes "cell " ++ colour_word colour ++ codes "\n" ++ said

-- a row that is alone: its colour, what its sweep says, and the first error of its first member that isn't clean
abbrev pub cell_of_row : Sweep → List ℕ
cell_of_row s =
    let tally = tally_of (all_findings s) in
    coloured_words (colour_of tally) (sweep_text s) ++ first_error_of s tally.first
