-- The lines and words of a sweep (this project's profile).
use Rattle.std.specs.Prelude.{ℕ, ◌+◌, ◌-◌, ◌^◌, ◌==◌, min, List, [], ◌∷◌, ◌++◌, codes, if◌then◌else◌}
use Rattle.std.specs.List.{enumerate_from}
use Rattle.std.specs.Fmt.{decimal, signed_decimal}
use Rattle.wl_parts.specs.Lines.{counts_line}
use Rattle.wl_setup.specs.declared.plan_text.PlanText.{PlanText}
use Rattle.wl_setup.specs.declared.plan_text.NodeText.{NodeText}
use Rattle.wl_sweep.specs.declared.options.Options.{Options}
use Rattle.wl_sweep.specs.declared.digit_source.DigitSource.{DigitSource}
use Rattle.wl_sweep.specs.declared.change.Side.{Side}
use Rattle.wl_sweep.specs.declared.change.Side.TheVariants.{Own, Slow, Fast}
use Rattle.wl_sweep.specs.declared.family.Choice.{Choice}
use Rattle.wl_sweep.specs.declared.finding.Finding.{Finding}
use Rattle.wl_sweep.specs.declared.finding.Finding.TheVariants.{Clean, Faulty, Off, Early, Missed, Refused}
use Rattle.wl_sweep.specs.declared.range.SweptRange.{SweptRange}
use Rattle.wl_sweep.specs.declared.tally.Tally.{Tally}
use Rattle.wl_sweep.specs.Family.{chosen, draws_of, member_count, offset_step, varied}
use Rattle.wl_sweep.specs.Tallies.{counts_of}
use Rattle.wl_sweep.specs.Rows.{row_count, value_in}

-- the line of a tally
abbrev pub tally_line : Tally → List ℕ
tally_line t = counts_line (counts_of t)

-- the values of the ranges in a row
abbrev pub row_words : ℕ → List SweptRange → List ℕ
row_words row [] = []
row_words row (g ∷ gs) = (g.called ++ codes " " ++ signed_decimal (value_in g (row_count gs) row) ++ codes " ") ++ row_words row gs

abbrev pub row_line : ℕ → List SweptRange → Tally → List ℕ
row_line row ranges t = row_words row ranges ++ tally_line t

abbrev pub least_word : ℕ → List ℕ
least_word members = if members == 2 ^ 128 - 1 then codes "at least " else []

-- how much of the family was run
abbrev pub members_line : Options → ℕ → ℕ → List ℕ
members_line options runs members =
    if runs == members then codes "all " ++ decimal members ++ codes " members were run\n"
    else codes "" ++ decimal runs ++ codes " of " ++ least_word members ++ decimal members ++ codes " members were run, drawn by seed " ++ decimal options.seed ++ codes "\n"

-- what the ranges set in a row
abbrev pub settings_words : ℕ → List SweptRange → List ℕ
settings_words row [] = []
settings_words row (g ∷ gs) = (codes ", " ++ g.called ++ codes " = " ++ signed_decimal (value_in g (row_count gs) row)) ++ settings_words row gs

-- what a member changes of a node
abbrev pub offset_words : NodeText → ℕ → List ℕ
offset_words node by = if by == 0 then [] else codes ", " ++ node.name ++ codes ".offset = " ++ decimal (min (node.offset + by) (2 ^ 64 - 1))

abbrev pub side_words : NodeText → Side → List ℕ
side_words node Own = []
side_words node (Slow ppm) = codes ", " ++ node.name ++ codes ".ppm = " ++ decimal ppm
side_words node (Fast ppm) = codes ", " ++ node.name ++ codes ".ppm = -" ++ decimal ppm

abbrev pub choice_words : NodeText → Choice → List ℕ
choice_words node choice = offset_words node choice.by ++ side_words node choice.side

abbrev pub choices_words : Options → ℕ → DigitSource → List (ℕ × NodeText) → List ℕ
choices_words options step draws [] = []
choices_words options step draws (m ∷ ms) =
    let made = chosen options step m draws in choice_words m.1 made.0 ++ choices_words options step made.1 ms

abbrev pub faulty_words : ℕ → ℕ → List ℕ
faulty_words errors unsent = codes "verdict faulty errors " ++ (decimal errors ++ (codes " unsent " ++ decimal unsent))

abbrev pub early_words : ℕ → List ℕ
early_words unsent = codes "ends too early, without an error: unsent " ++ decimal unsent

abbrev pub finding_words : Finding → List ℕ
finding_words Clean = codes "clean"
finding_words (Faulty errors unsent) = faulty_words errors unsent
finding_words Off = codes "a node is off the bus"
finding_words (Early unsent) = early_words unsent
finding_words Missed = codes "a node has not received every frame"
finding_words (Refused fault) = codes "refused"

-- what a member changes
abbrev pub change_words : ℕ → List SweptRange → Options → PlanText → ℕ → List ℕ
change_words row ranges options plan run =
    settings_words row ranges
    ++ choices_words (varied options plan) (offset_step options plan) (draws_of options (member_count options plan) run) (enumerate_from 0 plan.node)

-- and what is found of it
abbrev pub member_words : ℕ → List SweptRange → Options → PlanText → ℕ → Finding → List ℕ
member_words row ranges options plan run found =
    change_words row ranges options plan run ++ codes ": " ++ finding_words found ++ codes "\n"
