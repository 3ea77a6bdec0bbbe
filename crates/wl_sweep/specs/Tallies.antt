-- How many members are clean, and which is the first that isn't (this project's profile).
use Rattle.std.specs.Prelude.{◌≡◌, ℕ, ◌+◌, ◌-◌, ◌*◌, ◌<◌, min, List, length, map, slice_index_or, Result, IfOk}
use Rattle.std.specs.declared.alloc.AllocError.{AllocError}
use Rattle.std.specs.List.{count_by, position_from, range_with_len}
use Rattle.wl_parts.specs.declared.found.RowCounts.{RowCounts}
use Rattle.wl_setup.specs.declared.plan_text.PlanText.{PlanText}
use Rattle.wl_sweep.specs.declared.options.Options.{Options}
use Rattle.wl_sweep.specs.declared.finding.Finding.{Finding}
use Rattle.wl_sweep.specs.declared.tally.Tally.{Tally}
use Rattle.wl_sweep.specs.Family.{member_of, run_count}
use Rattle.wl_sweep.specs.Findings.{finding_of_text, is_clean, is_early, is_refused, is_unclean}

abbrev pub tally_of : List Finding → Tally
tally_of found = record {
  runs = length found;
  clean = count_by is_clean found;
  early = count_by is_early found;
  refused = count_by is_refused found;
  first = position_from is_unclean 0 found;
  first_refused = position_from is_refused 0 found;
}

-- the counts of a tally
abbrev pub counts_of : Tally → RowCounts
counts_of t = record { runs = t.runs; clean = t.clean; early = t.early; refused = t.refused }

-- what is found of the member that a run is of
abbrev pub finding_at : Options → PlanText → ℕ → Finding
finding_at options plan run = finding_of_text (member_of options plan run)

-- of so many runs of a text from one on
abbrev pub findings_from : Options → PlanText → ℕ → ℕ → List Finding
findings_from options plan from count = map (finding_at options plan) (range_with_len from count)

-- of all runs of a text
abbrev pub findings_of : Options → PlanText → List Finding
findings_of options plan = findings_from options plan 0 (run_count options plan)

-- the first run of part w, where the runs from one on up to another are cut into parts of a size
abbrev pub part_start : ℕ → ℕ → ℕ → ℕ → ℕ
part_start from to size w = min (from + size * w) to

-- the answer of part w is its tally, unless memory was refused
abbrev pub IsPartTally : Options → PlanText → ℕ → ℕ → ℕ → ℕ → Result Tally AllocError → Type 0
IsPartTally options plan from to size w answer =
    IfOk answer (λ tally. tally ≡ tally_of (findings_from options plan (part_start from to size w) (part_start from to size (w + 1) - part_start from to size w)))

-- so many parts have their answers, in order
pub record ArePartTallies (options : Options) (plan : PlanText) (from to size count : ℕ) (answers : List (Result Tally AllocError)) : Type 0 where
  pub all : length answers ≡ count
  pub each : (w : ℕ) (d : Result Tally AllocError) → w < count → IsPartTally options plan from to size w (slice_index_or answers w d)
