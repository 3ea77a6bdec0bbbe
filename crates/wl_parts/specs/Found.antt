-- What is found of some members of a sweep, and how two findings join (this project's profile).
use Rattle.std.specs.Prelude.{ℕ, ◌+◌, ◌-◌, ◌^◌, nat_lt, min, List, [], ◌∷◌, fold, Option, Some, None, if◌then◌else◌}
use Rattle.wl_parts.specs.declared.found.RowCounts.{RowCounts}
use Rattle.wl_parts.specs.declared.found.FirstMember.{FirstMember}
use Rattle.wl_parts.specs.declared.found.Findings.{Findings}

-- at most the greatest number of 64 bits
abbrev pub most_64 : ℕ → ℕ
most_64 n = min n (2 ^ 64 - 1)

-- the counts of no member, and of two rows together
abbrev pub no_row_counts : RowCounts
no_row_counts = record { runs = 0; clean = 0; early = 0; refused = 0 }

abbrev pub counts_sum : RowCounts → RowCounts → RowCounts
counts_sum c d = record {
  runs = most_64 (c.runs + d.runs);
  clean = most_64 (c.clean + d.clean);
  early = most_64 (c.early + d.early);
  refused = most_64 (c.refused + d.refused);
}

-- row by row; a row that one of them lacks is that of the other
abbrev pub rows_sum : List RowCounts → List RowCounts → List RowCounts
rows_sum [] ds = ds
rows_sum (c ∷ cs) [] = c ∷ cs
rows_sum (c ∷ cs) (d ∷ ds) = counts_sum c d ∷ rows_sum cs ds

-- of two members the one with the lesser number
abbrev pub first_of : Option FirstMember → Option FirstMember → Option FirstMember
first_of None other = other
first_of (Some m) None = Some m
first_of (Some m) (Some n) = if nat_lt n.number m.number then Some n else Some m

-- what both say together, and what no part says
abbrev pub joined_findings : Findings → Findings → Findings
joined_findings f g = record {
  rows = rows_sum f.rows g.rows;
  unclean = first_of f.unclean g.unclean;
  refused = first_of f.refused g.refused;
}

abbrev pub nothing : Findings
nothing = record { rows = []; unclean = None; refused = None }

-- the counts of all rows together
abbrev pub total_of : List RowCounts → RowCounts
total_of rows = fold counts_sum no_row_counts rows
