-- The line of counts (this project's profile).
use Rattle.std.specs.Prelude.{ℕ, ◌==◌, List, [], ◌∷◌, ◌++◌, codes, if◌then◌else◌}
use Rattle.std.specs.Fmt.{decimal}
use Rattle.wl_parts.specs.declared.found.RowCounts.{RowCounts}

-- a count of what isn't clean, where there is such
abbrev pub unclean_words : List ℕ → ℕ → List ℕ
unclean_words what n = if n == 0 then [] else codes ", " ++ what ++ codes " in " ++ decimal n

-- how many members are clean
abbrev pub clean_words : RowCounts → List ℕ
clean_words c =
    (codes "clean in " ++ (decimal c.clean ++ (codes " of " ++ decimal c.runs))) ++ unclean_words (codes "too early") c.early
    ++ unclean_words (codes "refused") c.refused

abbrev pub counts_line : RowCounts → List ℕ
counts_line c = clean_words c ++ 10 ∷ []
