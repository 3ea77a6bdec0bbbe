-- A cell is clean exactly if each member is.
use Rattle.std.proofs.Common.{◌≡◌, ℕ, ◌+◌, true, List, [], ◌∷◌, refl, Option, Some, None}
use Rattle.std.specs.List.{list_all, position_from}
use Rattle.wl_sweep.specs.declared.finding.Finding.{Finding}
use Rattle.wl_sweep.specs.declared.finding.Finding.TheVariants as found
use Rattle.wl_sweep.specs.Findings.{is_clean, is_refused, is_unclean}
use Rattle.wl_map.specs.declared.cell.Colour.TheVariants.{Clean}
use Rattle.wl_map.specs.Cells.{CleanByMembers, colour_by}

-- one that is refused is not clean
refused_is_none : (first : Option ℕ) (n : ℕ) → colour_by first (Some n) ≡ Clean → ⊥
refused_is_none None n h = cc
refused_is_none (Some m) n h = cc

all_clean : (n m : ℕ) (xs : List Finding) → colour_by (position_from is_unclean n xs) (position_from is_refused m xs) ≡ Clean → list_all is_clean xs ≡ true
all_clean n m [] h = refl
all_clean n m (found.Clean ∷ xs) h = all_clean (n + 1) (m + 1) xs h
all_clean n m (found.Faulty errors unsent ∷ xs) h = cc
all_clean n m (found.Off ∷ xs) h = cc
all_clean n m (found.Early unsent ∷ xs) h = cc
all_clean n m (found.Missed ∷ xs) h = cc
all_clean n m (found.Refused fault ∷ xs) h = absurd (refused_is_none (position_from is_unclean (n + 1) xs) m h)

is_coloured : (n m : ℕ) (xs : List Finding) → list_all is_clean xs ≡ true → colour_by (position_from is_unclean n xs) (position_from is_refused m xs) ≡ Clean
is_coloured n m [] h = refl
is_coloured n m (found.Clean ∷ xs) h = is_coloured (n + 1) (m + 1) xs h
is_coloured n m (found.Faulty errors unsent ∷ xs) h = cc
is_coloured n m (found.Off ∷ xs) h = cc
is_coloured n m (found.Early unsent ∷ xs) h = cc
is_coloured n m (found.Missed ∷ xs) h = cc
is_coloured n m (found.Refused fault ∷ xs) h = cc

pub clean_is_clean : CleanByMembers
clean_is_clean xs = (all_clean 0 0 xs, is_coloured 0 0 xs)
