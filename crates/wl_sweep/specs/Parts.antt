-- A sweep as a whole of parts (this project's profile).
use Rattle.std.specs.Prelude.{◌≡◌, ℕ, ◌^◌, ◌==◌, ◌++◌, nat_lt, if◌then◌else◌, List, [], ◌∷◌, length, map, codes, Option, Some, None}
use Rattle.std.specs.List.{count_by, list_all}
use Rattle.wl_parts.specs.Whole.{Kinds, Whole, all_of, whole_text}
use Rattle.wl_sweep.specs.declared.finding.Finding.{Finding}
use Rattle.wl_sweep.specs.declared.part.Share.{Share}
use Rattle.wl_sweep.specs.declared.range.SweptRange.{SweptRange}
use Rattle.wl_sweep.specs.declared.sweep.Sweep.{Sweep}
use Rattle.wl_sweep.specs.Findings.{is_clean, is_early, is_refused, is_unclean}
use Rattle.wl_sweep.specs.Sweeps.{all_findings, all_rows, first_line, row_findings, rows_members, sweep_text}
use Rattle.wl_sweep.specs.Vary.{parted, size_of}
use Rattle.wl_sweep.specs.Words.{members_line, row_words}

-- a number of 32 bits, where there is one, else 0
abbrev pub small_or_zero : Option ℕ → ℕ
small_or_zero None = 0
small_or_zero (Some n) = if nat_lt n (2 ^ 32) then n else 0

abbrev pub share_by : Option (List ℕ × List ℕ) → Share
share_by None = record { number = 0; count = 0 }
share_by (Some parts) = record { number = small_or_zero (size_of parts.0); count = small_or_zero (size_of parts.1) }

-- the share that a word is: `K/N`; `/` is 47
abbrev pub share_named : List ℕ → Share
share_named word = share_by (parted 47 word)

-- which findings count as what, and the lines of the first members
abbrev pub kinds_of : Sweep → Kinds Finding
kinds_of s = record {
  clean = is_clean;
  early = is_early;
  refused = is_refused;
  unclean = is_unclean;
  unclean_line = λ n. first_line s (codes "first that isn't") (Some n);
  refused_line = λ n. first_line s (codes "first refused") (Some n);
}

-- how the line of each row begins, where there are ranges
abbrev pub row_beginnings : List SweptRange → List ℕ → List (List ℕ)
row_beginnings [] rows = []
row_beginnings (g ∷ gs) rows = map (λ row. row_words row (g ∷ gs)) rows

-- the whole of its parts: what names the sweep, and what is said after all else
abbrev pub whole_of : Sweep → List ℕ → List ℕ → Whole Finding
whole_of s of tail = record {
  of = of;
  words = row_beginnings s.ranges (all_rows s);
  members = members_line s.options (length (all_findings s)) (rows_members s (all_rows s));
  tail = tail;
  rows = map (row_findings s) (all_rows s);
}

-- the whole says what the sweep says, and then the tail; its members are those of the sweep, of which all are clean if as many are as were run
pub record SaysTheSweep : Type 0 where
  pub text : (s : Sweep) (of tail : List ℕ) → whole_text (kinds_of s) (whole_of s of tail) ≡ sweep_text s ++ tail
  pub members : (s : Sweep) (of tail : List ℕ) → all_of (whole_of s of tail).rows ≡ all_findings s
  pub clean : (found : List Finding) → (count_by is_clean found == length found) ≡ list_all is_clean found
