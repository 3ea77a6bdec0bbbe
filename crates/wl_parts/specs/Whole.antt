-- A sweep and its parts, over findings of any kind (this project's profile).
use Rattle.std.specs.Prelude.{◌≡◌, ℕ, ◌-◌, ◌*◌, ◌/◌, ◌^◌, ◌<◌, ◌≤◌, ◌==◌, ◌++◌, Bool, List, [], ◌∷◌, length, map, take, drop, Option, option_map, Ok}
use Rattle.std.specs.Option.{option_map_or}
use Rattle.std.specs.List.{AllByRecursion, count_by, flat_map, position_from}
use Rattle.wl_parts.specs.declared.found.RowCounts.{RowCounts}
use Rattle.wl_parts.specs.declared.found.FirstMember.{FirstMember}
use Rattle.wl_parts.specs.declared.found.Findings.{Findings}
use Rattle.wl_parts.specs.declared.part.SweepPart.{SweepPart}
use Rattle.wl_parts.specs.Joined.{copies, joined_of, lines_of_rows}
use Rattle.wl_parts.specs.Lines.{counts_line}

-- which findings count as what, and which line a sweep says of a member, by its number
pub record Kinds (X : Type 0) : Type 0 where
  pub clean : X → Bool
  pub early : X → Bool
  pub refused : X → Bool
  pub unclean : X → Bool
  pub unclean_line : ℕ → List ℕ
  pub refused_line : ℕ → List ℕ

-- a whole sweep: of which plan, what it finds of the members of each row, and its other lines
pub record Whole (X : Type 0) : Type 0 where
  pub of : List ℕ
  pub words : List (List ℕ)
  pub members : List ℕ
  pub tail : List ℕ
  pub rows : List (List X)

-- the members whose numbers are from lo on and below hi
abbrev pub slice : {X : Type 0} → ℕ → ℕ → List X → List X
slice lo hi xs = drop lo (take hi xs)

-- all members, row after row
abbrev pub all_of : {X : Type 0} → List (List X) → List X
all_of rows = flat_map (λ xs. xs) rows

-- of so many members those before part k + 1 of n
abbrev pub cut : ℕ → ℕ → ℕ → ℕ
cut total n k = total * k / n

module _ {X : Type 0} (kinds : Kinds X) where
  abbrev pub counts_in : List X → RowCounts
  counts_in xs = record {
    runs = length xs;
    clean = count_by kinds.clean xs;
    early = count_by kinds.early xs;
    refused = count_by kinds.refused xs;
  }

  -- the counts of each row, of the members with these numbers
  abbrev pub rows_between : ℕ → ℕ → List (List X) → List RowCounts
  rows_between lo hi [] = []
  rows_between lo hi (xs ∷ rows) = counts_in (slice lo hi xs) ∷ rows_between (lo - length xs) (hi - length xs) rows

  -- the first of these members that is of a kind
  abbrev pub first_between : (X → Bool) → (ℕ → List ℕ) → ℕ → ℕ → List (List X) → Option FirstMember
  first_between kind line lo hi rows = option_map (λ n. record { number = n; line = line n }) (position_from kind lo (slice lo hi (all_of rows)))

  abbrev pub found_between : ℕ → ℕ → List (List X) → Findings
  found_between lo hi rows = record {
    rows = rows_between lo hi rows;
    unclean = first_between kinds.unclean kinds.unclean_line lo hi rows;
    refused = first_between kinds.refused kinds.refused_line lo hi rows;
  }

  -- part k of n: the members from cut (k - 1) on, below cut k
  abbrev pub part_of : Whole X → ℕ → ℕ → SweepPart
  part_of w n k = record {
    of = w.of;
    number = k;
    count = n;
    words = w.words;
    members = w.members;
    tail = w.tail;
    found = found_between (cut (length (all_of w.rows)) n (k - 1)) (cut (length (all_of w.rows)) n k) w.rows;
  }

  -- the line of the first member of a kind
  abbrev pub line_of : (X → Bool) → (ℕ → List ℕ) → List X → List ℕ
  line_of kind line xs = option_map_or line (position_from kind 0 xs) []

  -- what the whole sweep says: the lines of its rows, of all rows and of its members, those of the first members, and what comes last
  abbrev pub whole_text : Whole X → List ℕ
  whole_text w =
      lines_of_rows w.words (map counts_in w.rows) ++ (counts_line (counts_in (all_of w.rows)) ++ (w.members
      ++ (line_of kinds.unclean kinds.unclean_line (all_of w.rows) ++ (line_of kinds.refused kinds.refused_line (all_of w.rows) ++ w.tail))))

  -- these are all parts of the sweep, cut into n, each once, in any order
  pub record AreParts (w : Whole X) (n : ℕ) (ps : List SweepPart) : Type 0 where
    pub some : 1 ≤ n
    pub each : AllByRecursion (λ (p : SweepPart). (1 ≤ p.number) × (p.number ≤ n) × (p ≡ part_of w n p.number)) ps
    pub once : (k : ℕ) → 1 ≤ k → k ≤ n → copies k ps ≡ 1

-- all parts of a sweep say together what the whole sweep says, and whether as many members are clean as were run
abbrev pub PartsSayTheWhole : (X : Type 0) → Type 0
PartsSayTheWhole X =
    (kinds : Kinds X) (w : Whole X) (n : ℕ) (ps : List SweepPart) → length (all_of w.rows) < 2 ^ 64 → AreParts kinds w n ps
    → joined_of ps ≡ Ok (whole_text kinds w, count_by kinds.clean (all_of w.rows) == length (all_of w.rows))
