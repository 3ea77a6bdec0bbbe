-- The grammar of record text (this project's profile).
use Rattle.std.specs.Prelude.{◌≡◌, ℕ, ◌≤◌, List, [], ◌∷◌, ◌++◌, length, slice_index}
use Rattle.std.specs.List.{AllByRecursion}
use Rattle.std.specs.Str.Parse.{IsNumeral, digits_value}
use Rattle.wl_limits.specs.declared.Limits.{Limits}
use Rattle.wl_record_core.specs.declared.record.Record.{Record}
use Rattle.wl_record_core.specs.declared.record.Record.TheVariants.{Edge, Clash, Silence}
use Rattle.wl_record.specs.Limits.{most_record_bytes}
use Rattle.wl_record_core.specs.Within.{IsWithinBy}

-- decimal digits without a leading zero; 0 alone is zero
pub record IsNumber (text : List ℕ) (n : ℕ) : Type 0 where
  pub digits : IsNumeral 10 text
  pub plain : slice_index text 0 ≡ 48 → length text ≡ 1
  pub value : digits_value 10 text ≡ n

-- a space and a number, for each of these numbers
abbrev pub Fields : List ℕ → List ℕ → Type 0
Fields text [] = text ≡ []
Fields text (n ∷ ns) = (number more : List ℕ) × IsNumber number n × (text ≡ 32 ∷ number ++ more) × Fields more ns

-- E, C or S
abbrev pub letter_of : Record → ℕ
letter_of (Edge node seq tick) = 69
letter_of (Clash node seq) = 67
letter_of (Silence node count until) = 83

-- the numbers of a record in the order of its line
abbrev pub numbers_of : Record → List ℕ
numbers_of (Edge node seq tick) = node ∷ seq ∷ tick ∷ []
numbers_of (Clash node seq) = node ∷ seq ∷ []
numbers_of (Silence node count until) = node ∷ count ∷ until ∷ []

-- the line, without its newline, spells the record
abbrev pub Spells : List ℕ → Record → Type 0
Spells line r = (fields : List ℕ) × (line ≡ letter_of r ∷ fields) × Fields fields (numbers_of r)

-- a line for each of the records, each ended by a newline, and nothing else
abbrev pub Lines : List ℕ → List Record → Type 0
Lines text [] = text ≡ []
Lines text (r ∷ rs) = (line more : List ℕ) × Spells line r × (text ≡ line ++ 10 ∷ more) × Lines more rs

-- The text is that of these records, which are within the limits. A narrow text is one that a stranger may give; a wide one has the
-- records of a plan by the wide limits.
pub record IsText (limits : Limits) (text : List ℕ) (rs : List Record) : Type 0 where
  pub lines : Lines text rs
  pub within : AllByRecursion (IsWithinBy limits) rs
  pub short : length text ≤ most_record_bytes
