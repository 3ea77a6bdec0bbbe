-- Words of values as numbers: 0 for nothing, the greatest of 64 bits for a clash, else one more than the value. This project's profile.
use Rattle.std.specs.Prelude.{ℕ, zero, suc, ◌<◌, ◌==◌, ◌||◌, if◌then◌else◌}
use Rattle.wl_lattice.specs.declared.FlatWord.{FlatWord}
use Rattle.wl_lattice.specs.declared.FlatWord.TheVariants.{Nothing, Value, Clash}
use Rattle.wl_lattice.specs.declared.numbers.TheConstants.{CLASH}

-- the number of a word
abbrev pub word_number : FlatWord → ℕ
word_number Nothing = 0
word_number (Value x) = suc x
word_number Clash = CLASH

-- the word of a number
abbrev pub number_word : ℕ → FlatWord
number_word zero = Nothing
number_word (suc x) = if suc x == CLASH then Clash else Value x

-- a word has a number of its own: that of its value is below that of a clash
abbrev pub HasNumber : FlatWord → Type 0
HasNumber Nothing = Unit {0}
HasNumber (Value x) = suc x < CLASH
HasNumber Clash = Unit {0}

-- two numbers joined, where the second isn't 0
abbrev pub joined_to_some : ℕ → ℕ → ℕ
joined_to_some a b = if a == 0 || a == b then b else CLASH

-- two numbers joined
abbrev pub joined_numbers : ℕ → ℕ → ℕ
joined_numbers a b = if b == 0 then a else joined_to_some a b
