-- The row of a word makes the command line with the word's subcommand alone.
use Rattle.std.proofs.Common.{◌≡◌, ◌∙◌, ◌<◌, subst, ap, arith, true, ℕ, zero, suc, List, [], ◌∷◌, length, slice_index_or}
use Rattle.std.specs.Str.{bytes_eq}
use Rattle.std.proofs.lemmas.Slice.Eq.{bytes_eq-Decides}
use Rattle.clap.specs.Words.{App, Text, with_subcommand}
use Rattle.wl_words.specs.CommandLine.{bare_program}
use Rattle.wl_words.specs.Options.{AreTaskRows, IsTaskRow, with_row}
use Rattle.wl_words.specs.declared.tables.SubcommandRow.{SubcommandRow}
use Rattle.wl_words.proofs.Alone.{program_alone}

pub row_is : (a : App) (word : Text) (row : SubcommandRow) → IsTaskRow word row → a ≡ with_row bare_program row → a ≡ program_alone word
row_is a word row h is = is ∙ ap (λ (sub : App). with_subcommand bare_program sub.top) h.0

-- a row with this word is one of the word
row_named : (word : Text) (row : SubcommandRow) → IsTaskRow row.word.now row → bytes_eq row.word.now word ≡ true → IsTaskRow word row
row_named word row h is = subst (λ w. IsTaskRow w row) ((bytes_eq-Decides row.word.now word).0 is) h

-- and so is the row at a place among rows that are those of their words
pub row_at : (rows : List SubcommandRow) (i : ℕ) (d : SubcommandRow) (word : Text) → AreTaskRows rows → i < length rows
    → bytes_eq (slice_index_or rows i d).word.now word ≡ true → IsTaskRow word (slice_index_or rows i d)
row_at [] i d word h below is = absurd (omega arith)
row_at (r ∷ rows) zero d word h below is = row_named word r h.0 is
row_at (r ∷ rows) (suc i) d word h below is = row_at rows i d word h.1 (omega arith) is
