-- What a parse of the command line found of a spike, by the rows of its options.
use Rattle.std.proofs.Common.{◌≡◌, sym, ap, is_some}
use Rattle.clap.specs.Words.{Text, first_of, first_value, rows_of}
use Rattle.clap.specs.declared.parser.matches.Found.{Found}
use Rattle.clap.proofs.WalkLemmas.{first_value-rows}
use Rattle.wl_words.specs.Spikes.{is_said, said_texts}

-- a text that is there or not
pub said_text : (f : Found) (id : Text) → is_said id (rows_of f) ≡ is_some (first_value f id)
said_text f id = ap is_some (sym (first_value-rows f id))

pub texts_text : (f : Found) (id : Text) → said_texts (first_of id (rows_of f)) ≡ said_texts (first_value f id)
texts_text f id = ap said_texts (sym (first_value-rows f id))
