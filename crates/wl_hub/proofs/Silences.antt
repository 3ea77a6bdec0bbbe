-- The kind of the table of silences.
use Rattle.std.proofs.Common.{ℕ, List}
use Rattle.wl_lattice.specs.declared.MaxWord.{MaxWord}
use Rattle.wl_lattice.specs.Words.{max_word, joined_max}
use Rattle.wl_lattice.specs.WordLaws.{max_laws}
use Rattle.wl_hub.specs.Rule.{Kind, kind}
use Rattle.wl_hub.proofs.Joined.{IsJoin, laws_of}
use Rattle.wl_hub.specs.Places.{max_number, silence_value, is_silence_at}

abbrev pub silence_kind : List (ℕ × ℕ) → Kind MaxWord
silence_kind shape = kind (max_word 0) joined_max max_number silence_value (is_silence_at shape)

pub silence_laws : (shape : List (ℕ × ℕ)) → IsJoin (silence_kind shape)
silence_laws = laws_of (max_word 0) joined_max max_number silence_value is_silence_at max_laws (λ x. tt)
