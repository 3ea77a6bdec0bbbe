-- Records as they are written (this project's profile).
use Rattle.std.specs.Prelude.{ℕ, List, [], ◌∷◌, ◌++◌, codes}
use Rattle.std.specs.List.{flat_map}
use Rattle.std.specs.Fmt.{decimal}
use Rattle.wl_record_core.specs.declared.record.Record.{Record}
use Rattle.wl_record_core.specs.declared.record.Record.TheVariants.{Edge, Clash, Silence}

-- a line without its newline
abbrev pub words_of : Record → List ℕ
words_of (Edge node seq tick) = codes "E " ++ decimal node ++ 32 ∷ decimal seq ++ 32 ∷ decimal tick
words_of (Clash node seq) = codes "C " ++ decimal node ++ 32 ∷ decimal seq
words_of (Silence node count until) = codes "S " ++ decimal node ++ 32 ∷ decimal count ++ 32 ∷ decimal until

-- a line with its newline
abbrev pub text_line : Record → List ℕ
text_line r = words_of r ++ 10 ∷ []

-- the text of some records
abbrev pub text_of : List Record → List ℕ
text_of rs = flat_map text_line rs
