-- The lines of `run`, each kind with its fields (this project's profile).
use Rattle.std.specs.Prelude.{[], ◌∷◌, codes}
use Rattle.wl_formats.specs.declared.shape.Class.TheVariants.{Hexadecimal, Measure, Number, Word}
use Rattle.wl_formats.specs.Shapes.{Layout, literal, field, given}

abbrev pub run_layout : Layout
run_layout = record {
  command = codes "run";
  columns =
      codes "node" ∷ codes "tec" ∷ codes "rec" ∷ codes "mode" ∷ codes "errors" ∷ codes "samples" ∷
      codes "hard_synchronisations" ∷ codes "resynchronisations" ∷ codes "least_phase_error_quanta" ∷
      codes "greatest_phase_error_quanta" ∷ codes "way" ∷ codes "quantum" ∷ codes "id" ∷ codes "type" ∷ codes "dlc" ∷
      codes "bytes" ∷ codes "verdict" ∷ codes "unsent" ∷ [];
  forms =
      record {
        kind = codes "node";
        parts =
            literal (codes "node ") ∷ field (codes "node") Number ∷ literal (codes " tec ") ∷
            field (codes "tec") Number ∷ literal (codes " rec ") ∷ field (codes "rec") Number ∷
            literal (codes " mode ") ∷ field (codes "mode") Word ∷ literal (codes " errors ") ∷
            field (codes "errors") Number ∷ literal (codes " samples ") ∷ field (codes "samples") Number ∷
            literal (codes " hard ") ∷ field (codes "hard_synchronisations") Number ∷ literal (codes " sync ") ∷
            field (codes "resynchronisations") Number ∷ literal (codes " least ") ∷
            field (codes "least_phase_error_quanta") Measure ∷ literal (codes " greatest ") ∷
            field (codes "greatest_phase_error_quanta") Measure ∷ [];
      } ∷
      record {
        kind = codes "frame";
        parts =
            literal (codes "frame ") ∷ field (codes "node") Number ∷ literal (codes " ") ∷ field (codes "way") Word ∷
            literal (codes " ") ∷ field (codes "quantum") Number ∷ literal (codes " ") ∷
            field (codes "id") Hexadecimal ∷ literal (codes " ") ∷ field (codes "type") Word ∷ literal (codes " ") ∷
            field (codes "dlc") Number ∷ literal (codes " ") ∷ field (codes "bytes") Hexadecimal ∷ [];
      } ∷
      record {
        kind = codes "verdict";
        parts =
            literal (codes "verdict ") ∷ field (codes "verdict") Word ∷ given (codes "errors") Number (codes "0") ∷
            given (codes "unsent") Number (codes "0") ∷ [];
      } ∷
      record {
        kind = codes "verdict";
        parts =
            literal (codes "verdict ") ∷ field (codes "verdict") Word ∷ literal (codes " errors ") ∷
            field (codes "errors") Number ∷ literal (codes " unsent ") ∷ field (codes "unsent") Number ∷ [];
      } ∷
      [];
}
