-- The lines of `check`, each kind with its fields (this project's profile).
use Rattle.std.specs.Prelude.{[], ◌∷◌, codes}
use Rattle.wl_formats.specs.declared.shape.Class.TheVariants.{Number, Word}
use Rattle.wl_formats.specs.Shapes.{Layout, literal, field}

abbrev pub check_layout : Layout
check_layout = record {
  command = codes "check";
  columns =
      codes "node" ∷ codes "name" ∷ codes "bit_quanta" ∷ codes "sample_quanta" ∷ codes "jump_quanta" ∷
      codes "tolerance_ppm" ∷ codes "other_node" ∷ codes "delay_ticks" ∷ codes "back_ticks" ∷ [];
  forms =
      record {
        kind = codes "node";
        parts =
            literal (codes "node ") ∷ field (codes "node") Number ∷ literal (codes " ") ∷ field (codes "name") Word ∷
            literal (codes " quanta ") ∷ field (codes "bit_quanta") Number ∷ literal (codes " sample ") ∷
            field (codes "sample_quanta") Number ∷ literal (codes " jump ") ∷ field (codes "jump_quanta") Number ∷
            literal (codes " ppm ") ∷ field (codes "tolerance_ppm") Number ∷ [];
      } ∷
      record {
        kind = codes "pair";
        parts =
            literal (codes "pair ") ∷ field (codes "node") Number ∷ literal (codes " ") ∷
            field (codes "other_node") Number ∷ literal (codes " delay ") ∷ field (codes "delay_ticks") Number ∷
            literal (codes " back ") ∷ field (codes "back_ticks") Number ∷ [];
      } ∷
      [];
}
