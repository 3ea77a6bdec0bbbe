-- The first form that a line fits, of two lists one after another.
use Rattle.std.proofs.Common.{◌≡◌, refl, Bool, true, false, List, [], ◌∷◌, ◌++◌, Some, None, if◌then◌else◌}
use Rattle.wl_formats.specs.Shapes.{Form, Text}
use Rattle.wl_formats.specs.Matching.{fits, form_for}

-- a form of the first list that fits is the first of both
pub found_first : (forms more : List Form) (line : Text) (form : Form) → form_for forms line ≡ Some form
    → form_for (forms ++ more) line ≡ Some form
found_first [] more line form e = cc
found_first (f ∷ forms) more line form e = go (fits f.parts line) e (found_first forms more line form)
  where
    go : (b : Bool) → (if b then Some f else form_for forms line) ≡ Some form
        → (form_for forms line ≡ Some form → form_for (forms ++ more) line ≡ Some form)
        → (if b then Some f else form_for (forms ++ more) line) ≡ Some form
    go true h later = h
    go false h later = later h

-- if none of the first list fits, the second list has it
pub found_later : (forms more : List Form) (line : Text) → form_for forms line ≡ None
    → form_for (forms ++ more) line ≡ form_for more line
found_later [] more line e = refl
found_later (f ∷ forms) more line e = go (fits f.parts line) e (found_later forms more line)
  where
    go : (b : Bool) → (if b then Some f else form_for forms line) ≡ None
        → (form_for forms line ≡ None → form_for (forms ++ more) line ≡ form_for more line)
        → (if b then Some f else form_for (forms ++ more) line) ≡ form_for more line
    go true h later = cc
    go false h later = later h
