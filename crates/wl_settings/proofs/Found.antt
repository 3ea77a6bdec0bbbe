-- What is found of one setting more.
use Rattle.std.proofs.Common.{◌≡◌, ◌∙◌, ◌<◌, ◌+◌, sym, subst, ap, ap₂, refl, ℕ, true, false, Bool, List, [], ◌∷◌, ◌++◌, All, map, filter, take, Option, Some, None, length, get_or}
use Rattle.std.proofs.lemmas.List.{append-nil, map-append, take_more}
use Rattle.std.proofs.lemmas.List.Elements.{All-push, filter-append}
use Rattle.wl_settings.specs.declared.asked.Asked.{Asked}
use Rattle.wl_settings.specs.declared.asked.Controller.{Controller}
use Rattle.wl_settings.specs.declared.asked.Setting.{Setting}
use Rattle.wl_settings.specs.declared.judged.Refusal.{Refusal}
use Rattle.wl_settings.specs.declared.judged.WorkingSetting.{WorkingSetting}
use Rattle.wl_settings.specs.Judged.{IsRefusalOf, IsRow, IsRowOf, IsShortfall, is_failing, works}
use Rattle.wl_settings.specs.Rankings.{AreFoundRows, AreRefusals, found_one}

-- one more element that passes, or doesn't
passes_more : {X : Type 0} (p : X → Bool) (xs : List X) (x : X) → p x ≡ true → filter p (xs ++ x ∷ []) ≡ filter p xs ++ x ∷ []
passes_more p xs x e = filter-append p xs (x ∷ []) ∙ rw e refl

fails_more : {X : Type 0} (p : X → Bool) (xs : List X) (x : X) → p x ≡ false → filter p (xs ++ x ∷ []) ≡ filter p xs
fails_more p xs x e = filter-append p xs (x ∷ []) ∙ (rw e refl ∙ append-nil (filter p xs))

one_row : (a : Asked) (c : Controller) (all : List Setting) (s : Setting) (rows : List WorkingSetting) (found : Option WorkingSetting) → AreFoundRows a c all rows
    → IsRowOf a c s found → AreFoundRows a c (all ++ s ∷ []) (rows ++ found_one found)
one_row a c all s rows None so_far is = record {
  settings = ap (map (λ r. r.setting)) (append-nil rows) ∙ (so_far.settings ∙ sym (fails_more (works a c) all s is));
  figures = subst (All (IsRow a c)) (sym (append-nil rows)) so_far.figures;
}
one_row a c all s rows (Some r) so_far is = record {
  settings = map-append (λ r. r.setting) rows (r ∷ []) ∙ (ap₂ (λ xs x. xs ++ x ∷ []) so_far.settings is.1 ∙ sym (passes_more (works a c) all s is.0));
  figures = All-push (IsRow a c) rows r so_far.figures is.2;
}

pub row_more : (a : Asked) (c : Controller) (all : List Setting) (i : ℕ) (d : Setting) (rows new : List WorkingSetting) (found : Option WorkingSetting) → i < length all
    → AreFoundRows a c (take i all) rows → IsRowOf a c (get_or all i d) found → new ≡ rows ++ found_one found → AreFoundRows a c (take (i + 1) all) new
row_more a c all i d rows new found within so_far is grown =
    subst (λ ss. AreFoundRows a c ss new) (sym (take_more all i d within))
    (subst (AreFoundRows a c (take i all ++ get_or all i d ∷ [])) (sym grown) (one_row a c (take i all) (get_or all i d) rows found so_far is))

one_refusal : (a : Asked) (c : Controller) (all : List Setting) (s : Setting) (refusals : List Refusal) (found : Option Refusal)
    → AreRefusals a c all refusals → IsRefusalOf a c s found → AreRefusals a c (all ++ s ∷ []) (refusals ++ found_one found)
one_refusal a c all s refusals None so_far is = record {
  settings = ap (map (λ r. r.setting)) (append-nil refusals) ∙ (so_far.settings ∙ sym (fails_more (is_failing a c) all s is));
  figures = subst (All (IsShortfall a c)) (sym (append-nil refusals)) so_far.figures;
}
one_refusal a c all s refusals (Some r) so_far is = record {
  settings = map-append (λ r. r.setting) refusals (r ∷ []) ∙ (ap₂ (λ xs x. xs ++ x ∷ []) so_far.settings is.1 ∙ sym (passes_more (is_failing a c) all s is.0));
  figures = All-push (IsShortfall a c) refusals r so_far.figures is.2;
}

pub refusal_more : (a : Asked) (c : Controller) (all : List Setting) (i : ℕ) (d : Setting) (refusals new : List Refusal) (found : Option Refusal)
    → i < length all → AreRefusals a c (take i all) refusals → IsRefusalOf a c (get_or all i d) found → new ≡ refusals ++ found_one found
    → AreRefusals a c (take (i + 1) all) new
refusal_more a c all i d refusals new found within so_far is grown =
    subst (λ ss. AreRefusals a c ss new) (sym (take_more all i d within))
    (subst (AreRefusals a c (take i all ++ get_or all i d ∷ [])) (sym grown) (one_refusal a c (take i all) (get_or all i d) refusals found so_far is))
