-- The first settings of controllers, one more at a time.
use Rattle.std.proofs.Common.{◌≡◌, refl, sym, subst, List, [], ◌∷◌, ◌++◌, All, Result, Ok, Err, append_assoc}
use Rattle.std.specs.Prelude.{IfOk}
use Rattle.std.proofs.lemmas.List.{append-nil}
use Rattle.std.proofs.lemmas.List.Elements.{All-push}
use Rattle.wl_apply.specs.declared.chosen.Chosen.{Chosen}
use Rattle.wl_apply.specs.Applied.{IsWritable}
use Rattle.wl_settings.specs.declared.asked.Asked.{Asked}
use Rattle.wl_settings.specs.declared.asked.Controller.{Controller}
use Rattle.wl_settings.specs.declared.fault.SettingsFault.{SettingsFault}
use Rattle.wl_settings.specs.Choices.{GrowsByChosen, IsFirstChosen}

pub none_chosen : (a : Asked) (old : List Chosen) → GrowsByChosen a [] old old
none_chosen a old = ([], refl, sym (append-nil old))

pub one_chosen : (a : Asked) (c : Controller) (cs : List Controller) (old mid new : List Chosen) (x : Chosen) → IsFirstChosen a c (Ok x) → mid ≡ old ++ x ∷ []
    → GrowsByChosen a cs mid new → GrowsByChosen a (c ∷ cs) old new
one_chosen a c cs old mid new x first is (more, are, grown) =
    (x ∷ more, (x, more, first, are, refl), rw (grown, is) (append_assoc old (x ∷ []) more))

-- what holds of these holds of those with one more
pub each_writable : (old mid : List Chosen) (x : Chosen) (r : Result (List Chosen) SettingsFault) → mid ≡ old ++ x ∷ [] → IsWritable x
    → IfOk r (λ all. All IsWritable mid → All IsWritable all) → IfOk r (λ all. All IsWritable old → All IsWritable all)
each_writable old mid x (Ok all) is here more = λ before. more (subst (All IsWritable) (sym is) (All-push IsWritable old x before here))
each_writable old mid x (Err e) is here more = tt
