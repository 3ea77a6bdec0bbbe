-- What is found for one controller more.
use Rattle.std.proofs.Common.{◌≡◌, ◌∙◌, ◌<◌, ◌+◌, sym, subst, refl, ap, ℕ, Bool, true, false, ◌&&◌, List, [], ◌∷◌, ◌++◌, take, get_or, length, append_assoc}
use Rattle.std.proofs.lemmas.List.{append-nil, take_more}
use Rattle.wl_settings.specs.declared.asked.Asked.{Asked}
use Rattle.wl_settings.specs.declared.asked.Controller.{Controller}
use Rattle.wl_settings.specs.Said.{AreSaid, GrowsByFound, GrowsBySaid, IsListedText}

all_then : (one two has : Bool) → ((one && two) && has) ≡ (one && (two && has))
all_then true two has = refl
all_then false two has = refl

true_last : (has : Bool) → has ≡ (has && true)
true_last true = refl
true_last false = refl

said_more : (a : Asked) (best : ℕ) (cs : List Controller) (c : Controller) (text more : List ℕ) (before has : Bool) → AreSaid a best cs text before
    → IsListedText a c best more has → AreSaid a best (cs ++ c ∷ []) (text ++ more) (before && has)
said_more a best [] c text more before has are is =
    (more, [], has, true, is, (refl, refl), ap (λ t. t ++ more) are.0 ∙ sym (append-nil more), ap (λ b. b && has) are.1 ∙ true_last has)
said_more a best (d ∷ ds) c text more before has are is = (
  are.0,
  are.1 ++ more,
  are.2,
  are.3 && has,
  are.4,
  said_more a best ds c are.1 more are.3 has are.5 is,
  ap (λ t. t ++ more) are.6 ∙ append_assoc are.0 are.1 more,
  ap (λ b. b && has) are.7 ∙ all_then are.2 are.3 has,
)

pub grows_more : (a : Asked) (best : ℕ) (cs : List Controller) (i : ℕ) (c : Controller) (old mid new : List ℕ) (before has : Bool) → i < length cs
    → c ≡ get_or cs i c → GrowsBySaid a best (take i cs) old mid before → GrowsByFound a c best mid new has
    → GrowsBySaid a best (take (i + 1) cs) old new (before && has)
grows_more a best cs i c old mid new before has within is all one =
    subst (λ few. GrowsBySaid a best few old new (before && has)) (sym (take_more cs i c within ∙ ap (λ d. take i cs ++ d ∷ []) (sym is)))
    (all.0 ++ one.0, said_more a best (take i cs) c all.0 one.0 before has all.1 one.1, one.2 ∙ (ap (λ t. t ++ one.0) all.2 ∙ append_assoc old all.0 one.0))
