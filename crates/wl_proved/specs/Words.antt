-- When the first line of a bus's margin, or of its `respond`, says 'proved'. This project's.
use Rattle.std.specs.Prelude.{◌≡◌, ◌⊎◌, ℕ, Bool, true, false, List, ◌∷◌, ◌++◌, None, Some}
use Rattle.wl_setup.specs.declared.bus.Bus.{Bus}
use Rattle.wl_setup.specs.declared.plan_text.PlanText.{PlanText}
use Rattle.wl_bound.specs.Families.{Buses, family_of}
use Rattle.wl_bound.specs.Oscillators.{Pace}
use Rattle.wl_margin.specs.declared.reasons.Asked.{Asked}
use Rattle.wl_margin.specs.Margins.{any_lead, family_asked, one_lead, paces_of, senders_words}
use Rattle.wl_respond.specs.Senders.{family_with_text}
use Rattle.wl_lines.specs.Shapes.{TextLine, line_text}
use Rattle.wl_respond.specs.Texts.{lacking_line}

-- the family that is judged: the nodes of a bus with the oscillators of its text
abbrev pub IsFamilyOf : Asked → Bus → Buses → Type 0
IsFamilyOf asked bus f = (paces : List Pace) × (paces_of bus.deviations ≡ Some paces) × (f ≡ family_asked asked (family_of bus.plan paces))

-- the family of which `respond` tells the waits: of these nodes each one sends that has a message
abbrev pub IsFamilyOfText : PlanText → Bus → Buses → Type 0
IsFamilyOfText plain bus f = (paces : List Pace) × (paces_of bus.deviations ≡ Some paces) × (f ≡ family_with_text bus.plan plain paces)

-- The first line says 'proved' for any senders of the family; for one sender at a time.
abbrev pub IsProvedForAny : Buses → List (List ℕ) → List ℕ → Type 0
IsProvedForAny f names text = (one : Bool) × (rest : List ℕ) × (text ≡ any_lead (senders_words f names) (record { any = true; one = one }) ++ rest)

abbrev pub IsProvedForOne : Buses → List (List ℕ) → List ℕ → Type 0
IsProvedForOne f names text = (rest : List ℕ)
    × ((text ≡ any_lead (senders_words f names) (record { any = false; one = true }) ++ rest) ⊎ (text ≡ one_lead (senders_words f names) true ++ rest))

-- The first of the lines of `respond` is that of a proof.
abbrev pub AreSaidBounded : List (List ℕ) → List TextLine → Type 0
AreSaidBounded names lines = (rest : List TextLine) × (lines ≡ lacking_line names None ∷ rest)

-- As text it is 'proved: waits_are_bounded'.
abbrev pub SaysBounded : List (List ℕ) → List ℕ → Type 0
SaysBounded names text = (rest : List ℕ) × (text ≡ line_text (lacking_line names None) ++ rest)
