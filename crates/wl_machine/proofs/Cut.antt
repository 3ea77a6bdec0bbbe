-- The cut of a list of inputs into stretches.
use Rattle.std.proofs.Common.{◌≡◌, ◌∙◌, List, [], ◌∷◌, ◌++◌, map, Some, refl, sym, ap, append-nil, append_assoc}
use Rattle.std.proofs.lemmas.List.Sums.{fold-append}
use Rattle.wl_machine.specs.Stretch.{Stretch, Sampled, Input}
use Rattle.wl_machine.specs.Stretch.Input.{Sample}
use Rattle.wl_machine.specs.Stretch.Sort.{Integration}
use Rattle.wl_machine.specs.Judged.{judged, or_next, stretch_after, stretch_of}
use Rattle.wl_machine.specs.Laws.{NoneEnds, longer_stretch, level_in}
use Rattle.wl_machine.specs.States.{stretch_by}
use Rattle.wl_machine.proofs.Runs.{stretch_next}
use Rattle.std.specs.Prelude.{fold}

grown_none : (s : Stretch) → longer_stretch s [] ≡ s
grown_none s = ap (stretch_by s.sort) (append-nil s.own)

grown_more : (s : Stretch) (x : Sampled) (rest : List Sampled) → longer_stretch (longer_stretch s (x ∷ [])) rest ≡ longer_stretch s (x ∷ rest)
grown_more s x rest = ap (stretch_by s.sort) (append_assoc s.own (x.level ∷ []) (map level_in rest))

runs_on : (s : Stretch) (during : List Sampled) → NoneEnds s during → fold stretch_after s (map Sample during) ≡ longer_stretch s during
runs_on s [] h = sym (grown_none s)
runs_on s (x ∷ rest) h =
    let first : stretch_after s (Sample x) ≡ longer_stretch s (x ∷ []) =
    ap (λ n. or_next n (longer_stretch s (x ∷ []))) (ap (λ t. (judged t x).next) (sym (grown_none s)) ∙ h [] rest x refl) in
    let later : NoneEnds (longer_stretch s (x ∷ [])) rest = (λ front more y e.
    ap (λ t. (judged t y).next) (grown_more s x front) ∙ h (x ∷ front) more y (ap (λ r. x ∷ r) e)) in
    ap (λ t. fold stretch_after t (map Sample rest)) first ∙ runs_on (longer_stretch s (x ∷ [])) rest later ∙ grown_more s x rest

pub goes_on_with : (past : List Input) (during : List Sampled) → NoneEnds (stretch_of past) during → stretch_of (past ++ map Sample during) ≡ longer_stretch (stretch_of past) during
goes_on_with past during h = fold-append stretch_after (stretch_by Integration []) past (map Sample during) ∙ runs_on (stretch_of past) during h

pub ends_with : (past : List Input) (x : Sampled) (next : Stretch) → (judged (stretch_of past) x).next ≡ Some next → stretch_of (past ++ Sample x ∷ []) ≡ next
ends_with past x next h = stretch_next past (Sample x) ∙ ap (λ n. or_next n (longer_stretch (stretch_of past) (x ∷ []))) h
