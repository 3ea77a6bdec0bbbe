-- What is made of values one after another, or the first refusal (this project's profile).
use Rattle.std.specs.Prelude.{◌≡◌, ◌≢◌, List, [], ◌∷◌, Result, Ok, Err, MatchResult}
use Rattle.wl_apply.specs.declared.fault.ApplyFault.{ApplyFault}
use Rattle.wl_apply.specs.declared.fault.ApplyFault.TheVariants.{Memory}

-- what is made of a value, unless it was refused
abbrev pub if_made : {T U : Type 0} → Result T ApplyFault → (T → Result U ApplyFault) → Result U ApplyFault
if_made (Ok x) make = make x
if_made (Err e) make = Err e

-- what is made of each in a list, or the first refusal
abbrev pub each_made : {T U : Type 0} → (T → Result U ApplyFault) → List T → Result (List U) ApplyFault
each_made make [] = Ok []
each_made make (x ∷ xs) = if_made (make x) (λ y. if_made (each_made make xs) (λ ys. Ok (y ∷ ys)))

-- an answer is this one, unless memory was refused
abbrev pub AnswersMade : {T : Type 0} → Result T ApplyFault → Result T ApplyFault → Type 0
AnswersMade wanted answer = MatchResult answer (λ x. wanted ≡ Ok x) (λ e. e ≢ Memory → wanted ≡ Err e)
