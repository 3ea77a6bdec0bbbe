-- The machine over lists of inputs, one input longer.
use Rattle.std.proofs.Common.{◌≡◌, List, [], ◌∷◌, ◌++◌, sym, subst}
use Rattle.std.proofs.lemmas.List.Sums.{fold-append}
use Rattle.wl_machine.specs.declared.progress.Progress.{Progress}
use Rattle.wl_machine.specs.declared.progress.Step.{Step}
use Rattle.wl_machine.specs.Stretch.{Sampled, Input}
use Rattle.wl_machine.specs.Stretch.Input.{Sample}
use Rattle.wl_machine.specs.Stretch.Sort.{Integration}
use Rattle.wl_machine.specs.Judged.{stretch_after, stretch_of}
use Rattle.wl_machine.specs.States.{IsIn, IsReachedBy, Meets, stretch_by}

-- the running stretch one input later
pub stretch_next : (past : List Input) (input : Input) → stretch_of (past ++ input ∷ []) ≡ stretch_after (stretch_of past) input
stretch_next past input = fold-append stretch_after (stretch_by Integration []) past (input ∷ [])

pub reached_next : (m : Progress) (step : Step) (past : List Input) (x : Sampled) → Meets m step (stretch_of past) x → IsReachedBy m (past ++ Sample x ∷ [])
reached_next m step past x h = subst (IsIn m) (sym (stretch_next past (Sample x))) h.place
