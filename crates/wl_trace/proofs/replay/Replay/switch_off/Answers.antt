use Rattle.std.proofs.Common.{◌≡◌, ◌∙◌, ap, sym, subst, [], ◌∷◌, ◌++◌, List, Bool}
use Rattle.std.specs.Prelude.{if◌then◌else◌}
use Rattle.wl_machine.specs.Stretch.{Input}
use Rattle.wl_machine.specs.Stretch.Input.{SwitchedOff}
use Rattle.wl_machine.specs.Judged.{stretch_of}
use Rattle.wl_machine.proofs.Callers.{stretch_next}
use Rattle.wl_node.specs.History.{switched_off}
use Rattle.wl_trace.specs.Running.{KeepsStretch}
use Rattle.wl_trace.proofs.replay.Replay.switch_off.Goals as goal

pub returns-then-goes_off-clause-stretch : goal.returns-then-goes_off-clause-stretch
returns-then-goes_off-clause-stretch c past r =
    let ordered : switched_off c.args.before c.args.after ≡ SwitchedOff ∷ [] = c.goes_off.ensures ∙ ap (λ (b : Bool). if b then SwitchedOff ∷ [] else []) c.if-goes_off.true in
    subst (λ (l : List Input). KeepsStretch c.switch_off.new.self (stretch_of (past ++ l))) (sym ordered)
    (subst (KeepsStretch c.switch_off.new.self) (sym (stretch_next past SwitchedOff)) (c.switch_off.ensures (stretch_of past)))
