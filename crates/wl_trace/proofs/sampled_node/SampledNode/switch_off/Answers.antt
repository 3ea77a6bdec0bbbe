use Rattle.std.proofs.Common.{◌≡◌, ◌∙◌, ap, sym, subst, [], ◌∷◌, ◌++◌, List, Bool}
use Rattle.std.specs.Prelude.{if◌then◌else◌}
use Rattle.wl_machine.specs.Stretch.{Input}
use Rattle.wl_level.specs.declared.Level.TheVariants.{Recessive}
use Rattle.wl_machine.specs.Stretch.Input.{SwitchedOff}
use Rattle.wl_machine.specs.Judged.{drive_of, stretch_of}
use Rattle.wl_machine.proofs.Callers.{stretch_next}
use Rattle.wl_node.specs.History.{switched_off}
use Rattle.wl_trace.proofs.sampled_node.SampledNode.switch_off.Goals as goal

pub returns-then-goes_off-clause-pending : goal.returns-then-goes_off-clause-pending
returns-then-goes_off-clause-pending c past r =
    let ordered : switched_off c.args.before c.args.after ≡ SwitchedOff ∷ [] = c.goes_off.ensures ∙ ap (λ (b : Bool). if b then SwitchedOff ∷ [] else []) c.if-goes_off.true in
    subst (λ (l : List Input). Recessive ≡ drive_of (stretch_of (past ++ l))) (sym ordered) (sym (ap drive_of (stretch_next past SwitchedOff)))
