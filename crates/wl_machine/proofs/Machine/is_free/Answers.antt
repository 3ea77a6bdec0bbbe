use Rattle.std.proofs.Common.{◌∙◌, None, sym, subst}
use Rattle.wl_level.specs.declared.Level.TheVariants.{Recessive}
use Rattle.wl_machine.specs.Stretch.Input.{Sample}
use Rattle.wl_machine.specs.Judged.{stretch_of}
use Rattle.wl_machine.specs.States.{IsIn, sample_of}
use Rattle.wl_machine.proofs.Free.{free_kept, free_next}
use Rattle.wl_machine.proofs.Runs.{stretch_next}
use Rattle.wl_machine.proofs.Machine.is_free.Goals as goal

pub returns-clause-sort : goal.returns-clause-sort
returns-clause-sort c past h = c.is_free.ensures ∙ free_kept c.args.self.now.progress (stretch_of past) h

pub returns-clause-stays : goal.returns-clause-stays
returns-clause-stays c e past mode h =
    subst (IsIn c.args.self.now.progress) (sym (stretch_next past (Sample (sample_of Recessive None mode))))
    (free_next c.args.self.now.progress (stretch_of past) mode h (sym c.is_free.ensures ∙ e))
