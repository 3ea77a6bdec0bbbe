use Rattle.std.proofs.Common.{◌∙◌, [], ◌∷◌, ◌++◌}
use Rattle.std.proofs.Math.Logic.{∥∥₁_map}
use Rattle.std.specs.Option.{option_copied}
use Rattle.wl_machine.specs.Stretch.Input.{Sample}
use Rattle.wl_machine.specs.Judged.{stretch_of}
use Rattle.wl_machine.specs.States.{sample_of}
use Rattle.wl_machine.proofs.Kept.{drive_kept}
use Rattle.wl_machine.proofs.Runs.{reached_next}
use Rattle.wl_machine.proofs.Machine.bit.Goals as goal

pub step-step-requires : goal.step-step-requires
step-step-requires c = ∥∥₁_map c.args.self.now.reached (λ (past, h). (stretch_of past, h))

pub invariant_of-self : goal.invariant_of-self
invariant_of-self c = record {
  reached = ∥∥₁_map c.args.self.now.reached (λ (past, h). (
    past ++ Sample (sample_of c.args.sample (option_copied c.args.head) c.args.mode) ∷ [],
    reached_next c.step-step.new.self c.step-step.result past _ (c.step-step.ensures (stretch_of past) h),
  ));
}

pub returns-clause-drive : goal.returns-clause-drive
returns-clause-drive c past h =
    c.drive.ensures
    ∙ drive_kept c.step-step.new.self _ (reached_next c.step-step.new.self c.step-step.result past (sample_of c.args.sample (option_copied c.args.head) c.args.mode) (c.step-step.ensures (stretch_of past) h))
