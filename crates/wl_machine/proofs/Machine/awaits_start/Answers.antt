use Rattle.std.proofs.Common.{◌∙◌}
use Rattle.wl_machine.specs.Judged.{stretch_of}
use Rattle.wl_machine.proofs.Kept.{awaits_kept}
use Rattle.wl_machine.proofs.Machine.awaits_start.Goals as goal

pub returns : goal.returns
returns c past h = c.awaits_start.ensures ∙ awaits_kept c.args.self.now.progress (stretch_of past) h
