use Rattle.std.proofs.Common.{◌∙◌}
use Rattle.wl_machine.specs.Judged.{stretch_of}
use Rattle.wl_machine.proofs.Busy.{doing_kept}
use Rattle.wl_machine.proofs.Machine.doing.Goals as goal

pub returns : goal.returns
returns c past h = c.doing.ensures ∙ doing_kept c.args.self.now.progress (stretch_of past) h
