use Rattle.std.proofs.Common.{◌∙◌}
use Rattle.wl_machine.specs.Judged.{stretch_of}
use Rattle.wl_machine.proofs.Sends.{to_send_kept}
use Rattle.wl_machine.proofs.Machine.to_send.Goals as goal

pub returns : goal.returns
returns c past h = c.to_send.ensures ∙ to_send_kept c.args.self.now.progress (stretch_of past) h
