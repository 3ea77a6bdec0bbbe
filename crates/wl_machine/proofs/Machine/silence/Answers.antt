use Rattle.std.proofs.Common.{◌∙◌}
use Rattle.wl_machine.specs.Judged.{stretch_of}
use Rattle.wl_machine.proofs.KeptSilence.{silence_kept}
use Rattle.wl_machine.proofs.Machine.silence.Goals as goal

pub returns : goal.returns
returns c past h = c.silence.ensures ∙ silence_kept c.args.heads c.args.self.now.progress (stretch_of past) h
