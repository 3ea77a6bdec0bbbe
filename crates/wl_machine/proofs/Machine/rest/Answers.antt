use Rattle.std.proofs.Common.{◌∙◌, sym}
use Rattle.wl_machine.specs.Judged.{stretch_of}
use Rattle.wl_machine.proofs.KeptRest.{rest_kept}
use Rattle.wl_machine.proofs.Resting.{rest_stands}
use Rattle.wl_machine.proofs.Machine.rest.Goals as goal

pub returns-clause-value : goal.returns-clause-value
returns-clause-value c past h = c.rest.ensures ∙ rest_kept c.args.self.now.progress (stretch_of past) h

pub returns-clause-stands : goal.returns-clause-stands
returns-clause-stands c past more n h e all below =
    rest_stands past more n all (sym (c.rest.ensures ∙ rest_kept c.args.self.now.progress (stretch_of past) h) ∙ e) below
