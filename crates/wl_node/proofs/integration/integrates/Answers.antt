use Rattle.std.proofs.Common.{◌∙◌, sym}
use Rattle.wl_machine.specs.Judged.{stretch_of}
use Rattle.wl_node.proofs.Integrating.{integrates_then, integrates_else}
use Rattle.wl_node.proofs.integration.integrates.Goals as goal

pub returns-in-Integrating : goal.returns-in-Integrating
returns-in-Integrating c past h = integrates_then (stretch_of past).sort (stretch_of past).own (sym (c.doing.ensures past h) ∙ c.in-Integrating.is)

pub returns-in_default : goal.returns-in_default
returns-in_default c past h = integrates_else (stretch_of past).sort (stretch_of past).own (λ e. c.in_default.not-Integrating (c.doing.ensures past h ∙ e))
