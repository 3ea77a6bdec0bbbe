use Rattle.std.proofs.Common.{◌∙◌, ap, nat_eq}
use Rattle.wl_sweep.specs.declared.tally.Tally.{Tally}
use Rattle.wl_sweep.specs.Findings.{is_clean}
use Rattle.wl_sweep.proofs.Callers.{all_counted}
use Rattle.wl_sweep.proofs.tally.Tally.all_clean.Goals as goal

pub returns : goal.returns
returns c xs is = ap (λ (t : Tally). nat_eq t.clean t.runs) is ∙ all_counted is_clean xs
