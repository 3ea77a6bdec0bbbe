use Rattle.wl_report.proofs.Sums.{clean}
use Rattle.wl_report.proofs.laws.clean_is_clean.Goals as goal

pub returns : goal.returns
returns c = clean
