use Rattle.std.proofs.Common.{arith}
use Rattle.wl_machine.specs.Judged.{stretch_of}
use Rattle.wl_heal.specs.Costs.{counts_on}
use Rattle.wl_heal.proofs.Costs.{tec_counts, on_bus}
use Rattle.wl_heal.proofs.CostsRec.{rec_counts}
use Rattle.wl_heal.proofs.laws.what_a_disturbance_counts.Goals as goal

pub returns : goal.returns
returns c = record {
  tec = tec_counts;
  rec = rec_counts;
  on = λ past xs n h few. on_bus (counts_on n (stretch_of past) xs) (let t = tec_counts past xs n h in omega arith);
}
