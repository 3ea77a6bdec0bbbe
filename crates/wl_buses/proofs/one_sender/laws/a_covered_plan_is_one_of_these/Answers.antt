use Rattle.wl_bound.specs.Conditions.{plain}
use Rattle.wl_buses.proofs.OneSender.Covering.{one_sender, steady_plan}
use Rattle.wl_buses.proofs.one_sender.laws.a_covered_plan_is_one_of_these.Goals as goal

pub returns : goal.returns
returns c = record {
  steady = λ plan clocks covered checked rates book. steady_plan plan covered clocks checked rates book;
  sender = λ plan sender first later covered inside queue alone. one_sender plan covered sender first later inside queue alone;
  sound = λ f sender none inside sends. (c.condition_laws.ensures.one f plain).0 none sender inside sends;
}
