use Rattle.wl_buses.proofs.OneSender.Belonging.{others, own}
use Rattle.wl_buses.proofs.one_sender.laws.a_family_has_all_such_plans.Goals as goal

pub returns : goal.returns
returns c = record {
  own = λ plan paces clocks e are keep. own plan paces clocks e are keep;
  others = λ f plan other clocks moved of alike. others f plan other clocks moved of alike;
}
