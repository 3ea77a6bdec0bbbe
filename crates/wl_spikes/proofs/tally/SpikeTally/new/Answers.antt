use Rattle.wl_spikes.specs.declared.aftermath.Class.TheVariants.{Clean, Healed, Late, Unhealed, Twice, Missed, Off, Refused}
use Rattle.wl_spikes.proofs.tally.SpikeTally.new.Goals as goal

pub returns : goal.returns
returns c =
    (λ i. record {
      runs = 0;
      sound = 0;
      clean = c.none.ensures Clean i;
      healed = c.none-2.ensures Healed i;
      late = c.none-3.ensures Late i;
      unhealed = c.none-4.ensures Unhealed i;
      twice = c.none-5.ensures Twice i;
      missed = c.none-6.ensures Missed i;
      off = c.none-7.ensures Off i;
      refused = c.none-8.ensures Refused i;
      longest = 0;
      tec = 0;
      rec = 0;
    })
