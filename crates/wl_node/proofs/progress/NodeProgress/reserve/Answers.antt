use Rattle.std.proofs.Common.{◌∙◌, sym}
use Rattle.wl_node.proofs.progress.NodeProgress.reserve.Goals as goal

pub returns-clause-same : goal.returns-clause-same
returns-clause-same c setup levels old = record {
  counted = old.counted;
  place = record {
    clock = old.place.clock;
    drive = old.place.drive;
    quanta = old.place.quanta;
    syncs = record {
      phases = λ on. c.reserve.ensures.phases ∙ old.place.syncs.phases (sym c.reserve.ensures.keeps ∙ on);
      totals = c.reserve.ensures.totals ∙ old.place.syncs.totals;
      hards = c.reserve.ensures.hards ∙ old.place.syncs.hards;
    };
    same = c.reserve.ensures.keeps ∙ (old.place.same ∙ sym c.reserve-2.ensures.keeps);
    traffic = c.reserve-2.ensures.same setup _ old.place.traffic;
  };
}
