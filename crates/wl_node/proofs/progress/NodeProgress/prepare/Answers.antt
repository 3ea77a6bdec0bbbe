use Rattle.std.proofs.Common.{◌∙◌, sym}
use Rattle.wl_node.proofs.progress.NodeProgress.prepare.Goals as goal

pub returns-clause-same : goal.returns-clause-same
returns-clause-same c setup levels old = record {
  counted = old.counted;
  place = record {
    clock = old.place.clock;
    drive = old.place.drive;
    quanta = old.place.quanta;
    syncs = record {
      phases = λ on. c.prepare.ensures.phases ∙ old.place.syncs.phases (sym c.prepare.ensures.keeps ∙ on);
      totals = c.prepare.ensures.totals ∙ old.place.syncs.totals;
      hards = c.prepare.ensures.hards ∙ old.place.syncs.hards;
    };
    same = c.prepare.ensures.keeps ∙ (old.place.same ∙ sym c.prepare-2.ensures.keeps);
    traffic = c.prepare-2.ensures.same setup _ old.place.traffic;
  };
}
