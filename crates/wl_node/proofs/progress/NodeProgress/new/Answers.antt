use Rattle.std.proofs.Common.{length, refl, sym, ap, subst}
use Rattle.wl_node.specs.declared.setup.NodeSetup.{NodeSetup}
use Rattle.wl_node.specs.History.{History, no_history}
use Rattle.wl_node.specs.Kept.{FitsHistory}
use Rattle.wl_node.proofs.Turns.{history_first}
use Rattle.wl_node.proofs.progress.NodeProgress.new.Goals as goal

pub returns-clause-place : goal.returns-clause-place
returns-clause-place c =
    let setup : NodeSetup = c.args.setup.now in
    let place : FitsHistory setup _ no_history = record {
      clock = c.new.ensures;
      drive = refl;
      quanta = refl;
      syncs = record { phases = λ on. c.in_ok-with_capacity.ensures.items; totals = c.none.ensures; hards = refl };
      same = sym c.in_ok-new-2.ensures.keeps;
      traffic = record {
        machine = c.new-2.ensures;
        counters = c.new-3.ensures;
        pending = refl;
        unsent = c.in_ok-new.ensures;
        errors = refl;
        samples = λ on. c.in_ok-new-2.ensures.samples;
        sampled = c.in_ok-new-2.ensures.none;
        frames = c.in_ok-with_capacity-2.ensures.items;
        sends = λ frame h. cc;
      };
    } in
    record {
      counted = ap (λ (h : History). length h.seen) (history_first setup);
      place = subst (FitsHistory setup _) (sym (history_first setup)) place;
    }
