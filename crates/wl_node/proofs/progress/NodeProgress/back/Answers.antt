-- What the lists had at the mark comes first in them.
use Rattle.std.proofs.Common.{◌≡◌, ◌∙◌, ◌++◌, take, length, ap, sym, subst, arith, length-append}
use Rattle.std.specs.List.{flat_map}
use Rattle.wl_node.specs.declared.phase_totals.PhaseTotals.{PhaseTotals}
use Rattle.std.specs.Prelude.{count_by}
use Rattle.wl_node.specs.declared.setup.NodeSetup.{NodeSetup}
use Rattle.wl_node.specs.History.{staying_history, phase_of, is_sent, unsent_of}
use Rattle.wl_node.specs.Unsent.{IsChosen, IsUnsent}
use Rattle.wl_node.specs.Runs.{samples_by}
use Rattle.wl_node.proofs.Growing.{front_of, grown, longer_phases}
use Rattle.wl_node.proofs.progress.NodeProgress.back.Goals as goal

pub returns-clause-place : goal.returns-clause-place
returns-clause-place c levels more marked was =
    let setup : NodeSetup = c.args.setup.now in
    let h = staying_history setup levels in
    let g = staying_history setup (levels ++ more) in
    let on = grown setup levels more in
    let at = marked.place in
    let kept = was.place in
    let front : take c.args.mark.now.frames c.args.self.now.traffic.frames.items ≡ h.frames =
    ap (λ n. take n c.args.self.now.traffic.frames.items) at.frames ∙ (ap (take (length h.frames)) kept.traffic.frames ∙ front_of h.frames g.frames on.frames) in
    let unsent : IsUnsent setup c.unpass.new.unsent h.frames =
    subst (IsUnsent setup c.unpass.new.unsent) front
    (c.unpass.ensures.unsent (subst (IsUnsent setup c.args.self.now.traffic.unsent) (sym kept.traffic.frames) kept.traffic.unsent)
    (λ fifo. at.sent fifo ∙ ap (count_by is_sent) (sym front))) in
    record {
      counted = marked.counted;
      place = record {
        clock = at.clock;
        drive = at.drive;
        quanta = at.quanta;
        syncs = record {
          phases = λ listed. c.truncate.ensures.items
              ∙ (ap (λ (t : PhaseTotals). take t.count c.args.self.now.syncs.phases.items) at.totals
              ∙ (ap (take (length (flat_map phase_of h.syncs))) (kept.syncs.phases listed)
              ∙ front_of (flat_map phase_of h.syncs) (flat_map phase_of g.syncs) (longer_phases h.syncs g.syncs on.syncs)));
          totals = at.totals;
          hards = at.hards;
        };
        same = kept.same ∙ sym c.truncate-2.ensures.keeps;
        traffic = record {
          machine = c.copy-self.ensures h.inputs at.machine;
          counters = at.counters;
          pending = at.pending;
          unsent = unsent;
          errors = at.errors;
          samples = λ listed.
              (let was_listed = sym c.truncate-2.ensures.keeps ∙ listed in
              c.truncate-2.ensures.samples was_listed
              ∙ (ap (λ n. take n (samples_by c.args.self.now.traffic.samples.runs.items)) at.samples
              ∙ (ap (take (length h.samples)) (kept.traffic.samples was_listed) ∙ front_of h.samples g.samples on.samples)));
          sampled =
              (let few = ap length on.samples.1 ∙ length-append h.samples on.samples.0 in
              let now = c.truncate-2.ensures.count in
              let was_count = kept.traffic.sampled in
              let mark = at.samples in
              omega (arith, few, now, was_count, mark));
          frames = c.unpass.ensures.frames ∙ front;
          sends = λ frame e. subst (IsChosen setup.order (unsent_of setup h) frame) (sym c.unpass.ensures.place) (at.sends frame e);
        };
      };
    }
