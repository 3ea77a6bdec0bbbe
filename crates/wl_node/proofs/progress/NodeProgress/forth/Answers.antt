-- No frame came since, so the longer list of them is the same; the other lists aren't kept.
use Rattle.std.proofs.Common.{◌≡◌, ◌∙◌, ℕ, List, ◌++◌, ap, sym, length, true, false, arith}
use Rattle.std.specs.Prelude.{count_by}
use Rattle.wl_node.specs.declared.setup.NodeSetup.{NodeSetup}
use Rattle.wl_node.specs.declared.setup.Passed.{Passed}
use Rattle.wl_node.specs.declared.unsent.Unsent.{Unsent}
use Rattle.wl_node.specs.History.{staying_history}
use Rattle.wl_node.specs.Queues.{is_sent, unsent_by}
use Rattle.wl_node.specs.Unsent.{IsUnsent}
use Rattle.wl_node.proofs.Growing.{grown, same_of}
use Rattle.wl_node.proofs.progress.NodeProgress.forth.Goals as goal

-- the place of the frame that is chosen decides nothing of those that are left
moved : (setup : NodeSetup) {kept : Unsent} {place : ℕ} {frames more : List Passed} → IsUnsent setup kept frames → frames ≡ more → IsUnsent setup (record kept { place = place }) more
moved setup is same = record { left = is.left ∙ ap (unsent_by setup.order setup.queue) same; sent = λ fifo. is.sent fifo ∙ ap (count_by is_sent) same; long = is.long }

pub returns-clause-place : goal.returns-clause-place
returns-clause-place c setup levels more marked was =
    let h = staying_history setup levels in
    let g = staying_history setup (levels ++ more) in
    let on = grown setup levels more in
    let at = marked.place in
    let kept = was.place in
    let same : h.frames ≡ g.frames =
    (let was_long = ap length kept.traffic.frames in
    let unchanged = c.requires.frames in
    let mark = at.frames in
    same_of h.frames g.frames on.frames (omega (arith, was_long, unchanged, mark))) in
    record {
      counted = marked.counted;
      place = record {
        clock = at.clock;
        drive = at.drive;
        quanta = at.quanta;
        syncs = record {
          phases = λ listed. (let none : true ≡ false = sym listed ∙ (kept.same ∙ c.requires.counts) in cc);
          totals = at.totals;
          hards = at.hards;
        };
        same = kept.same ∙ sym c.recount.ensures.keeps;
        traffic = record {
          machine = c.copy-traffic.ensures g.inputs at.machine;
          counters = at.counters;
          pending = at.pending;
          unsent = moved setup kept.traffic.unsent same;
          errors = at.errors;
          samples = λ listed. (let none : true ≡ false = sym listed ∙ (c.recount.ensures.keeps ∙ c.requires.counts) in cc);
          sampled = c.recount.ensures.count ∙ at.samples;
          frames = kept.traffic.frames ∙ same;
          sends = at.sends;
        };
      };
    }
