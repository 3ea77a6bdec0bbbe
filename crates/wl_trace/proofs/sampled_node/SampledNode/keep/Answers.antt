use Rattle.std.proofs.Common.{◌∙◌, refl, sym}
use Rattle.wl_machine.specs.Judged.{stretch_of}
use Rattle.wl_machine.specs.Stretch.{Sampled}
use Rattle.wl_trace.specs.Replay.{sampled_then}
use Rattle.wl_trace.specs.declared.sampled_node.SampledNode.{SampledNode}
use Rattle.wl_trace.proofs.Kept.{kept, lost_none}
use Rattle.wl_trace.proofs.sampled_node.SampledNode.keep.Goals as goal

pub returns-clause-past : goal.returns-clause-past
returns-clause-past c e setup p quantum old =
    let x : Sampled = sampled_then setup p quantum c.args.level in
    let now : SampledNode = record {
      machine = c.keep.new.self;
      counters = c.args.self.now.counters;
      pending = c.args.self.now.pending;
      unsent = c.args.self.now.unsent;
    } in
    kept setup p quantum c.args.level (c.keep.ensures.judged e p.inputs old.machine x.head x.mode) c.args.self.now now old refl refl refl
    (c.keep.ensures.before e p.inputs old.machine ∙ sym (c.keep.ensures.after e p.inputs old.machine x.head x.mode))
    (c.keep.ensures.machine e p.inputs old.machine x.head x.mode)

pub returns-clause-judged : goal.returns-clause-judged
returns-clause-judged c e setup p quantum old =
    let x : Sampled = sampled_then setup p quantum c.args.level in
    c.keep.ensures.judged e p.inputs old.machine x.head x.mode

pub returns-clause-lost : goal.returns-clause-lost
returns-clause-lost c e setup p old =
    lost_none (stretch_of p.inputs) c.args.level (sym (c.keep.ensures.value p.inputs old.machine) ∙ e)

pub returns-clause-same : goal.returns-clause-same
returns-clause-same c e setup p old = record {
  machine = c.keep.ensures.stays e p.inputs old.machine;
  counters = old.counters;
  pending = old.pending;
  unsent = old.unsent;
  sends = old.sends;
}
