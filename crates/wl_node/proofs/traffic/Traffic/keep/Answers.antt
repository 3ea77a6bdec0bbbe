use Rattle.std.proofs.Common.{◌∙◌, ◌++◌, ◌∷◌, [], ap, sym, refl}
use Rattle.wl_machine.specs.Stretch.{Sampled}
use Rattle.wl_node.specs.declared.traffic.Traffic.{Traffic}
use Rattle.wl_node.specs.History.{sampled_next}
use Rattle.wl_node.specs.Runs.{samples_by}
use Rattle.wl_node.proofs.Rested.{keeps}
use Rattle.wl_node.proofs.traffic.Traffic.keep.Goals as goal

pub returns-then-keeps-clause-kept : goal.returns-then-keeps-clause-kept
returns-then-keeps-clause-kept c e setup h n old =
    let now : Traffic = record {
      machine = c.keep-keeps.new.self;
      counters = c.args.self.now.counters;
      pending = c.args.self.now.pending;
      unsent = c.args.self.now.unsent;
      errors = c.args.self.now.errors;
      samples = c.push.new.self;
      frames = c.args.self.now.frames;
    } in
    let x : Sampled = sampled_next setup h c.args.level in
    keeps setup h c.args.level (c.keep-keeps.ensures.judged c.if-keeps.true h.inputs old.machine x.head x.mode) c.args.self.now now old refl refl refl refl refl
    (record {
      keeps = c.push.ensures.keeps;
      samples = λ on. c.push.ensures.samples on ∙ ap (λ k. samples_by c.args.self.now.samples.runs.items ++ (k, c.args.level) ∷ []) (sym n);
      count = c.push.ensures.count;
    })
    (c.keep-keeps.ensures.before c.if-keeps.true h.inputs old.machine ∙ sym (c.keep-keeps.ensures.after c.if-keeps.true h.inputs old.machine x.head x.mode))
    (c.keep-keeps.ensures.machine c.if-keeps.true h.inputs old.machine x.head x.mode)

pub returns-else-keeps-clause-same : goal.returns-else-keeps-clause-same
returns-else-keeps-clause-same c e setup h old = record {
  machine = c.keep-keeps.ensures.stays c.if-keeps.false h.inputs old.machine;
  counters = old.counters;
  pending = old.pending;
  unsent = old.unsent;
  errors = old.errors;
  samples = old.samples;
  sampled = old.sampled;
  frames = old.frames;
  sends = old.sends;
}
