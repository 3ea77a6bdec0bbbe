use Rattle.std.proofs.Common.{◌≡◌, ◌∙◌, ◌++◌, ◌∷◌, [], ap, sym, subst, refl, length, None}
use Rattle.wl_level.specs.declared.Level.TheVariants.{Recessive}
use Rattle.wl_level.proofs.Callers.{recessive_from}
use Rattle.wl_node.specs.declared.setup.NodeSetup.{NodeSetup}
use Rattle.wl_node.specs.declared.traffic.Traffic.{Traffic}
use Rattle.wl_node.specs.History.{head_at_next, history_after_sample, sampled_next, unsent_of}
use Rattle.wl_node.specs.Kept.{IsTraffic}
use Rattle.wl_node.specs.Runs.{samples_by}
use Rattle.wl_node.specs.Unsent.{is_first_ready}
use Rattle.wl_node.proofs.Rested.{rests}
use Rattle.wl_node.proofs.Unsents.{no_head}
use Rattle.wl_node.proofs.traffic.Traffic.sample.Goals as goal

pub returns-then-not-is_first_ready-clause-traffic : goal.returns-then-not-is_first_ready-clause-traffic
returns-then-not-is_first_ready-clause-traffic c h n old =
    let setup : NodeSetup = c.args.setup.now in
    let now : Traffic = record {
      machine = c.args.self.now.machine;
      counters = c.args.self.now.counters;
      pending = c.args.self.now.pending;
      unsent = c.args.self.now.unsent;
      errors = c.args.self.now.errors;
      samples = c.push.new.self;
      frames = c.args.self.now.frames;
    } in
    let level : c.args.level ≡ Recessive = recessive_from c.args.level (sym c.is_dominant.ensures ∙ c.if-not-is_dominant.true) in
    let unsent : c.frames.result.now ≡ unsent_of setup h = c.frames.ensures ∙ old.unsent.left in
    let head : head_at_next setup h ≡ None =
    no_head setup.order (unsent_of setup h) (length h.seen)
    (ap (is_first_ready (unsent_of setup h)) n ∙ ap (λ u. is_first_ready u c.args.quantum) (sym unsent) ∙ sym c.is_first_ready.ensures ∙ c.if-not-is_first_ready.true) in
    subst (λ l. IsTraffic setup now (history_after_sample setup h l)) (sym level)
    (rests setup h head (sym (c.is_free.ensures.sort h.inputs old.machine) ∙ c.if-is_free.true) c.args.self.now now old refl refl refl refl refl refl
    (record {
      keeps = c.push.ensures.keeps;
      samples = λ on. c.push.ensures.samples on ∙ ap (λ k. samples_by c.args.self.now.samples.runs.items ++ (k, Recessive) ∷ []) (sym n);
      count = c.push.ensures.count;
    })
    (c.is_free.ensures.stays c.if-is_free.true h.inputs (sampled_next setup h Recessive).mode old.machine))
