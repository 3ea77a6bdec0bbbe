use Rattle.std.proofs.Common.{◌∙◌, ◌<◌, ◌∷◌, [], ◌++◌, ℕ, List, length, map, ap, ap₂, sym, subst, arith, zero-add}
use Rattle.std.specs.List.{range_with_len}
use Rattle.std.proofs.lemmas.List.FromFn.{map-range_with_len_more}
use Rattle.wl_views.specs.declared.signals.NodeSignals.{NodeSignals}
use Rattle.wl_views.specs.declared.probe.Probe.{Probe}
use Rattle.wl_views.specs.Probe.{Watches}
use Rattle.wl_views.specs.Signals.{node_signals}
use Rattle.wl_views.proofs.Watching.{now}
use Rattle.wl_views.proofs.signals.first_signals.Goals as goal

pub loop-i-preserved : goal.loop-i-preserved
loop-i-preserved c =
    let plan = c.args.plan.now in
    let i : ℕ = c.loop-i.i in
    let w : Probe = c.index-probes-i.result in
    record {
      now = λ t all.
          let long = all.nodes in
          let b : i < length plan.nodes = omega (arith, c.loop-i-test.true) in
          let watches : Watches plan i t w = subst (λ (x : Probe). Watches plan i t x) (sym c.index-probes-i.is) (all.each i w b) in
          c.in_ok-push.ensures.items
          ∙ ap₂ (λ (xs : List NodeSignals) x. xs ++ x ∷ []) (c.loop-i.invariant.now t all)
          (c.signals.ensures ∙ sym (now c.simulation_laws.ensures plan c.laws.ensures.sound i b t w watches))
          ∙ sym (map-range_with_len_more (node_signals plan t) 0 i i (zero-add i));
    }

pub returns : goal.returns
returns c t all =
    let long = all.nodes in
    c.loop-i.invariant.now t all
    ∙ ap (λ (n : ℕ). map (node_signals c.args.plan.now t) (range_with_len 0 n)) {x = c.loop-i.i} {y = length c.args.plan.now.nodes} (omega arith)
