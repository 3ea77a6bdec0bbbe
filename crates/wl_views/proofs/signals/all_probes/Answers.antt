use Rattle.std.proofs.Common.{◌∙◌, ◌+◌, ◌∷◌, [], ℕ, List, length, length-append, get_or, ap, sym, subst, arith}
use Rattle.wl_views.specs.declared.probe.Probe.{Probe}
use Rattle.wl_views.specs.Probe.{Watches}
use Rattle.wl_views.proofs.Watching.{known_behind}
use Rattle.wl_views.proofs.signals.all_probes.Goals as goal

pub loop-i-preserved : goal.loop-i-preserved
loop-i-preserved c =
    let plan = c.args.plan.now in
    let i : ℕ = c.loop-i.i in
    let all : List Probe = c.loop-i.probes.items in
    let w : Probe = c.follow.new.self in
    record {
      long = ap length c.in_ok-push.ensures.items ∙ length-append all (w ∷ []) ∙ ap (λ (n : ℕ). n + 1) c.loop-i.invariant.long;
      known = λ k d below.
          subst (λ (xs : List Probe). Watches plan k c.args.at (get_or xs k d)) (sym c.in_ok-push.ensures.items)
          (known_behind (λ m x. Watches plan m c.args.at x) all i w c.loop-i.invariant.long c.loop-i.invariant.known c.follow.ensures k d below);
    }

pub go-requires-clause-limit : goal.go-requires-clause-limit
go-requires-clause-limit c later q below = absurd (omega (arith, c.in_ok-node.ensures.limit))
