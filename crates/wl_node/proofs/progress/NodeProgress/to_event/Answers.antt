use Rattle.std.proofs.Common.{◌≡◌, ◌∙◌, ◌++◌, ap, sym, subst, arith, append-nil, replicate}
use Rattle.wl_node.specs.Kept.{IsProgress}
use Rattle.wl_node.proofs.progress.NodeProgress.to_event.Goals as goal

pub returns-else-free-gt0-clause-place : goal.returns-else-free-gt0-clause-place
returns-else-free-gt0-clause-place c setup levels is =
    let none : c.min-free.result ≡ 0 = omega (arith, c.if-free-gt0.false) in
    subst (IsProgress setup c.args.self.now) (sym (ap (λ n. levels ++ replicate n c.args.level) none ∙ append-nil levels)) is
