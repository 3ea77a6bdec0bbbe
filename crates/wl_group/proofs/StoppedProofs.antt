-- A node that stopped before its first quantum is where it was.
use Rattle.std.proofs.Common.{◌≡◌, ℕ, zero, ◌+◌, ◌-◌, ◌++◌, replicate, ap, ◌∙◌, subst, arith, append-nil}
use Rattle.wl_level.specs.declared.Level.{Level}
use Rattle.wl_node.specs.declared.node.Node.{Node}
use Rattle.wl_node.specs.Reached.{quanta_of, HasStopped, IsNode, IsSameNode}

pub stopped_at_once : (level : Level) (most : ℕ) (old new : Node) → HasStopped level most old new → quanta_of new - quanta_of old ≡ zero → IsSameNode old new
stopped_at_once level most old new stopped none levels held =
    let grew : quanta_of new ≡ quanta_of old + stopped.n = stopped.gone.quanta in
    let n : stopped.n ≡ zero = omega arith in
    subst (λ xs. IsNode xs new) (ap (λ k. levels ++ replicate k level) n ∙ append-nil levels) (stopped.gone.node levels held)
