use Rattle.std.proofs.Common.{◌≡◌, ℕ, ◌+◌, ◌-◌, ◌&&◌, Bool, nat_le, sym, ap, ◌∙◌, arith}
use Rattle.wl_topology.specs.Delays.{delay_of}
use Rattle.wl_topology.specs.Driven.{any_below}
use Rattle.wl_replica.specs.State.{State, slots_of}
use Rattle.wl_replica.specs.Known.{horizon, wave_at}
use Rattle.wl_replica.proofs.PlaceLemmas.{below_each, some_below, dominant_is, recessive_is}
use Rattle.wl_replica.proofs.replica.Replica.seen.Goals as goal

pub drove-requires-clause-known : goal.drove-requires-clause-known
drove-requires-clause-known c =
    let f : ℕ → ℕ = λ i. horizon (slots_of c.args.self.now) i + delay_of c.args.topology.now i c.args.j in
    let same : c.self.inside.rows.nodes ≡ c.args.self.now.nodes = ap (λ (s : State). s.nodes) c.self.view_is in
    below_each f c.args.self.now.nodes c.loop-i.i c.args.t (omega (arith, same)) c.requires.known

pub returns-then-drove : goal.returns-then-drove
returns-then-drove c =
    let test : ℕ → Bool = λ i. nat_le (delay_of c.args.topology.now i c.args.j) c.args.t && wave_at (slots_of c.args.self.now) i (c.args.t - delay_of c.args.topology.now i c.args.j) in
    let same : c.self.inside.rows.nodes ≡ c.args.self.now.nodes = ap (λ (s : State). s.nodes) c.self.view_is in
    dominant_is _ (some_below test c.args.self.now.nodes c.loop-i.i (omega (arith, same)) (sym c.drove.ensures ∙ c.if-drove.true))

pub returns : goal.returns
returns c =
    let test : ℕ → Bool = λ i. nat_le (delay_of c.args.topology.now i c.args.j) c.args.t && wave_at (slots_of c.args.self.now) i (c.args.t - delay_of c.args.topology.now i c.args.j) in
    let same : c.self.inside.rows.nodes ≡ c.args.self.now.nodes = ap (λ (s : State). s.nodes) c.self.view_is in
    let last : c.args.self.now.nodes ≡ c.loop-i.i = omega (arith, same) in
    recessive_is _ (ap (λ n. any_below n test) last ∙ c.loop-i.invariant)
