use Rattle.std.proofs.Common.{◌≡◌, drop, map}
use Rattle.wl_kinds.specs.Kinds.{named}
use Rattle.wl_kinds.proofs.kinds.named.Given as goal

-- the kind is among the rows that are left
abbrev pub invariant-loop-kind : goal.invariant-loop-kind
invariant-loop-kind l = named (map (λ k. (k.0.now, k.1)) (drop l.kind-index l.kinds)) l.name ≡ named (map (λ k. (k.0.now, k.1)) l.kinds) l.name
