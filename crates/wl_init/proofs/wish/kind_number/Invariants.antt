use Rattle.std.proofs.Common.{◌≡◌, drop, map}
use Rattle.wl_init.specs.Wishes.{kind_number}
use Rattle.wl_init.proofs.wish.kind_number.Given as goal

-- as many names as were looked at are counted, and the name is among those that are left
abbrev pub invariant-loop-kind : goal.invariant-loop-kind
invariant-loop-kind l =
    (l.number ≡ l.kind-index)
    × (kind_number l.number (map (λ k. k.0.now) (drop l.kind-index l.kinds)) l.name ≡ kind_number 0 (map (λ k. k.0.now) l.kinds) l.name)
