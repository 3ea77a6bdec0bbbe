-- A node and a number, in that order. This project's profile.
use Rattle.std.specs.Prelude.{ℕ}
use Rattle.std.specs.declared.cmp.Ordering.{Ordering}
use Rattle.std.specs.Ordering.{nat_cmp, ordering_then}

-- the key of an edge is its node and its number; of a silence, its node and its count
abbrev pub Key : Type 0
Key = ℕ × ℕ

-- by the node, and then by the number
abbrev pub key_cmp : Key → Key → Ordering
key_cmp a b = ordering_then (nat_cmp a.0 b.0) (nat_cmp a.1 b.1)
