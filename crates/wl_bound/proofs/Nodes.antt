-- One member for each node, also if more of them send.
use Rattle.std.proofs.Common.{◌≡◌, ℕ, suc, Bool, List, [], ◌∷◌, length, refl, ap, arith}
use Rattle.wl_node.specs.declared.setup.NodeSetup.{NodeSetup}
use Rattle.wl_bound.specs.Oscillators.{Pace}
use Rattle.wl_bound.specs.declared.family.Member.{Member}
use Rattle.wl_bound.specs.Families.{members_of, sending}

pub length_members : (nodes : List NodeSetup) (paces : List Pace) → length paces ≡ length nodes → length (members_of nodes paces) ≡ length nodes
length_members [] paces e = refl
length_members (node ∷ nodes) [] e = e
length_members (node ∷ nodes) (pace ∷ paces) e = ap suc (length_members nodes paces (omega arith))

pub length_sending : (listens : ℕ → Bool) (i : ℕ) (members : List Member) → length (sending listens i members) ≡ length members
length_sending listens i [] = refl
length_sending listens i (member ∷ later) = ap suc (length_sending listens (suc i) later)
