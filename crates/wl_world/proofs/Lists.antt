-- A true list's members are true.
use Rattle.std.proofs.Common.{◌≡◌, ℕ, zero, suc, List, [], ◌∷◌, subst, Some, slice_get}
use Rattle.wl_record_core.specs.declared.record.Record.{Record}
use Rattle.wl_record_core.specs.Truth.{IsTrueOf, AreTrueOf}

pub true_member : (nodes : ℕ) (table : ℕ → List ℕ) (rs : List Record) (k : ℕ) (r : Record) → AreTrueOf nodes table rs → slice_get rs k ≡ Some r → IsTrueOf nodes table r
true_member nodes table [] k r h e = cc
true_member nodes table (q ∷ rs) zero r h e = subst (IsTrueOf nodes table) (let c : q ≡ r = cc in c) h.0
true_member nodes table (q ∷ rs) (suc k) r h e = true_member nodes table rs k r h.1 e
