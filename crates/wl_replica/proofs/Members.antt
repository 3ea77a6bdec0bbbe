-- Members of a list of records, by recursion on the list.
use Rattle.std.proofs.Common.{◌≡◌, ℕ, zero, suc, ◌<◌, List, [], ◌∷◌, length, refl, subst, sym, arith}
use Rattle.std.specs.Prelude.{Contains, slice_index_or}
use Rattle.wl_record_core.specs.declared.record.Record.{Record}

pub data IsIn (r : Record) : List Record → Type 0 where
  here : {rs : List Record} → IsIn r (r ∷ rs)
  there : {q : Record} {rs : List Record} → IsIn r rs → IsIn r (q ∷ rs)

at_place : (rs : List Record) (r : Record) (k : ℕ) → k < length rs → slice_index_or rs k r ≡ r → IsIn r rs
at_place [] r k b h = absurd (omega arith)
at_place (q ∷ rs) r zero b h = subst (λ v. IsIn r (v ∷ rs)) (sym h) here
at_place (q ∷ rs) r (suc k) b h = there (at_place rs r k (omega arith) h)

pub in_of : (rs : List Record) (r : Record) → Contains rs r → IsIn r rs
in_of rs r h = at_place rs r h.0 h.1 h.2

pub contains_of : (r : Record) (rs : List Record) → IsIn r rs → Contains rs r
contains_of r rs (here {rs = qs}) = (0, omega arith, refl)
contains_of r rs (there {q = q} {rs = qs} h) = (let c = contains_of r qs h in (suc c.0, (let b = c.1 in omega arith), c.2))
