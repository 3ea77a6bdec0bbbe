-- No horizon falls where states are joined.
use Rattle.std.specs.Prelude.{◌≡◌, ℕ, List}
use Rattle.std.proofs.Common.{sym, ap, subst, ◌∙◌}
use Rattle.wl_record_core.specs.declared.record.Record.{Record}
use Rattle.wl_record_core.specs.Truth.{IsIncreasing, AreTrueOf}
use Rattle.wl_replica.specs.State.{State, state_of, states_joined, state_with_records, slots_of}
use Rattle.wl_replica.specs.KnownLaws.{KnownLaws}
use Rattle.wl_replica.specs.Slots.{HoldsTrue, IsBelow, slots_joined}
use Rattle.wl_replica.specs.SlotsOf.{NoHorizonFalls}
use Rattle.wl_replica.proofs.SlotsOfProofs.{slots_of-joined, slots_of-records}
use Rattle.wl_replica.proofs.SlotsProofs.{slots_laws}

module _ (laws : KnownLaws) where
  pub joined_keeps : (s u t : State) → t ≡ states_joined s u → (table : ℕ → List ℕ) → ((i : ℕ) → IsIncreasing (table i))
      → HoldsTrue s.nodes table (slots_of s) → HoldsTrue s.nodes table (slots_of u) → NoHorizonFalls s t
  joined_keeps s u t is table order p q i =
      let e : slots_of t ≡ slots_joined (slots_of s) (slots_of u) = ap slots_of is ∙ slots_of-joined s u in
      laws.horizon_keeps s.nodes table (slots_of s) (slots_of t) i (order i) p
      (subst (HoldsTrue s.nodes table) (sym e) (laws.true_joined s.nodes table (slots_of s) (slots_of u) p q))
      (subst (IsBelow (slots_of s)) (sym e) (slots_laws.above_first (slots_of s) (slots_of u)))

  pub taken_keeps : (s t : State) (rs : List Record) → t ≡ state_with_records s rs → (table : ℕ → List ℕ) → ((i : ℕ) → IsIncreasing (table i))
      → HoldsTrue s.nodes table (slots_of s) → AreTrueOf s.nodes table rs → NoHorizonFalls s t
  taken_keeps s t rs is table order p q =
      joined_keeps s (state_of s.nodes rs) t is table order p (subst (HoldsTrue s.nodes table) (sym (slots_of-records s.nodes rs)) (laws.true_records s.nodes table rs q))
