-- The order that a join makes.
use Rattle.std.proofs.Common.{sym, ap, ◌∙◌}
use Rattle.wl_lattice.specs.Laws.{JoinLaws, IsAtMost, IsPartialOrder, GivesLeastUpperBound, IsJoinOrder}

module _ {W : Type 0} {is_word : W → Type 0} {least : W} {joined : W → W → W} (laws : JoinLaws is_word least joined) where
  pub order : IsPartialOrder (IsAtMost joined)
  order = record {
    reflexive = laws.idempotent;
    antisymmetric = λ a b p q. sym q ∙ (laws.commutes b a ∙ p);
    transitive = λ a b c p q. ap (joined a) (sym q) ∙ (sym (laws.associates a b c) ∙ (ap (λ w. joined w c) p ∙ q));
  }

  bounds : GivesLeastUpperBound (IsAtMost joined) joined
  bounds = record {
    above_first = λ a b. sym (laws.associates a a b) ∙ ap (λ w. joined w b) (laws.idempotent a);
    above_second = λ a b. ap (joined b) (laws.commutes a b) ∙ (sym (laws.associates b b a) ∙ (ap (λ w. joined w a) (laws.idempotent b) ∙ laws.commutes b a));
    below_others = λ a b c p q. laws.associates a b c ∙ (ap (joined a) q ∙ p);
  }

  pub join_order : IsJoinOrder is_word least joined
  join_order = record { order = order; bounds = bounds; bottom = laws.neutral }
