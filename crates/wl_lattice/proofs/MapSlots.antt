-- A word joined in at one key of an ordered map.
use Rattle.std.specs.Prelude.{◌≡◌, ℕ, true, false, cond, Some, unwrap_or, refl}
use Rattle.std.specs.declared.cmp.Ordering.{Ordering}
use Rattle.std.specs.Ordering.{nat_cmp, ordering_then}
use Rattle.std.specs.Cmp.{IsTotalOrder, nat_cmp_total, eq_by_cmp_equiv}
use Rattle.std.specs.FinMap.{IsAntisymmetric}
use Rattle.std.specs.BTreeMap.{BTreeMap, get, is_at}
use Rattle.std.proofs.lemmas.Cmp.{on_total, then_total}
use Rattle.std.proofs.lemmas.Map.Lookups.{exact_pairs, exact_unsigned}
use Rattle.std.proofs.Common.{sym, ap, ◌∙◌}
use Rattle.wl_lattice.specs.KeyByKey.{tied_by}
use Rattle.wl_lattice.specs.SlotContents.{IsRaised, word_in_map}

abbrev pub pair_cmp : ℕ × ℕ → ℕ × ℕ → Ordering
pair_cmp a b = ordering_then (nat_cmp a.0 b.0) (nat_cmp a.1 b.1)

pairs_total : IsTotalOrder pair_cmp
pairs_total = then_total (on_total (λ (k : ℕ × ℕ). k.0) nat_cmp_total) (on_total (λ (k : ℕ × ℕ). k.1) nat_cmp_total)

exact : IsAntisymmetric pair_cmp
exact = exact_pairs nat_cmp nat_cmp exact_unsigned exact_unsigned

module _ {W : Type 0} (least : W) (joined : W → W → W) (m n : BTreeMap (ℕ × ℕ) W) (k : ℕ × ℕ) (w v : W)
    (h : (q : ℕ × ℕ) → get pair_cmp n q ≡ cond (is_at (pair_cmp k) q) (Some v) (get pair_cmp m q)) (e : v ≡ joined (word_in_map least m k) w) where
  pub map_raised : IsRaised joined (word_in_map least m) k w (word_in_map least n)
  map_raised = record {
    here = ap (λ o. unwrap_or o least) (h k ∙ ap (λ b. cond b (Some v) (get pair_cmp m k)) ((eq_by_cmp_equiv pairs_total).refl k)) ∙ e;
    others = λ q apart. ap (λ o. unwrap_or o least) (h q ∙ elim (is_at (pair_cmp k) q) as (λ b. is_at (pair_cmp k) q ≡ b → cond b (Some v) (get pair_cmp m q) ≡ get pair_cmp m q) [
      | true ↦ λ is. absurd (apart (sym (exact k q (tied_by (pair_cmp k q) is))))
      | false ↦ λ is. refl
    ] refl);
  }
