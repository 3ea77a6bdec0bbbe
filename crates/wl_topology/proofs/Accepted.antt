-- Which cables are accepted.
use Rattle.std.proofs.Common.{◌≡◌, ℕ, ◌≤◌, ◌==◌, ◌∙◌, length, find, nat_lt, Bool, true, false, cond, Option, Some, None, Ok, Err, IsOk, is_ok, refl, ap, subst, arith}
use Rattle.std.proofs.lemmas.Bool.{eqb-false, ltb-false, ne_eqb, le-ltb, cond-false}
use Rattle.std.proofs.Math.Nat.{pos_of_ne-zero}
use Rattle.wl_topology.specs.declared.TopologyFault.TheVariants.{NoNodes, TooManyNodes}
use Rattle.wl_limits.specs.declared.Limits.{Limits}
use Rattle.wl_limits.specs.declared.Limits.TheVariants.{Narrow, Wide}
use Rattle.wl_limits.specs.Limits.{node_limit}
use Rattle.wl_topology.specs.Limits.{most_places}
use Rattle.wl_topology.specs.Delays.{Cable, IsTopology, topology_within, unless_zero, unless_long, is_zero, is_long, pairs, AcceptedWhereKept}
use Rattle.wl_topology.proofs.Pairs.{topology_from, no_zeros, no_longs}

-- what is found decides
kept : (cable : Cable) (zeros longs : Option (ℕ × ℕ)) → find (is_zero cable) (pairs cable) ≡ zeros → find (is_long cable) (pairs cable) ≡ longs
    → 1 ≤ length cable.places → length cable.places ≤ most_places → IsOk (unless_zero cable zeros) → IsTopology cable
kept cable None None z l some few ok = topology_from cable some few z l
kept cable None (Some p) z l some few ok = refused (subst (λ o. IsOk (unless_long cable o)) l ok)
  where
    refused : IsOk (unless_long cable (Some p)) → IsTopology cable
    refused h = cc
kept cable (Some p) longs z l some few ok = refused ok
  where
    refused : IsOk (unless_zero cable (Some p)) → IsTopology cable
    refused h = cc

-- no limit is above the wide one
few_wide : (limits : Limits) → node_limit limits ≤ most_places
few_wide Narrow = omega arith
few_wide Wide = omega arith

-- what is accepted by these limits
abbrev Within : Limits → Cable → Type 0
Within limits cable = IsTopology cable × (length cable.places ≤ node_limit limits)

kept_few : (limits : Limits) (cable : Cable) (many : Bool) → nat_lt (node_limit limits) (length cable.places) ≡ many → 1 ≤ length cable.places
    → IsOk (cond many (Err TooManyNodes) (unless_zero cable (find (is_zero cable) (pairs cable)))) → Within limits cable
kept_few limits cable true e some ok = refused ok
  where
    refused : IsOk (cond true (Err TooManyNodes) (unless_zero cable (find (is_zero cable) (pairs cable)))) → Within limits cable
    refused h = cc
kept_few limits cable false e some ok =
    let few : length cable.places ≤ node_limit limits = ltb-false _ _ e in
    let wide = few_wide limits in
    (kept cable _ _ refl refl some (omega arith) ok, few)

kept_some : (limits : Limits) (cable : Cable) (none : Bool) → (length cable.places == 0) ≡ none
    → IsOk (cond none (Err NoNodes) (cond (nat_lt (node_limit limits) (length cable.places)) (Err TooManyNodes) (unless_zero cable (find (is_zero cable) (pairs cable)))))
    → Within limits cable
kept_some limits cable true e ok = refused ok
  where
    refused : IsOk {T = Cable} (Err NoNodes) → Within limits cable
    refused h = cc
kept_some limits cable false e ok = kept_few limits cable _ refl (pos_of_ne-zero (eqb-false (length cable.places) 0 e)) ok

-- and what is kept finds nothing
pub topology_within-kept : (limits : Limits) (cable : Cable) → IsTopology cable → length cable.places ≤ node_limit limits
    → topology_within limits cable.places cable.per ≡ Ok cable
topology_within-kept limits cable h few =
    cond-false _ _ _ (ne_eqb (length cable.places) 0 (λ e. omega (arith, h.some_node)))
    ∙ cond-false _ _ _ (le-ltb (node_limit limits) (length cable.places) few)
    ∙ ap (unless_zero cable) (no_zeros cable h)
    ∙ ap (unless_long cable) (no_longs cable h)

pub accepted : AcceptedWhereKept
accepted limits places per = (
  (λ ok. kept_some limits (record { places = places; per = per }) _ refl ok),
  (λ h. ap is_ok (topology_within-kept limits (record { places = places; per = per }) h.0 h.1)),
)
