-- The ways to a member: as long as the cable makes them, and what they make of what is known of all nodes.
use Rattle.std.proofs.Common.{◌≡◌, ℕ, zero, suc, ◌+◌, ◌<◌, ◌≤◌, inl, inr, List, length, replicate, min, refl, sym, ◌∙◌, ap, subst, arith}
use Rattle.std.specs.Prelude.{slice_set}
use Rattle.std.proofs.lemmas.Bool.{cases_eq}
use Rattle.std.proofs.lemmas.List.{get_or-set_same, get_or-set_other}
use Rattle.wl_replica.specs.Slots.{Contents}
use Rattle.wl_replica.specs.Known.{horizon, least_up_to, place_horizon}
use Rattle.wl_group.specs.Ways.{way_in}

pub nothing_in : (n k : ℕ) → way_in (replicate n 0) k ≡ 0
nothing_in zero k = refl
nothing_in (suc n) zero = refl
nothing_in (suc n) (suc k) = nothing_in n k

-- one way more
pub each_more : (delay : ℕ → ℕ) (ways : List ℕ) (i new : ℕ) → i < length ways → new ≡ delay i → ((k : ℕ) → k < i → way_in ways k ≡ delay k)
    → (k : ℕ) → k < suc i → way_in (slice_set ways i new) k ≡ delay k
each_more delay ways i new there is are k b = elim (cases_eq k i) [
  | inl same ↦ subst (λ n. way_in (slice_set ways i new) n ≡ delay n) (sym same) (get_or-set_same ways i new 0 there ∙ is)
  | inr other ↦ get_or-set_other ways i k new 0 other ∙ are k (omega arith)
]

pub short_more : (most : ℕ) (ways : List ℕ) (i new : ℕ) → i < length ways → new ≤ most → ((k : ℕ) → way_in ways k ≤ most)
    → (k : ℕ) → way_in (slice_set ways i new) k ≤ most
short_more most ways i new there short are k = elim (cases_eq k i) [
  | inl same ↦ subst (λ n. way_in (slice_set ways i new) n ≤ most) (sym same) (let e = get_or-set_same ways i new 0 there in omega (arith, e, short))
  | inr other ↦ let e = get_or-set_other ways i k new 0 other in let s = are k in omega (arith, e, s)
]

-- the same delays make the same place horizon
least_same : (f g : ℕ → ℕ) (n : ℕ) → ((i : ℕ) → i < suc n → f i ≡ g i) → least_up_to f n ≡ least_up_to g n
least_same f g zero same = same 0 (omega arith)
least_same f g (suc n) same =
    (λ d. min (least_same f g n (λ i b. same i (omega (arith, b))) d) (same (suc n) (omega arith) d))

pub place_same : (nodes : ℕ) (d e : ℕ → ℕ → ℕ) (w : Contents) (j k : ℕ) → 0 < nodes → ((i : ℕ) → i < nodes → d i j ≡ e i k)
    → place_horizon nodes d w j ≡ place_horizon nodes e w k
place_same zero d e w j k some same = absurd (omega (arith, some))
place_same (suc n) d e w j k some same = least_same (λ i. horizon w i + d i j) (λ i. horizon w i + e i k) n (λ i b. ap (λ (t : ℕ). horizon w i + t) (same i b))
