-- What nodes make of the line rests on what they drove a delay earlier, and on nothing else.
use Rattle.std.proofs.Common.{◌≡◌, ℕ, ◌-◌, ◌<◌, ◌≤◌, Bool, true, ◌&&◌, ◌⊎◌, inl, inr, ap, nat_le}
use Rattle.std.proofs.lemmas.Bool.{cases_lt, lt-leb, le-leb, leb-true, and_parts, and_from}
use Rattle.wl_topology.specs.Driven.{driven}
use Rattle.wl_topology.proofs.Callers.{any_from, any_one, any_same}

-- two histories that agree a delay earlier give one level
pub driven_same : (nodes : ℕ) (delay : ℕ → ℕ → ℕ) (f g : ℕ → ℕ → Bool) (j t : ℕ)
    → ((i : ℕ) → i < nodes → delay i j ≤ t → f i (t - delay i j) ≡ g i (t - delay i j))
    → driven nodes delay f j t ≡ driven nodes delay g j t
driven_same nodes delay f g j t h = any_same nodes _ _ (λ i b. each i b (cases_lt t (delay i j)))
  where
    each : (i : ℕ) → i < nodes → (t < delay i j) ⊎ (delay i j ≤ t)
        → (nat_le (delay i j) t && f i (t - delay i j)) ≡ (nat_le (delay i j) t && g i (t - delay i j))
    each i b (inl early) = rw (lt-leb (delay i j) t early)
    each i b (inr late) = ap (λ v. nat_le (delay i j) t && v) (h i b late)

-- dominant where some node drove dominant a delay earlier
pub driven_from : (nodes : ℕ) (delay : ℕ → ℕ → ℕ) (f : ℕ → ℕ → Bool) (i j t : ℕ) → i < nodes → delay i j ≤ t → f i (t - delay i j) ≡ true → driven nodes delay f j t ≡ true
driven_from nodes delay f i j t b late h = any_from nodes i _ b (and_from _ _ (le-leb _ _ late) h)

-- and there only
pub driven_by : (nodes : ℕ) (delay : ℕ → ℕ → ℕ) (f : ℕ → ℕ → Bool) (j t : ℕ) → driven nodes delay f j t ≡ true
    → (i : ℕ) × (i < nodes) × (delay i j ≤ t) × (f i (t - delay i j) ≡ true)
driven_by nodes delay f j t h =
    let w : (i : ℕ) × (i < nodes) × ((nat_le (delay i j) t && f i (t - delay i j)) ≡ true) = any_one nodes _ h in
    let parts : (nat_le (delay w.0 j) t ≡ true) × (f w.0 (t - delay w.0 j) ≡ true) = and_parts _ _ w.2 in
    (w.0, w.1, leb-true _ _ parts.0, parts.1)
