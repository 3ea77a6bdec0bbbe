-- Where an edge lies, in ticks, after it has synchronised a node.
use Rattle.std.proofs.Common.{◌≡◌, ℕ, suc, ◌+◌, ◌-◌, ◌*◌, ◌<◌, ◌≤◌, ◌∙◌, [], ◌∷◌, ◌++◌, length, sym, ap, subst, arith}
use Rattle.std.proofs.Math.Nat.{mul-le-mul_left}
use Rattle.wl_segments.specs.Lengths.{Lengths, sample_at}
use Rattle.wl_phase.specs.Clocks.{Steady, steady_tick, instant, Finds}
use Rattle.wl_phase.specs.Ways.{ByTheBook, LiesInSyncSeg, LiesAfterSyncSeg, LiesBeforeSyncSeg, IsMoved, PhaseLaws, WayLaws, moved_to, sample_way, way_after}
use Rattle.wl_phase.proofs.Floors.{floor_low, floor_high}

-- so many quanta more take so many times their length
pub instant_more : (c : Steady) (k n : ℕ) → instant c (k + n) ≡ instant c k + n * c.num
instant_more c k n = omega arith

-- the quantum that finds an edge begins at it or after it, the one before it earlier
module _ (c : Steady) (edge : ℕ) where
  pub found_high : (k : ℕ) → 0 < c.den → edge ≤ steady_tick c k → c.den * edge ≤ instant c k
  found_high k d h =
      let low = floor_low c k in
      let m : c.den * edge ≤ c.den * steady_tick c k = mul-le-mul_left c.den h in
      omega arith

  pub found_low : (k : ℕ) → 0 < c.den → steady_tick c k < edge → instant c k < c.den * edge
  found_low k d h =
      let high = floor_high c k d in
      let m : c.den * suc (steady_tick c k) ≤ c.den * edge = mul-le-mul_left c.den h in
      omega arith

  -- an edge that quantum k finds lies in the quantum before it
  pub found_between : (k : ℕ) → 0 < c.den → 0 < k → Finds c k edge → (instant c k < c.den * edge + c.num) × (c.den * edge ≤ instant c k)
  found_between k d p f =
      let less : k - 1 < k = omega arith in
      let low = found_low (k - 1) d (f.unseen (k - 1) less) in
      let e : k - 1 + 1 ≡ k = omega arith in
      let more : instant c k ≡ instant c (k - 1) + 1 * c.num = ap (instant c) (sym e) ∙ instant_more c (k - 1) 1 in
      (omega arith, found_high k d f.seen)

-- where the sample is one place of it less than the way, the edge lies in SYNC_SEG
module _ (c : Steady) (l : Lengths) (edge found : ℕ) (d : 0 < c.den) (p : 0 < found) (f : Finds c found edge) where
  between : (instant c found < c.den * edge + c.num) × (c.den * edge ≤ instant c found)
  between = found_between c edge found d p f

  pub lies_in : (sample : ℕ) → sample + 1 ≡ found + sample_at l → LiesInSyncSeg c l edge sample
  lies_in sample e =
      let same : instant c (sample + 1) ≡ instant c (found + sample_at l) = ap (instant c) e in
      let one = instant_more c sample 1 in
      let all = instant_more c found (sample_at l) in
      let b = between in
      record { after = omega arith; within = omega arith }

  pub lies_after : (sample : ℕ) → sample + 2 ≤ found + sample_at l → LiesAfterSyncSeg c l edge sample
  lies_after sample h =
      let e : sample + 2 + (found + sample_at l - (sample + 2)) ≡ found + sample_at l = omega arith in
      let same : instant c (sample + 2 + (found + sample_at l - (sample + 2))) ≡ instant c (found + sample_at l) = ap (instant c) e in
      let two = instant_more c sample 2 in
      let rest = instant_more c (sample + 2) (found + sample_at l - (sample + 2)) in
      let all = instant_more c found (sample_at l) in
      let b = between in
      omega arith

  pub lies_before : (sample : ℕ) → found + sample_at l ≤ sample → LiesBeforeSyncSeg c l edge sample
  lies_before sample h =
      let e : found + sample_at l + (sample - (found + sample_at l)) ≡ sample = omega arith in
      let same : instant c (found + sample_at l + (sample - (found + sample_at l))) ≡ instant c sample = ap (instant c) e in
      let rest = instant_more c (found + sample_at l) (sample - (found + sample_at l)) in
      let all = instant_more c found (sample_at l) in
      let b = between in
      omega arith

  -- an edge that moves the sample
  pub is_moved : (n : ℕ) → 2 ≤ sample_at l → 1 ≤ l.sjw → IsMoved c l edge found n (moved_to (sample_at l - 1) l.sjw n - 1)
  is_moved n s j = record {
    near = λ a b. lies_in (suc found + (moved_to (sample_at l - 1) l.sjw n - 1)) (omega arith);
    late = λ a. (omega arith, lies_after (suc found + (moved_to (sample_at l - 1) l.sjw n - 1)) (omega arith));
    early = λ a. (omega arith, lies_before (suc found + (moved_to (sample_at l - 1) l.sjw n - 1)) (omega arith));
  }

pub long_enough : (l : Lengths) → ByTheBook l → 2 ≤ sample_at l
long_enough l h = let a = h.lengths.prop_low in let b = h.lengths.ps1_low in omega arith

pub phase_laws : WayLaws → PhaseLaws
phase_laws ways = record {
  hard = λ c l past x edge s h p f e. (let way : sample_way l (past ++ x ∷ []) ≡ sample_at l - 2 = ways.way l past x h ∙ ap (way_after l (sample_way l past)) e in
      let low = long_enough l h in
      lies_in c l edge (length past) s.divides p f (suc (length past) + sample_way l (past ++ x ∷ [])) (omega arith));
  moved = λ c l past x edge error s h p f e. (let way : moved_to (sample_at l - 1) l.sjw (sample_way l past) - 1 ≡ sample_way l (past ++ x ∷ []) =
      sym (ways.way l past x h ∙ ap (way_after l (sample_way l past)) e) in
      subst (IsMoved c l edge (length past) (sample_way l past)) way (is_moved c l edge (length past) s.divides p f (sample_way l past) (long_enough l h) h.lengths.sjw_low));
}
