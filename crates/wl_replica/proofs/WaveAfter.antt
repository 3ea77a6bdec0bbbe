-- The intervals of a wave that end after a tick.
use Rattle.std.proofs.Common.{◌≡◌, ℕ, zero, suc, ◌+◌, ◌-◌, ◌%◌, ◌<◌, ◌≤◌, None, Bool, true, false, ◌&&◌, ◌||◌, cond, List, [], ◌∷◌, refl, sym, ◌∙◌, ap, subst, arith, nat_lt, nat_le}
use Rattle.std.specs.Prelude.{filter}
use Rattle.std.proofs.lemmas.Bool.{lt-ltb, le-ltb}
use Rattle.std.proofs.lemmas.Bool.Decides.{nat_tests}
use Rattle.wl_intervals.specs.Pairs.{covers}
use Rattle.wl_lattice.specs.declared.FlatWord.{FlatWord}
use Rattle.wl_replica.specs.declared.known_run.KnownRun.{KnownRun}
use Rattle.wl_replica.specs.Known.{tick_in, after_edges, ticks, ticks_from, intervals}
use Rattle.wl_replica.specs.Runs.{IsRunOf}
use Rattle.wl_replica.proofs.WaveLemmas.{Climbs, IsMade, climbs_from, none_made, ticks_from_first}

-- ---- the whole of it
climbs_lower : (low h : ℕ) (ts : List ℕ) → Climbs low ts h → Climbs 0 ts h
climbs_lower low h [] c = omega arith
climbs_lower low h (t ∷ ts) c = (omega arith, c.1)

run_end : (e : ℕ → FlatWord) (s : ℕ → ℕ) (k : KnownRun) → IsRunOf e s k → after_edges e k.run.length ≤ k.horizon
run_end e s k h = omega (arith, h.end, h.horizon)

climbs_on : (e : ℕ → FlatWord) (s : ℕ → ℕ) (k : KnownRun) → IsRunOf e s k → (first : ℕ) → first ≤ k.run.length → Climbs 0 (ticks_from e first (k.run.length - first)) k.horizon
climbs_on e s k h first le =
    climbs_lower (after_edges e first) k.horizon (ticks_from e first (k.run.length - first)) (climbs_from e s first (k.run.length - first) k.run.length k.horizon (omega arith) h.run (run_end e s k h))

pub made_on : (e : ℕ → FlatWord) (s : ℕ → ℕ) (k : KnownRun) → IsRunOf e s k → (first : ℕ) → first ≤ k.run.length → (set : List (ℕ × ℕ)) → set ≡ []
    → (let ts = ticks_from e first (k.run.length - first) in IsMade ts k.horizon set None ts)
made_on e s k h first le set is =
    let ts = ticks_from e first (k.run.length - first) in
    subst (λ ps. IsMade ts k.horizon ps None ts) (sym is) (none_made ts k.horizon (climbs_on e s k h first le))

pub all_from_first : (e : ℕ → FlatWord) (n h : ℕ) → intervals (ticks_from e 0 (n - 0)) h ≡ intervals (ticks e n) h
all_from_first e n h = ap (λ d. intervals (ticks_from e 0 d) h) (let same : n - 0 ≡ n = omega arith in same) ∙ ap (λ ts. intervals ts h) (ticks_from_first e n)

-- ---- of those that end after tick t
module _ (t h : ℕ) where
  abbrev kept : List (ℕ × ℕ) → List (ℕ × ℕ)
  kept ps = filter (λ p. nat_lt t p.1) ps

  -- where the horizon is not after it, there is none
  low_end : (low : ℕ) (ts : List ℕ) → Climbs low ts h → low ≤ h
  low_end low [] c = c
  low_end low (a ∷ ts) c = (let rest = low_end (suc a) ts c.1 in omega (arith, c.0, rest))

  none_kept : (low : ℕ) (ts : List ℕ) → Climbs low ts h → h ≤ t → kept (intervals ts h) ≡ []
  none_kept low [] c le = refl
  none_kept low (a ∷ []) c le = ap (λ b. cond b ((a, h) ∷ []) []) (le-ltb t h le)
  none_kept low (a ∷ b ∷ ts) c le =
      let end = low_end (suc b) ts c.1.1 in
      ap (λ x. cond x ((a, b) ∷ kept (intervals ts h)) (kept (intervals ts h))) (le-ltb t b (omega arith)) ∙ none_kept (suc b) ts c.1.1 le

  -- the second tick, if there is one, is after it
  abbrev EndsLater : List ℕ → Type 0
  EndsLater [] = Unit {0}
  EndsLater (a ∷ []) = Unit {0}
  EndsLater (a ∷ b ∷ ts) = t < b

  all_later : (low : ℕ) (ts : List ℕ) → Climbs low ts h → t < low → EndsLater ts
  all_later low [] c lt = tt
  all_later low (a ∷ []) c lt = tt
  all_later low (a ∷ b ∷ ts) c lt = omega (arith, c.0, c.1.0)

  all_kept : (low : ℕ) (ts : List ℕ) → Climbs low ts h → t < h → EndsLater ts → kept (intervals ts h) ≡ intervals ts h
  all_kept low [] c lt later = refl
  all_kept low (a ∷ []) c lt later = ap (λ b. cond b ((a, h) ∷ []) []) (lt-ltb t h lt)
  all_kept low (a ∷ b ∷ ts) c lt later =
      ap (λ x. cond x ((a, b) ∷ kept (intervals ts h)) (kept (intervals ts h))) (lt-ltb t b later)
      ∙ ap (λ ps. (a, b) ∷ ps) (all_kept (suc b) ts c.1.1 lt (all_later (suc b) ts c.1.1 (omega arith)))

  module _ (e : ℕ → FlatWord) where
    later_from : (low m d c : ℕ) → Climbs low (ticks_from e m d) h → c ≤ 1 → (c < d → t < tick_in (e (m + c))) → EndsLater (ticks_from e m d)
    later_from low m zero c climb le q = tt
    later_from low m (suc zero) c climb le q = tt
    later_from low m (suc (suc d)) zero climb le q =
        let first : t < tick_in (e m) = subst (λ k. t < tick_in (e k)) (let same : m + 0 ≡ m = omega arith in same) (q (omega arith)) in
        omega (arith, climb.1.0)
    later_from low m (suc (suc d)) (suc zero) climb le q = subst (λ k. t < tick_in (e k)) (let same : m + 1 ≡ suc m = omega arith in same) (q (omega arith))
    later_from low m (suc (suc d)) (suc (suc c)) climb le q = absurd (omega arith)

    -- the pairs of changes up to it fall away
    pub pairs_left : (low m d c : ℕ) → Climbs low (ticks_from e m d) h → t < h → c ≤ d → ((n : ℕ) → m ≤ n → n < m + c → tick_in (e n) ≤ t) → (c < d → t < tick_in (e (m + c)))
        → kept (intervals (ticks_from e m d) h) ≡ intervals (ticks_from e (m + (c - c % 2)) (d - (c - c % 2))) h
    pairs_left low m d zero climb lt le p q =
        all_kept low (ticks_from e m d) climb lt (later_from low m d zero climb (omega arith) q)
        ∙ λ i. intervals (ticks_from e ((let same : m ≡ m + (0 - 0 % 2) = omega arith in same) i) ((let same : d ≡ d - (0 - 0 % 2) = omega arith in same) i)) h
    pairs_left low m d (suc zero) climb lt le p q =
        all_kept low (ticks_from e m d) climb lt (later_from low m d 1 climb (omega arith) q)
        ∙ λ i. intervals (ticks_from e ((let same : m ≡ m + (1 - 1 % 2) = omega arith in same) i) ((let same : d ≡ d - (1 - 1 % 2) = omega arith in same) i)) h
    pairs_left low m zero (suc (suc c)) climb lt le p q = absurd (omega arith)
    pairs_left low m (suc zero) (suc (suc c)) climb lt le p q = absurd (omega arith)
    pairs_left low m (suc (suc d)) (suc (suc c)) climb lt le p q =
        let b = tick_in (e (suc m)) in
        let rest = kept (intervals (ticks_from e (suc (suc m)) d) h) in
        let there : suc (suc m) + (c - c % 2) ≡ m + (suc (suc c) - suc (suc c) % 2) = omega arith in
        let left : d - (c - c % 2) ≡ suc (suc d) - (suc (suc c) - suc (suc c) % 2) = omega arith in
        ap (λ x. cond x ((tick_in (e m), b) ∷ rest) rest) (le-ltb t b (p (suc m) (omega arith) (omega arith)))
        ∙ (pairs_left (suc b) (suc (suc m)) d c climb.1.1 lt (omega arith) (λ n low below. p n (omega arith) (omega arith))
        (λ below. subst (λ k. t < tick_in (e k)) (let same : m + suc (suc c) ≡ suc (suc m) + c = omega arith in same) (q (omega arith)))
        ∙ λ i. intervals (ticks_from e (there i) (left i)) h)

pub none_after : (e : ℕ → FlatWord) (s : ℕ → ℕ) (k : KnownRun) → IsRunOf e s k → (t : ℕ) → k.horizon ≤ t → filter (λ p. nat_lt t p.1) (intervals (ticks e k.run.length) k.horizon) ≡ []
none_after e s k h t le =
    ap (λ ps. filter (λ p. nat_lt t p.1) ps) (sym (all_from_first e k.run.length k.horizon))
    ∙ none_kept t k.horizon 0 (ticks_from e 0 (k.run.length - 0)) (climbs_on e s k h 0 (omega arith)) le

pub those_after : (e : ℕ → FlatWord) (s : ℕ → ℕ) (k : KnownRun) → IsRunOf e s k → (t c : ℕ) → t < k.horizon → c ≤ k.run.length → ((n : ℕ) → n < c → tick_in (e n) ≤ t)
    → ((n : ℕ) → c ≤ n → n < k.run.length → t < tick_in (e n))
    → intervals (ticks_from e (c - c % 2) (k.run.length - (c - c % 2))) k.horizon ≡ filter (λ p. nat_lt t p.1) (intervals (ticks e k.run.length) k.horizon)
those_after e s k h t c lt le p q =
    let n = k.run.length in
    let all : n - 0 ≡ n = omega arith in
    sym (ap (λ ps. filter (λ p. nat_lt t p.1) ps) (sym (all_from_first e n k.horizon) ∙ ap (λ d. intervals (ticks_from e 0 d) k.horizon) all)
    ∙ (pairs_left t k.horizon e 0 0 n c (subst (λ d. Climbs 0 (ticks_from e 0 d) k.horizon) all (climbs_on e s k h 0 (omega arith))) lt le (λ m low below. p m (omega arith))
    (λ below. subst (λ m. t < tick_in (e m)) (let same : c ≡ 0 + c = omega arith in same) (q c (omega arith) below))
    ∙ ap (λ m. intervals (ticks_from e m (n - (c - c % 2))) k.horizon) (let same : 0 + (c - c % 2) ≡ c - c % 2 = omega arith in same)))

-- from the tick on they tell the same
pub covers_after : (t u : ℕ) (ps : List (ℕ × ℕ)) → t ≤ u → covers (filter (λ p. nat_lt t p.1) ps) u ≡ covers ps u
covers_after t u [] le = refl
covers_after t u (p ∷ ps) le = at (covers_after t u ps le) (nat_lt t p.1) refl where
  over : (t u a b : ℕ) → nat_lt t b ≡ false → t ≤ u → (nat_le a u && nat_lt u b) ≡ false
  over t u a b h le = grind (arith, nat_tests)

  at : covers (filter (λ p. nat_lt t p.1) ps) u ≡ covers ps u → (b : Bool) → nat_lt t p.1 ≡ b → covers (cond b (p ∷ filter (λ p. nat_lt t p.1) ps) (filter (λ p. nat_lt t p.1) ps)) u ≡ covers (p ∷ ps) u
  at rest true is = ap (λ b. (nat_le p.0 u && nat_lt u p.1) || b) rest
  at rest false is = rest ∙ ap (λ b. b || covers ps u) (sym (over t u p.0 p.1 is le))
