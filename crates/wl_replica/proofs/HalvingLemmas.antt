-- The changes of a run up to a tick, and the level that they leave.
use Rattle.std.proofs.Common.{◌≡◌, ℕ, zero, suc, ◌+◌, ◌-◌, ◌/◌, ◌%◌, ◌<◌, ◌≤◌, ◌==◌, true, false, not, cond, inl, inr, refl, sym, ◌∙◌, ap, subst, arith}
use Rattle.std.proofs.lemmas.Bool.{cases_eq, lt-leb, le-leb, and_parts}
use Rattle.wl_lattice.specs.declared.FlatWord.{FlatWord}
use Rattle.wl_record_core.specs.Truth.{odd}
use Rattle.wl_record_core.proofs.Callers.{odd_is}
use Rattle.wl_record_core.specs.Limits.{most_edges}
use Rattle.wl_replica.specs.Slots.{Contents}
use Rattle.wl_replica.specs.Known.{tick_in, is_run, after_edges, ticks, ticks_from, run_length, horizon, wave_at}
use Rattle.wl_replica.proofs.SmallFacts.{run_part}
use Rattle.wl_replica.proofs.RunLemmas.{run_shorter}
use Rattle.wl_replica.proofs.WalkLemmas.{longest_passes}
use Rattle.wl_replica.proofs.WaveLemmas.{goes_above, flips, ticks_from_first, level_is}

-- the ticks of a run climb
module _ (e : ℕ → FlatWord) (s : ℕ → ℕ) where
  before_end : (m n : ℕ) → is_run e s m ≡ true → n < m → tick_in (e n) < after_edges e m
  before_end zero n run lt = absurd (omega arith)
  before_end (suc m) n run lt = elim (cases_eq n m) [
    | inl same ↦ subst (λ k. tick_in (e k) < suc (tick_in (e m))) (sym same) (omega arith)
    | inr other ↦ omega (arith, before_end m n (and_parts _ _ run).0 (omega arith), goes_above e s m (and_parts _ _ run).1)
  ]

  pub run_climbs : (length m n : ℕ) → is_run e s length ≡ true → m < length → n ≤ m → tick_in (e n) ≤ tick_in (e m)
  run_climbs length m n run lt le = elim (cases_eq n m) [
    | inl same ↦ subst (λ k. tick_in (e k) ≤ tick_in (e m)) (sym same) (omega arith)
    | inr other ↦
        (let low = before_end m n (run_shorter e s length m run (omega arith)) (omega arith) in
        let high = goes_above e s m (run_part e s length m run lt) in
        omega arith)
  ]

-- the level after so many of the ticks that are left
pub flips_are : (e : ℕ → FlatWord) (m d c t : ℕ) → c ≤ d → ((n : ℕ) → m ≤ n → n < m + c → tick_in (e n) ≤ t) → (c < d → t < tick_in (e (m + c))) → flips (ticks_from e m d) t ≡ odd c
flips_are e m zero zero t le p q = refl
flips_are e m zero (suc c) t le p q = absurd (omega arith)
flips_are e m (suc d) zero t le p q =
    let past : t < tick_in (e m) = subst (λ k. t < tick_in (e k)) (let same : m + 0 ≡ m = omega arith in same) (q (omega arith)) in
    ap (λ b. cond b (not (flips (ticks_from e (suc m) d) t)) false) (lt-leb (tick_in (e m)) t past)
flips_are e m (suc d) (suc c) t le p q =
    ap (λ b. cond b (not (flips (ticks_from e (suc m) d) t)) false) (le-leb (tick_in (e m)) t (p m (omega arith) (omega arith)))
    ∙ ap not (flips_are e (suc m) d c t (omega arith) (λ n le lt. p n (omega arith) (omega arith)) (λ lt. subst (λ k. t < tick_in (e k)) (let same : m + suc c ≡ suc m + c = omega arith in same) (q (omega arith))))

pub level_after : (e : ℕ → FlatWord) (length c t : ℕ) → c ≤ length → ((n : ℕ) → n < c → tick_in (e n) ≤ t) → ((n : ℕ) → c ≤ n → n < length → t < tick_in (e n)) → flips (ticks e length) t ≡ (c % 2 == 1)
level_after e length c t le p q =
    ap (λ ts. flips ts t) (sym (ticks_from_first e length))
    ∙ (flips_are e 0 length c t le (λ n low lt. p n (omega arith)) (λ lt. subst (λ k. t < tick_in (e k)) (let same : c ≡ 0 + c = omega arith in same) (q c (omega arith) lt)) ∙ sym (odd_is c))

-- and of the run that slots have, by the changes next to that tick
pub wave_counted : (w : Contents) (i t count : ℕ) → count ≤ run_length w i → t < horizon w i → (0 < count → tick_in (w.edge i (count - 1)) ≤ t)
    → (count < run_length w i → t < tick_in (w.edge i count)) → wave_at w i t ≡ odd count
wave_counted w i t count few early come others =
    let e = w.edge i in
    let m = run_length w i in
    let run = longest_passes e (w.silence i) most_edges in
    sym (level_is e (w.silence i) m t run early)
    ∙ (level_after e m count t few
    (λ n lt. (let up = run_climbs e (w.silence i) m (count - 1) n run (omega arith) (omega arith) in let last = come (omega arith) in omega arith))
    (λ n le lt. (let up = run_climbs e (w.silence i) m n count run lt le in let next = others (omega arith) in omega arith))
    ∙ odd_is count)

pub middle_below : (a b : ℕ) → a < b → a + (b - a) / 2 < b
middle_below a b lt = omega arith
