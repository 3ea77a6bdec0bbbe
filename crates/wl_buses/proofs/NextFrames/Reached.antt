-- Which starts of frame have reached a station, if each begins when it is due.
use Rattle.std.proofs.Common.{◌≡◌, ◌≢◌, ℕ, ◌+◌, ◌<◌, ◌≤◌, ◌&&◌, not, Bool, true, false, inl, inr, ap, arith}
use Rattle.std.specs.Prelude.{◌==◌, nat_le}
use Rattle.std.proofs.lemmas.Bool.{and_from, and_parts, cases_lt, le-leb, leb-true, ne_eqb}
use Rattle.wl_topology.proofs.Callers.{any_from, any_one}
use Rattle.wl_phase.specs.Clocks.{steady_tick}
use Rattle.wl_buses.specs.OneFrame.Stations.{Stations}
use Rattle.wl_buses.specs.OneFrame.Expected.{is_reached}
use Rattle.wl_buses.proofs.BothProofs.Small.{distinct}

module _ (s : Stations) (has : ℕ → Bool) (due : ℕ → ℕ) (i q : ℕ) where
  pub record Reaches : Type 0 where
    pub by : ℕ
    pub has_one : has by ≡ true
    pub other : by ≢ i
    pub reach : steady_tick (s.clocks by) (due by) + s.delay by i ≤ steady_tick (s.clocks i) q

  pub reached_by : is_reached s has due i q ≡ true → Reaches
  reached_by e =
      let x = any_one s.count (λ k. has k && (not (k == i) && nat_le (steady_tick (s.clocks k) (due k) + s.delay k i) (steady_tick (s.clocks i) q))) e in
      let p = and_parts (has x.0) (not (x.0 == i) && nat_le (steady_tick (s.clocks x.0) (due x.0) + s.delay x.0 i) (steady_tick (s.clocks i) q)) x.2 in
      let r = and_parts (not (x.0 == i)) (nat_le (steady_tick (s.clocks x.0) (due x.0) + s.delay x.0 i) (steady_tick (s.clocks i) q)) p.1 in
      record { by = x.0; has_one = p.0; other = distinct x.0 i r.0; reach = leb-true (steady_tick (s.clocks x.0) (due x.0) + s.delay x.0 i) (steady_tick (s.clocks i) q) r.1 }

  pub reached_from : (k : ℕ) → k < s.count → has k ≡ true → k ≢ i → steady_tick (s.clocks k) (due k) + s.delay k i ≤ steady_tick (s.clocks i) q → is_reached s has due i q ≡ true
  reached_from k there has_one other h =
      any_from s.count k (λ k. has k && (not (k == i) && nat_le (steady_tick (s.clocks k) (due k) + s.delay k i) (steady_tick (s.clocks i) q))) there
      (and_from (has k) (not (k == i) && nat_le (steady_tick (s.clocks k) (due k) + s.delay k i) (steady_tick (s.clocks i) q)) has_one
      (and_from (not (k == i)) (nat_le (steady_tick (s.clocks k) (due k) + s.delay k i) (steady_tick (s.clocks i) q)) (ap not (ne_eqb k i other))
      (le-leb (steady_tick (s.clocks k) (due k) + s.delay k i) (steady_tick (s.clocks i) q) h)))

  pub unreached : (k : ℕ) → k < s.count → is_reached s has due i q ≡ false → has k ≡ true → k ≢ i → steady_tick (s.clocks i) q < steady_tick (s.clocks k) (due k) + s.delay k i
  unreached k there e has_one other = elim (cases_lt (steady_tick (s.clocks i) q) (steady_tick (s.clocks k) (due k) + s.delay k i)) [
    | inl less ↦ less
    | inr more ↦ (let f = reached_from k there has_one other more in cc)
  ]
