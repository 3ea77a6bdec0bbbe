-- A run that is kept: what it tells, and what stands of it after a word came in.
use Rattle.std.specs.Prelude.{if◌then◌else◌}
use Rattle.std.proofs.Common.{◌≡◌, ◌⊎◌, ℕ, zero, suc, ◌+◌, ◌<◌, ◌≤◌, max, Bool, true, false, cond, ◌==◌, ◌&&◌, inl, inr, List, length, slice_index_or, slice_set, refl, sym, ◌∙◌, ap, subst, arith, nat_lt, nat_le}
use Rattle.std.proofs.lemmas.Bool.{cases_eq, eq-eqb, ne_eqb, and_parts, and_from, false≢true, leb-true, le-leb}
use Rattle.std.proofs.lemmas.List.{get_or-set_same, get_or-set_other}
use Rattle.wl_intervals.specs.Pairs.{covers}
use Rattle.wl_lattice.specs.declared.FlatWord.{FlatWord}
use Rattle.wl_lattice.specs.declared.FlatWord.TheVariants as flat
use Rattle.wl_lattice.specs.Words.{joined_flat}
use Rattle.wl_lattice.specs.SlotContents.{IsRaised}
use Rattle.wl_record_core.specs.declared.record.Record.{Record}
use Rattle.wl_record_core.specs.declared.record.Record.TheVariants.{Edge, Clash, Silence}
use Rattle.wl_record_core.specs.Slots.{node_of}
use Rattle.wl_record_core.specs.Limits.{most_edges, tick_end}
use Rattle.wl_record_core.specs.Within.{IsWide}
use Rattle.wl_replica.specs.declared.known_run.KnownRun.{KnownRun}
use Rattle.wl_replica.specs.Dense.{edges_of_row, HasTicksWithin}
use Rattle.wl_replica.specs.Slots.{Contents, slots_joined, slots_only}
use Rattle.wl_replica.specs.Known.{is_tick, tick_in, run_goes_on, is_run, greatest_passing, after_edges, longest_promise, known_by, ticks, intervals}
use Rattle.wl_replica.specs.declared.known_run.Run.{Run}
use Rattle.wl_replica.specs.Runs.{IsRunOf, WasRunBeforeEdge, WasRunBeforeSilence, WasRunBefore, AreInLimits, AreRuns}
use Rattle.wl_replica.proofs.SmallFacts.{run_part}
use Rattle.wl_replica.proofs.WalkLemmas.{longest_run, no_value, no_more}
use Rattle.wl_replica.proofs.WaveLemmas.{goes_above, run_ticks, flips, level_is}

promised_least : (s : ℕ → ℕ) (m top : ℕ) → ((n : ℕ) → n ≤ m → s n ≤ top) → longest_promise s m ≤ top
promised_least s zero top h = h 0 (omega arith)
promised_least s (suc m) top h = omega (arith, promised_least s m top (λ n le. h n (omega arith)), h (suc m) (omega arith))

module _ (e : ℕ → FlatWord) (s : ℕ → ℕ) where
  goes_outside : (n : ℕ) → run_goes_on e s n ≡ true → s n ≤ tick_in (e n)
  goes_outside zero h = leb-true (s 0) (tick_in (e 0)) (and_parts _ _ h).1
  goes_outside (suc n) h = leb-true (s (suc n)) (tick_in (e (suc n))) (and_parts _ _ (and_parts _ _ h).0).1

  -- the silences after fewer changes end below the last of a run
  below_end : (m n : ℕ) → is_run e s m ≡ true → n < m → s n < after_edges e m
  below_end zero n run lt = absurd (omega arith)
  below_end (suc m) n run lt =
      let last = run_part e s (suc m) m run (omega arith) in
      elim (cases_eq n m) [
        | inl same ↦ subst (λ k. s k < suc (tick_in (e m))) (sym same) (omega (arith, goes_outside m last))
        | inr other ↦ omega (arith, below_end m n (and_parts _ _ run).0 (omega arith), goes_above e s m last)
      ]

  pub known_end : (m : ℕ) → is_run e s m ≡ true → max (after_edges e m) (s m) ≡ known_by e s m
  known_end zero run = refl
  known_end (suc m) run =
      let before : longest_promise s m ≤ after_edges e (suc m) = promised_least s m (after_edges e (suc m)) (λ n le. (let b = below_end (suc m) n run (omega arith) in omega arith)) in
      omega arith

  -- a shorter run
  pub run_shorter : (m n : ℕ) → is_run e s m ≡ true → n ≤ m → is_run e s n ≡ true
  run_shorter zero n run le = subst (λ k. is_run e s k ≡ true) (let same : 0 ≡ n = omega arith in same) refl
  run_shorter (suc m) n run le = elim (cases_eq n (suc m)) [
    | inl same ↦ subst (λ k. is_run e s k ≡ true) (sym same) run
    | inr other ↦ run_shorter m n (and_parts _ _ run).0 (omega arith)
  ]

  run_all : (m : ℕ) → ((n : ℕ) → n < m → run_goes_on e s n ≡ true) → is_run e s m ≡ true
  run_all zero h = refl
  run_all (suc m) h = and_from _ _ (run_all m (λ n lt. h n (omega arith))) (h m (omega arith))

  pub one_longer : (m : ℕ) → is_run e s m ≡ true → run_goes_on e s m ≡ true → is_run e s (m + 1) ≡ true
  one_longer m run goes = subst (λ k. is_run e s k ≡ true) (let next : suc m ≡ m + 1 = omega arith in next) (and_from _ _ run goes)

  pub run_length_is : (k : KnownRun) → IsRunOf e s k → k.run.length ≡ greatest_passing most_edges (is_run e s)
  run_length_is k h = longest_run e s most_edges k.run.length h.few h.run h.stops

  pub horizon_is : (k : KnownRun) → IsRunOf e s k → k.horizon ≡ known_by e s k.run.length
  horizon_is k h = h.horizon ∙ (ap (λ n. max n (s k.run.length)) h.end ∙ known_end k.run.length h.run)

-- ---- other words
module _ (e f : ℕ → FlatWord) (s t : ℕ → ℕ) where
  goes_same : (n : ℕ) → ((k : ℕ) → k ≤ n → f k ≡ e k) → t n ≡ s n → run_goes_on f t n ≡ run_goes_on e s n
  goes_same zero p q = λ i. is_tick (p 0 (omega arith) i) && nat_le (q i) (tick_in (p 0 (omega arith) i))
  goes_same (suc n) p q =
      let here = p (suc n) (omega arith) in
      let last = p n (omega arith) in
      λ i. is_tick (here i) && nat_le (q i) (tick_in (here i)) && nat_lt (tick_in (last i)) (tick_in (here i))

  pub run_same : (m : ℕ) → ((k : ℕ) → k < m → f k ≡ e k) → ((k : ℕ) → k < m → t k ≡ s k) → is_run e s m ≡ true → is_run f t m ≡ true
  run_same zero p q run = refl
  run_same (suc m) p q run =
      let both = and_parts _ _ run in
      and_from _ _ (run_same m (λ k lt. p k (omega arith)) (λ k lt. q k (omega arith)) both.0)
      (goes_same m (λ k le. p k (omega arith)) (q m (omega arith)) ∙ both.1)

  pub end_same : (m : ℕ) → ((k : ℕ) → k < m → f k ≡ e k) → after_edges f m ≡ after_edges e m
  end_same zero p = refl
  end_same (suc m) p = λ i. suc (tick_in (p m (omega arith) i))

-- ---- silences that reach further
module _ (e : ℕ → FlatWord) (s t : ℕ → ℕ) where
  goes_under : (n : ℕ) → run_goes_on e s n ≡ true → t n ≤ tick_in (e n) → run_goes_on e t n ≡ true
  goes_under zero h le = and_from _ _ (and_parts _ _ h).0 (le-leb (t 0) (tick_in (e 0)) le)
  goes_under (suc n) h le =
      let parts = and_parts _ _ h in
      and_from _ _ (and_from _ _ (and_parts _ _ parts.0).0 (le-leb (t (suc n)) (tick_in (e (suc n))) le)) parts.1

  pub stays_stopped : (n : ℕ) → run_goes_on e s n ≡ false → s n ≤ t n → run_goes_on e t n ≡ false
  stays_stopped n h le = elim (run_goes_on e t n) as (λ b. run_goes_on e t n ≡ b → b ≡ false) [
    | true ↦ λ goes. (let out = goes_outside e t n goes in absurd (false≢true (sym h ∙ back n goes (omega arith))))
    | false ↦ λ goes. refl
  ] refl
    where
      back : (n : ℕ) → run_goes_on e t n ≡ true → s n ≤ tick_in (e n) → run_goes_on e s n ≡ true
      back zero g le = and_from _ _ (and_parts _ _ g).0 (le-leb (s 0) (tick_in (e 0)) le)
      back (suc n) g le =
          let parts = and_parts _ _ g in
          and_from _ _ (and_from _ _ (and_parts _ _ parts.0).0 (le-leb (s (suc n)) (tick_in (e (suc n))) le)) parts.1

-- a tick to which a word came is the same tick, or no tick is left
same_value : (a w : FlatWord) (t : ℕ) → is_tick a ≡ true → joined_flat a w ≡ flat.Value t → joined_flat a w ≡ a
same_value flat.Nothing w t is e = absurd (false≢true is)
same_value flat.Clash w t is e = absurd (false≢true is)
same_value (flat.Value x) flat.Nothing t is e = refl
same_value (flat.Value x) flat.Clash t is e = absurd (false≢true (ap is_tick e))
same_value (flat.Value x) (flat.Value y) t is e = at (x == y) e where
  at : (b : Bool) → cond b (flat.Value x) flat.Clash ≡ flat.Value t → cond b (flat.Value x) flat.Clash ≡ flat.Value x
  at true e = refl
  at false e = absurd (false≢true (ap is_tick e))

-- ---- what is kept after a word came in
module _ (e : ℕ → FlatWord) (s : ℕ → ℕ) where
  pub past_all : (row : List ℕ) (m : ℕ) → HasTicksWithin row → e ≡ edges_of_row row → most_edges ≤ m → run_goes_on e s m ≡ false
  past_all row m within is le = no_more e s m (ap (λ (f : ℕ → FlatWord). is_tick (f m)) is ∙ no_value (edges_of_row row m) (λ t has. (let w = within m t has in omega (arith, w.0))))

  -- what is made of a run of n changes
  pub made_of : (n : ℕ) → n ≤ most_edges → is_run e s n ≡ true → run_goes_on e s n ≡ false
      → (r : KnownRun) (run : Run) → r.run ≡ run → run.length ≡ n → run.end ≡ after_edges e n → r.horizon ≡ max run.end (s run.length) → IsRunOf e s r
  made_of n few goes stops r run is length end horizon =
      let same : r.run.length ≡ n = ap (λ (x : Run). x.length) is ∙ length in
      record {
        few = omega (arith, same, few);
        run = subst (λ m. is_run e s m ≡ true) (sym same) goes;
        stops = ap (run_goes_on e s) same ∙ stops;
        end = ap (λ (x : Run). x.end) is ∙ (end ∙ ap (after_edges e) (sym same));
        horizon = horizon ∙ (λ i. max ((sym is i).end) (s ((sym is i).length)));
      }

  module _ (n : ℕ) (k : KnownRun) (was : WasRunBeforeEdge e s n k) where
    other_edges : (m : ℕ) → ¬ (m ≡ n) → e m ≡ was.0 m
    other_edges m other = was.3.others m other

    pub edge_beyond : k.run.length ≤ n → is_run e s k.run.length ≡ true
    edge_beyond le = run_same was.0 e s s k.run.length (λ m lt. other_edges m (omega arith)) (λ m lt. refl) was.2.run

    pub end_beyond : k.run.length ≤ n → k.run.end ≡ after_edges e k.run.length
    end_beyond le = was.2.end ∙ sym (end_same was.0 e s s k.run.length (λ m lt. other_edges m (omega arith)))

    pub edge_stays : n < k.run.length → (t : ℕ) → e n ≡ flat.Value t → IsRunOf e s k
    edge_stays lt t is = subst (λ (f : ℕ → FlatWord). IsRunOf f s k) same was.2 where
      at : (m : ℕ) → was.0 m ≡ e m
      at m = elim (cases_eq m n) [
        | inl here ↦ (let held = same_value (was.0 n) was.1 t (run_ticks was.0 s k.run.length was.2.run n lt) (sym was.3.here ∙ is) in
            ap was.0 here ∙ (sym held ∙ (sym was.3.here ∙ ap e (sym here))))
        | inr other ↦ sym (other_edges m other)
      ]

      same : was.0 ≡ e
      same = λ i m. at m i

    pub edge_cut : n < k.run.length → is_run e s n ≡ true
    edge_cut lt = run_same was.0 e s s n (λ m below. other_edges m (omega arith)) (λ m below. refl) (run_shorter was.0 s k.run.length n was.2.run (omega arith))

    pub edge_cut_few : n < k.run.length → n ≤ most_edges
    edge_cut_few lt = omega (arith, was.2.few)

  module _ (n until : ℕ) (k : KnownRun) (was : WasRunBeforeSilence e s n until k) where
    other_silences : (m : ℕ) → ¬ (m ≡ n) → s m ≡ was.0 m
    other_silences m other = was.2.others m other

    further : (m : ℕ) → was.0 m ≤ s m
    further m = elim (cases_eq m n) [
      | inl here ↦ subst (λ j. was.0 j ≤ s j) (sym here) (omega (arith, was.2.here))
      | inr other ↦ omega (arith, other_silences m other)
    ]

    pub silence_reaches : until ≤ s n
    silence_reaches = omega (arith, was.2.here)

    same_run : k.run.length ≤ n → is_run e s k.run.length ≡ true
    same_run le = run_same e e was.0 s k.run.length (λ m lt. refl) (λ m lt. other_silences m (omega arith)) was.1.run

    pub silence_past : k.run.length < n → IsRunOf e s k
    silence_past lt =
        made_of k.run.length was.1.few (same_run (omega arith)) (stays_stopped e was.0 s k.run.length was.1.stops (further k.run.length)) k k.run refl refl was.1.end
        (was.1.horizon ∙ ap (max k.run.end) (sym (other_silences k.run.length (omega arith))))

    pub silence_next : n ≡ k.run.length → (r : KnownRun) → r.run ≡ k.run → r.horizon ≡ max k.horizon until → IsRunOf e s r
    silence_next same r is horizon =
        let here : s k.run.length ≡ max (was.0 k.run.length) until = subst (λ j. s j ≡ max (was.0 j) until) same was.2.here in
        made_of k.run.length was.1.few (same_run (omega arith)) (stays_stopped e was.0 s k.run.length was.1.stops (further k.run.length)) r k.run is refl was.1.end
        (omega (arith, horizon, was.1.horizon, here))

    pub silence_under : n < k.run.length → (t : ℕ) → e n ≡ flat.Value t → until ≤ t → IsRunOf e s k
    silence_under lt t is le =
        let last = other_silences k.run.length (omega arith) in
        record {
          few = was.1.few;
          run = run_all e s k.run.length (λ m below. goes_under e was.0 s m (run_part e was.0 k.run.length m was.1.run below) (under m below));
          stops = stays_stopped e was.0 s k.run.length was.1.stops (further k.run.length);
          end = was.1.end;
          horizon = was.1.horizon ∙ ap (max k.run.end) (sym last);
        }
      where
        under : (m : ℕ) → m < k.run.length → s m ≤ tick_in (e m)
        under m below =
            let out = goes_outside e was.0 m (run_part e was.0 k.run.length m was.1.run below) in
            elim (cases_eq m n) [
              | inl here ↦
                  (let tick : tick_in (e m) ≡ t = ap (λ j. tick_in (e j)) here ∙ ap tick_in is in
                  let end : s m ≡ max (was.0 m) until = subst (λ j. s j ≡ max (was.0 j) until) (sym here) was.2.here in
                  omega (arith, tick, end, out))
              | inr other ↦ omega (arith, other_silences m other, out)
            ]

    pub silence_cut : n < k.run.length → is_run e s n ≡ true
    silence_cut lt = run_same e e was.0 s n (λ m below. refl) (λ m below. other_silences m (omega arith)) (run_shorter e was.0 k.run.length n was.1.run (omega arith))

    pub silence_cut_few : n < k.run.length → n ≤ most_edges
    silence_cut_few lt = omega (arith, was.1.few)

-- ---- the runs of all nodes
pub one_run_set : (P : ℕ → KnownRun → Type 0) (xs : List KnownRun) (n : ℕ) (r : KnownRun) → n < length xs → P n r
    → (i : ℕ) (d : KnownRun) → (¬ (i ≡ n) → P i (slice_index_or xs i d)) → P i (slice_index_or (slice_set xs n r) i d)
one_run_set P xs n r lt here i d others = elim (cases_eq i n) [
  | inl same ↦ subst (λ k. P k (slice_index_or (slice_set xs n r) k d)) (sym same) (subst (P n) (sym (get_or-set_same xs n r d lt)) here)
  | inr other ↦ subst (P i) (sym (get_or-set_other xs n i r d other)) (others other)
]

-- ---- a record of a node, slot by slot
here_edge : (i n : ℕ) (w : FlatWord) → (if i == i && (n == n) then w else flat.Nothing) ≡ w
here_edge i n w = λ j. if eq-eqb i i refl j && eq-eqb n n refl j then w else flat.Nothing

other_number : (i n m : ℕ) (w : FlatWord) → ¬ (m ≡ n) → (if i == i && (m == n) then w else flat.Nothing) ≡ flat.Nothing
other_number i n m w apart = λ j. if eq-eqb i i refl j && ne_eqb m n apart j then w else flat.Nothing

other_edge_node : (k i n m : ℕ) (w : FlatWord) → ¬ (k ≡ i) → (if k == i && (m == n) then w else flat.Nothing) ≡ flat.Nothing
other_edge_node k i n m w apart = λ j. if ne_eqb k i apart j && (m == n) then w else flat.Nothing

here_silence : (i n u : ℕ) → (if i == i && (n == n) then u else 0) ≡ u
here_silence i n u = λ j. if eq-eqb i i refl j && eq-eqb n n refl j then u else 0

other_count : (i n m u : ℕ) → ¬ (m ≡ n) → (if i == i && (m == n) then u else 0) ≡ 0
other_count i n m u apart = λ j. if eq-eqb i i refl j && ne_eqb m n apart j then u else 0

other_silence_node : (k i n m u : ℕ) → ¬ (k ≡ i) → (if k == i && (m == n) then u else 0) ≡ 0
other_silence_node k i n m u apart = λ j. if ne_eqb k i apart j && (m == n) then u else 0

nothing_more : (w : FlatWord) → joined_flat w flat.Nothing ≡ w
nothing_more flat.Nothing = refl
nothing_more (flat.Value t) = refl
nothing_more flat.Clash = refl

no_further : (a : ℕ) → max a 0 ≡ a
no_further a = omega arith

value_from : (a b : FlatWord) (t : ℕ) → joined_flat a b ≡ flat.Value t → (a ≡ flat.Value t) ⊎ (b ≡ flat.Value t)
value_from flat.Nothing b t is = inr is
value_from (flat.Value x) flat.Nothing t is = inl is
value_from (flat.Value x) (flat.Value y) t is = at (x == y) is where
  at : (c : Bool) → (if c then flat.Value x else flat.Clash) ≡ flat.Value t → (flat.Value x ≡ flat.Value t) ⊎ (flat.Value y ≡ flat.Value t)
  at true e = inl e
  at false e = absurd (false≢true (ap is_tick e))
value_from (flat.Value x) flat.Clash t is = absurd (false≢true (ap is_tick is))
value_from flat.Clash b t is = absurd (false≢true (ap is_tick is))

pub limits_joined : (a b : Contents) → AreInLimits a → AreInLimits b → AreInLimits (slots_joined a b)
limits_joined a b h k = record {
  edges = λ i n t is. elim (value_from (a.edge i n) (b.edge i n) t is) [ inl mine ↦ h.edges i n t mine | inr theirs ↦ k.edges i n t theirs ];
  silences = λ i n. omega (arith, h.silences i n, k.silences i n);
}

told_edge : (b : Bool) (w : FlatWord) (t : ℕ) → (if b then w else flat.Nothing) ≡ flat.Value t → w ≡ flat.Value t
told_edge true w t is = is
told_edge false w t is = absurd (false≢true (ap is_tick is))

told_silence : (b : Bool) (u top : ℕ) → u ≤ top → (if b then u else 0) ≤ top
told_silence true u top le = le
told_silence false u top le = omega arith

limits_of : (r : Record) → IsWide r → AreInLimits (slots_only r)
limits_of (Edge i n t) fits = record {
  edges = λ j m u is. (let same = told_edge (j == i && (m == n)) (flat.Value t) u is in let less = fits.2 in subst (λ k. k < tick_end) (ap tick_in same) less);
  silences = λ j m. omega arith;
}
limits_of (Clash i n) fits = record {
  edges = λ j m u is. absurd (false≢true (ap is_tick (told_edge (j == i && (m == n)) flat.Clash u is)));
  silences = λ j m. omega arith;
}
limits_of (Silence i n u) fits = record {
  edges = λ j m t is. absurd (false≢true (ap is_tick is));
  silences = λ j m. told_silence (j == i && (m == n)) u tick_end (omega (arith, fits.2));
}

module _ (w : Contents) where
  abbrev pub after : Record → Contents
  after r = slots_joined w (slots_only r)

  edge_raised : (r : Record) (i n : ℕ) (word : FlatWord) → ((k m : ℕ) → (slots_only r).edge k m ≡ (if k == i && (m == n) then word else flat.Nothing))
      → IsRaised joined_flat (w.edge i) n word ((after r).edge i)
  edge_raised r i n word is = record {
    here = ap (joined_flat (w.edge i n)) (is i n ∙ here_edge i n word);
    others = λ m apart. ap (joined_flat (w.edge i m)) (is i m ∙ other_number i n m word apart) ∙ nothing_more (w.edge i m);
  }

  silence_raised : (i n u : ℕ) → IsRaised max (w.silence i) n u ((after (Silence i n u)).silence i)
  silence_raised i n u = record {
    here = ap (max (w.silence i n)) (here_silence i n u);
    others = λ m apart. ap (max (w.silence i m)) (other_count i n m u apart) ∙ no_further (w.silence i m);
  }

  -- it was the run before the record was taken
  pub was_before : (r : Record) (k : KnownRun) → IsRunOf (w.edge (node_of r)) (w.silence (node_of r)) k → WasRunBefore r ((after r).edge (node_of r)) ((after r).silence (node_of r)) k
  was_before (Edge i n t) k h =
      (w.edge i, flat.Value t, subst (λ (s : ℕ → ℕ). IsRunOf (w.edge i) s k) (λ j m. sym (no_further (w.silence i m)) j) h, edge_raised (Edge i n t) i n (flat.Value t) (λ k m. refl))
  was_before (Clash i n) k h =
      (w.edge i, flat.Clash, subst (λ (s : ℕ → ℕ). IsRunOf (w.edge i) s k) (λ j m. sym (no_further (w.silence i m)) j) h, edge_raised (Clash i n) i n flat.Clash (λ k m. refl))
  was_before (Silence i n u) k h =
      (w.silence i, subst (λ (e : ℕ → FlatWord). IsRunOf e (w.silence i) k) (λ j m. sym (nothing_more (w.edge i m)) j) h, silence_raised i n u)

  -- and what it says of other nodes is nothing
  other_edges_stay : (r : Record) (i m : ℕ) → ¬ (i ≡ node_of r) → (after r).edge i m ≡ w.edge i m
  other_edges_stay (Edge k n t) i m apart = ap (joined_flat (w.edge i m)) (other_edge_node i k n m (flat.Value t) apart) ∙ nothing_more (w.edge i m)
  other_edges_stay (Clash k n) i m apart = ap (joined_flat (w.edge i m)) (other_edge_node i k n m flat.Clash apart) ∙ nothing_more (w.edge i m)
  other_edges_stay (Silence k n u) i m apart = nothing_more (w.edge i m)

  other_silences_stay : (r : Record) (i m : ℕ) → ¬ (i ≡ node_of r) → (after r).silence i m ≡ w.silence i m
  other_silences_stay (Edge k n t) i m apart = no_further (w.silence i m)
  other_silences_stay (Clash k n) i m apart = no_further (w.silence i m)
  other_silences_stay (Silence k n u) i m apart = ap (max (w.silence i m)) (other_silence_node i k n m u apart) ∙ no_further (w.silence i m)

  -- it stays within limits
  limits_after : (r : Record) → AreInLimits w → IsWide r → AreInLimits (after r)
  limits_after r h fits = limits_joined w (slots_only r) h (limits_of r fits)

  -- the runs of all nodes, once that of its node was brought up to date
  pub runs_after : (r : Record) (nodes : ℕ) (runs new : List KnownRun) (e : ℕ → FlatWord) (s : ℕ → ℕ) → AreRuns nodes w runs → IsWide r → length new ≡ length runs
      → e ≡ (after r).edge (node_of r) → s ≡ (after r).silence (node_of r)
      → ((d : KnownRun) → IsRunOf e s (slice_index_or new (node_of r) d))
      → ((i : ℕ) (d : KnownRun) → ¬ (i ≡ node_of r) → slice_index_or new i d ≡ slice_index_or runs i d) → AreRuns nodes (after r) new
  runs_after r nodes runs new e s h fits count p q own others = record {
    count = count ∙ h.count;
    limits = limits_after r h.limits fits;
    known = λ i d lt. elim (cases_eq i (node_of r)) [
      | inl same ↦ subst (λ j. IsRunOf ((after r).edge j) ((after r).silence j) (slice_index_or new j d)) (sym same)
          (subst (λ (f : ℕ → FlatWord). IsRunOf f ((after r).silence (node_of r)) (slice_index_or new (node_of r) d)) p
          (subst (λ (g : ℕ → ℕ). IsRunOf e g (slice_index_or new (node_of r) d)) q (own d)))
      | inr apart ↦ subst (λ (k : KnownRun). IsRunOf ((after r).edge i) ((after r).silence i) k) (sym (others i d apart))
          (subst (λ (f : ℕ → FlatWord). IsRunOf f ((after r).silence i) (slice_index_or runs i d)) (λ j m. sym (other_edges_stay r i m apart) j)
          (subst (λ (g : ℕ → ℕ). IsRunOf (w.edge i) g (slice_index_or runs i d)) (λ j m. sym (other_silences_stay r i m apart) j) (h.known i d lt)))
    ];
  }

-- the level that a run tells
pub level_of_run : (e : ℕ → FlatWord) (s : ℕ → ℕ) (k : KnownRun) → IsRunOf e s k → (t : ℕ) → t < k.horizon → flips (ticks e k.run.length) t ≡ covers (intervals (ticks e k.run.length) k.horizon) t
level_of_run e s k h t lt =
    let is = horizon_is e s k h in
    level_is e s k.run.length t h.run (omega (arith, is)) ∙ ap (λ u. covers (intervals (ticks e k.run.length) u) t) (sym is)
