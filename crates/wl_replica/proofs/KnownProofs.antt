-- Slots that hold what is true of one table agree with it below each horizon, and no horizon falls.
use Rattle.std.proofs.Common.{◌≡◌, ℕ, zero, suc, pred, ◌+◌, ◌-◌, ◌<◌, ◌≤◌, Bool, true, inl, inr, List, [], ◌∷◌, ◌++◌, take, refl, sym, ◌∙◌, ap, subst, arith, add-zero, add-suc, Some, slice_get}
use Rattle.std.proofs.lemmas.Bool.{cases_lt, cases_eq, cases_Bool, true≢false, le-leb, lt-ltb, and_parts, and_from, cond-true, cond-false}
use Rattle.wl_lattice.specs.declared.FlatWord.{FlatWord}
use Rattle.wl_lattice.specs.declared.FlatWord.TheVariants as flat
use Rattle.wl_lattice.specs.Words.{joined_flat}
use Rattle.wl_lattice.specs.WordLaws.{value_kept}
use Rattle.wl_intervals.specs.Pairs.{covers}
use Rattle.wl_record_core.specs.Limits.{most_edges}
use Rattle.wl_record_core.specs.Truth.{count_below, IsIncreasing, odd}
use Rattle.wl_record_core.specs.TableLaws.{TableLaws}
use Rattle.wl_replica.proofs.SmallFacts.{run_part, tick_is}
use Rattle.wl_replica.specs.Slots.{Contents, HoldsTrue, IsBelow}
use Rattle.wl_replica.specs.Known.{is_tick, tick_in, run_goes_on, is_run, greatest_passing, run_length, longest_promise, after_edges, known_by, horizon, ticks, intervals, wave_at, least_up_to, place_horizon}
use Rattle.wl_replica.proofs.Covers.{covers_odd}

-- Of one node: edge words, ends of silences, and its list in the table.
record Fits (e : ℕ → FlatWord) (s : ℕ → ℕ) (xs : List ℕ) : Type 0 where
  order : IsIncreasing xs
  edges : (n t : ℕ) → e n ≡ flat.Value t → slice_get xs n ≡ Some t
  silences : (n : ℕ) → 0 < s n → count_below (s n) xs ≡ n

-- an edge of a run holds its tick
goes_tick : (e : ℕ → FlatWord) (s : ℕ → ℕ) (n : ℕ) → run_goes_on e s n ≡ true → e n ≡ flat.Value (tick_in (e n))
goes_tick e s zero h = tick_is (e 0) (and_parts _ _ h).0
goes_tick e s (suc n) h = tick_is (e (suc n)) (and_parts _ _ (and_parts _ _ h).0).0

run_tick : (e : ℕ → FlatWord) (s : ℕ → ℕ) (m n : ℕ) → is_run e s m ≡ true → n < m → is_tick (e n) ≡ true
run_tick e s m n h b = ap is_tick (goes_tick e s n (run_part e s m n h b))

take_entry : (xs : List ℕ) (m t : ℕ) → slice_get xs m ≡ Some t → take m xs ++ t ∷ [] ≡ take (suc m) xs
take_entry [] m t h = cc
take_entry (x ∷ xs) zero t h = cc
take_entry (x ∷ xs) (suc m) t h = ap (λ v. x ∷ v) (take_entry xs m t h)

-- the ticks of a run are the first of the table
run_ticks : (e : ℕ → FlatWord) (s : ℕ → ℕ) (xs : List ℕ) → Fits e s xs → (m : ℕ) → is_run e s m ≡ true → ticks e m ≡ take m xs
run_ticks e s xs f zero h = refl
run_ticks e s xs f (suc m) h =
    let p = and_parts _ _ h in
    ap (λ v. v ++ tick_in (e m) ∷ []) (run_ticks e s xs f m p.0)
    ∙ take_entry xs m _ (f.edges m _ (goes_tick e s m p.1))

-- the greatest number that passes does pass
greatest_passes : (b : ℕ) (test : ℕ → Bool) → test 0 ≡ true → test (greatest_passing b test) ≡ true
greatest_passes zero test h = h
greatest_passes (suc b) test h = elim (cases_Bool (test (suc b))) [
  | inl y ↦ subst (λ v. test v ≡ true) (sym (cond-true (test (suc b)) _ _ y)) y
  | inr n ↦ subst (λ v. test v ≡ true) (sym (cond-false (test (suc b)) _ _ n)) (greatest_passes b test h)
]

-- and none greater does
greatest_most : (b : ℕ) (test : ℕ → Bool) (m : ℕ) → m ≤ b → test m ≡ true → m ≤ greatest_passing b test
greatest_most zero test m h p = omega arith
greatest_most (suc b) test m h p = elim (cases_Bool (test (suc b))) [
  | inl y ↦ (let e : greatest_passing (suc b) test ≡ suc b = cond-true (test (suc b)) _ _ y in omega arith)
  | inr n ↦
      let e : greatest_passing (suc b) test ≡ greatest_passing b test = cond-false (test (suc b)) _ _ n in
      elim (cases_eq m (suc b)) [
        | inl same ↦ absurd (true≢false (sym p ∙ (ap test same ∙ n)))
        | inr other ↦ (let r = greatest_most b test m (omega arith) p in omega arith)
      ]
]

greatest_within : (b : ℕ) (test : ℕ → Bool) → greatest_passing b test ≤ b
greatest_within zero test = omega arith
greatest_within (suc b) test = elim (cases_Bool (test (suc b))) [
  | inl y ↦ (let e : greatest_passing (suc b) test ≡ suc b = cond-true (test (suc b)) _ _ y in omega arith)
  | inr n ↦ (let e : greatest_passing (suc b) test ≡ greatest_passing b test = cond-false (test (suc b)) _ _ n in let r = greatest_within b test in omega arith)
]

is_run_length : (w : Contents) (i : ℕ) → is_run (w.edge i) (w.silence i) (run_length w i) ≡ true
is_run_length w i = greatest_passes most_edges (is_run (w.edge i) (w.silence i)) refl

-- silences that grow promise more
promised_up : (s : ℕ → ℕ) (m d : ℕ) → longest_promise s m ≤ longest_promise s (m + d)
promised_up s m zero = rw add-zero (omega arith)
promised_up s m (suc d) = rw add-suc (let r = promised_up s m d in omega arith)

promised_slot_up : (s : ℕ → ℕ) (m m' : ℕ) → m ≤ m' → longest_promise s m ≤ longest_promise s m'
promised_slot_up s m m' h = subst (λ v. longest_promise s m ≤ longest_promise s v) (omega arith) (promised_up s m (m' - m))

promised_more : (s s' : ℕ → ℕ) (m : ℕ) → ((n : ℕ) → s n ≤ s' n) → longest_promise s m ≤ longest_promise s' m
promised_more s s' zero h = h 0
promised_more s s' (suc m) h = (let r = promised_more s s' m h in let q = h (suc m) in omega arith)

promised_slot : (s : ℕ → ℕ) (n m : ℕ) → n ≤ m → s n ≤ longest_promise s m
promised_slot s n m h = (let a = own n in let b = promised_slot_up s n m h in omega arith)
  where
    own : (n : ℕ) → s n ≤ longest_promise s n
    own zero = omega arith
    own (suc n) = omega arith

pub tick_stays : (nodes : ℕ) (table : ℕ → List ℕ) (a b : Contents) (i n : ℕ) → IsBelow a b → HoldsTrue nodes table b → is_tick (a.edge i n) ≡ true → is_tick (b.edge i n) ≡ true
tick_stays nodes table a b i n up h e =
    let v = tick_is (a.edge i n) e in
    ap is_tick (value_kept (tick_in (a.edge i n)) (b.edge i n) (subst (λ x. joined_flat x (b.edge i n) ≡ b.edge i n) v (up.edges i n)) (h.no_clash i n))

-- the least of some numbers
least_le : (f : ℕ → ℕ) (n i : ℕ) → i ≤ n → least_up_to f n ≤ f i
least_le f zero i h = (let e : i ≡ 0 = omega arith in let r : f 0 ≡ f i = ap f (sym e) in omega arith)
least_le f (suc n) i h = elim (cases_eq i (suc n)) [
  | inl e ↦ (let r : f i ≡ f (suc n) = ap f e in omega arith)
  | inr n' ↦ (let r = least_le f n i (omega arith) in omega arith)
]

least_above : (f : ℕ → ℕ) (n t : ℕ) → ((i : ℕ) → i ≤ n → t < f i) → t < least_up_to f n
least_above f zero t h = h 0 (omega arith)
least_above f (suc n) t h = (let r = least_above f n t (λ i b. h i (omega arith)) in let q = h (suc n) (omega arith) in omega arith)

pub place_known : (nodes : ℕ) (delay : ℕ → ℕ → ℕ) (w : Contents) (i j t : ℕ) → i < nodes → t < place_horizon nodes delay w j → t < horizon w i + delay i j
place_known nodes delay w i j t b h = (let r = least_le (λ v. horizon w v + delay v j) (pred nodes) i (omega arith) in omega arith)

pub place_above : (nodes : ℕ) (delay : ℕ → ℕ → ℕ) (w : Contents) (j t : ℕ) → 0 < nodes → ((i : ℕ) → i < nodes → t < horizon w i + delay i j) → t < place_horizon nodes delay w j
place_above nodes delay w j t p h = least_above (λ v. horizon w v + delay v j) (pred nodes) t (λ i b. h i (omega arith))

module _ (tables : TableLaws) where
  open tables use {count_zero, count_less, entry_is_step, entries_grow, count_front, front_increases}

  fits_of : (nodes : ℕ) (table : ℕ → List ℕ) (w : Contents) (i : ℕ) → IsIncreasing (table i) → HoldsTrue nodes table w → Fits (w.edge i) (w.silence i) (table i)
  fits_of nodes table w i o h = record { order = o; edges = λ n t e. (h.edges i n t e).1; silences = λ n b. (h.silences i n b).1 }

  -- no more than n changes lie below silence slot n
  slot_bound : (e : ℕ → FlatWord) (s : ℕ → ℕ) (xs : List ℕ) → Fits e s xs → (n u : ℕ) → u ≤ s n → count_below u xs ≤ n
  slot_bound e s xs f n u h = elim (cases_eq (s n) 0) [
    | inl none ↦ (let z = count_zero xs in let w = count_less u 0 xs (omega arith) in omega arith)
    | inr some ↦ (let a = f.silences n (omega arith) in let b = count_less u (s n) xs h in omega arith)
  ]

  promise_bound : (e : ℕ → FlatWord) (s : ℕ → ℕ) (xs : List ℕ) → Fits e s xs → (m u : ℕ) → u ≤ longest_promise s m → count_below u xs ≤ m
  promise_bound e s xs f zero u h = slot_bound e s xs f 0 u h
  promise_bound e s xs f (suc m) u h = elim (cases_lt (longest_promise s m) u) [
    | inr low ↦ (let r = promise_bound e s xs f m u low in omega arith)
    | inl high ↦ slot_bound e s xs f (suc m) u (omega arith)
  ]

  edge_bound : (e : ℕ → FlatWord) (s : ℕ → ℕ) (xs : List ℕ) → Fits e s xs → (m u : ℕ) → is_run e s m ≡ true → u ≤ after_edges e m → count_below u xs ≤ m
  edge_bound e s xs f zero u r h = (let z = count_zero xs in let w = count_less u 0 xs (omega arith) in omega arith)
  edge_bound e s xs f (suc m) u r h =
      let q = (entry_is_step xs m (tick_in (e m)) f.order (f.edges m (tick_in (e m)) (goes_tick e s m (and_parts (is_run e s m) (run_goes_on e s m) r).1))).1 in
      let w = count_less u (suc (tick_in (e m))) xs h in
      omega arith

  -- The heart: below what m edges and their silences make known there are no more than m changes.
  known_bound : (e : ℕ → FlatWord) (s : ℕ → ℕ) (xs : List ℕ) → Fits e s xs → (m u : ℕ) → is_run e s m ≡ true → u ≤ known_by e s m → count_below u xs ≤ m
  known_bound e s xs f m u r h = elim (cases_lt (longest_promise s m) u) [
    | inr low ↦ promise_bound e s xs f m u low
    | inl high ↦ edge_bound e s xs f m u r (omega arith)
  ]

  -- below what a run makes known its wave is the level that the table gives
  run_agrees : (e : ℕ → FlatWord) (s : ℕ → ℕ) (xs : List ℕ) → Fits e s xs → (m t : ℕ) → is_run e s m ≡ true → t < known_by e s m
      → covers (intervals (ticks e m) (known_by e s m)) t ≡ odd (count_below (suc t) xs)
  run_agrees e s xs f m t r h =
      let same = run_ticks e s xs f m r in
      covers_odd tables (ticks e m) (known_by e s m) t (subst IsIncreasing (sym same) (front_increases m xs f.order)) h
      ∙ (ap (λ v. odd (count_below (suc t) v)) same
      ∙ ap odd (count_front xs (suc t) m f.order (known_bound e s xs f m (suc t) r h)))

  pub wave_agrees : (nodes : ℕ) (table : ℕ → List ℕ) (w : Contents) (i t : ℕ) → IsIncreasing (table i)
      → HoldsTrue nodes table w → t < horizon w i → wave_at w i t ≡ odd (count_below (suc t) (table i))
  wave_agrees nodes table w i t o h b =
      run_agrees (w.edge i) (w.silence i) (table i) (fits_of nodes table w i o h) (run_length w i) t (is_run_length w i) b

  -- an edge that holds what is true is not below its silence slot
  slot_low : (e : ℕ → FlatWord) (s : ℕ → ℕ) (xs : List ℕ) → Fits e s xs → (n t : ℕ) → e n ≡ flat.Value t → s n ≤ t
  slot_low e s xs f n t h = elim (cases_lt t (s n)) [
    | inr fine ↦ fine
    | inl late ↦ absurd (
        let p = f.silences n (omega arith) in
        let q = entry_is_step xs n t f.order (f.edges n t h) in
        let q1 = q.1 in
        let w = count_less (suc t) (s n) xs late in
        omega arith)
  ]

  -- edges that hold ticks are a run
  fits_run : (e : ℕ → FlatWord) (s : ℕ → ℕ) (xs : List ℕ) → Fits e s xs → (m : ℕ) → ((n : ℕ) → n < m → is_tick (e n) ≡ true) → is_run e s m ≡ true
  fits_run e s xs f zero h = refl
  fits_run e s xs f (suc m) h = and_from _ _ (fits_run e s xs f m (λ n b. h n (omega arith))) (step m h)
    where
      step : (m : ℕ) → ((n : ℕ) → n < suc m → is_tick (e n) ≡ true) → run_goes_on e s m ≡ true
      step zero h = and_from _ _ (h 0 (omega arith)) (le-leb _ _ (slot_low e s xs f 0 (tick_in (e 0)) (tick_is _ (h 0 (omega arith)))))
      step (suc m) h =
          let p = tick_is (e m) (h m (omega arith)) in
          let q = tick_is (e (suc m)) (h (suc m) (omega arith)) in
          and_from _ _ (and_from _ _ (h (suc m) (omega arith)) (le-leb _ _ (slot_low e s xs f (suc m) (tick_in (e (suc m))) q)))
          (lt-ltb _ _ (entries_grow xs m (suc m) (tick_in (e m)) (tick_in (e (suc m))) f.order (f.edges m _ p) (f.edges (suc m) _ q) (omega arith)))

  after_up : (e e' : ℕ → FlatWord) (s' : ℕ → ℕ) (xs : List ℕ) → Fits e' s' xs → (m m' : ℕ) → m ≤ m'
      → ((n : ℕ) → n < m → e' n ≡ e n) → ((n : ℕ) → n < m' → is_tick (e' n) ≡ true) → after_edges e m ≤ after_edges e' m'
  after_up e e' s' xs f zero m' h same t = omega arith
  after_up e e' s' xs f (suc m) zero h same t = absurd (omega arith)
  after_up e e' s' xs f (suc m) (suc m') h same t =
      let o : tick_in (e' m) ≡ tick_in (e m) = ap tick_in (same m (omega arith)) in
      elim (cases_eq m m') [
        | inl e1 ↦ (let c : tick_in (e' m) ≡ tick_in (e' m') = ap (λ v. tick_in (e' v)) e1 in omega arith)
        | inr less ↦ (let g = entries_grow xs m m' (tick_in (e' m)) (tick_in (e' m')) f.order (f.edges m _ (tick_is _ (t m (omega arith)))) (f.edges m' _ (tick_is _ (t m' (omega arith)))) (omega arith) in omega arith)
      ]

  -- No horizon falls where what is held is true of one table.
  pub horizon_keeps : (nodes : ℕ) (table : ℕ → List ℕ) (a b : Contents) (i : ℕ) → IsIncreasing (table i)
      → HoldsTrue nodes table a → HoldsTrue nodes table b → IsBelow a b → horizon a i ≤ horizon b i
  horizon_keeps nodes table a b i o ha hb up =
      let ea = a.edge i in
      let eb = b.edge i in
      let m = run_length a i in
      let m' = run_length b i in
      let fb = fits_of nodes table b i o hb in
      let ra : is_run ea (a.silence i) m ≡ true = is_run_length a i in
      let rb : is_run eb (b.silence i) m' ≡ true = is_run_length b i in
      let same : (n : ℕ) → n < m → eb n ≡ ea n = λ n h.
      let v = goes_tick ea (a.silence i) n (run_part ea (a.silence i) m n ra h) in
      value_kept (tick_in (ea n)) (eb n) (subst (λ w. joined_flat w (eb n) ≡ eb n) v (up.edges i n)) (hb.no_clash i n) ∙ sym v in
      let rab : is_run eb (b.silence i) m ≡ true = fits_run eb (b.silence i) (table i) fb m (λ n h. ap is_tick (same n h) ∙ run_tick ea (a.silence i) m n ra h) in
      let up_m : m ≤ m' = greatest_most most_edges (is_run eb (b.silence i)) m (greatest_within most_edges (is_run ea (a.silence i))) rab in
      let x = after_up ea eb (b.silence i) (table i) fb m m' up_m same (λ n h. run_tick eb (b.silence i) m' n rb h) in
      let y = promised_more (a.silence i) (b.silence i) m (up.silences i) in
      let z = promised_slot_up (b.silence i) m m' up_m in
      omega arith

  pub horizon_reached : (nodes : ℕ) (table : ℕ → List ℕ) (w : Contents) (i m u : ℕ) → IsIncreasing (table i) → HoldsTrue nodes table w
      → m ≤ most_edges → ((n : ℕ) → n < m → is_tick (w.edge i n) ≡ true) → u ≤ w.silence i m → u ≤ horizon w i
  horizon_reached nodes table w i m u o h few edges silence =
      let r = fits_run (w.edge i) (w.silence i) (table i) (fits_of nodes table w i o h) m edges in
      let g = greatest_most most_edges (is_run (w.edge i) (w.silence i)) m few r in
      let p = promised_slot (w.silence i) m (run_length w i) g in
      omega arith

  pub changes_held : (nodes : ℕ) (table : ℕ → List ℕ) (w : Contents) (i u n : ℕ) → IsIncreasing (table i)
      → HoldsTrue nodes table w → u ≤ horizon w i → n < count_below u (table i) → is_tick (w.edge i n) ≡ true
  changes_held nodes table w i u n o h k b =
      let r = is_run_length w i in
      let m = known_bound (w.edge i) (w.silence i) (table i) (fits_of nodes table w i o h) (run_length w i) u r k in
      run_tick (w.edge i) (w.silence i) (run_length w i) n r (omega arith)
