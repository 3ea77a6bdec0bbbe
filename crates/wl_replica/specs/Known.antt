-- Up to when slots tell a node's level, and which: run length, horizon and wave. Chandy and Misra 1979:
-- what a process may rest on is bounded by the promises that it has received. The slots are this project's profile.
use Rattle.std.specs.Prelude.{ℕ, zero, suc, pred, ◌+◌, min, max, Bool, true, false, ◌&&◌, List, [], ◌∷◌, ◌++◌, nat_lt, nat_le, if◌then◌else◌, filter}
use Rattle.wl_lattice.specs.declared.FlatWord.{FlatWord}
use Rattle.wl_lattice.specs.declared.FlatWord.TheVariants as flat
use Rattle.wl_intervals.specs.Pairs.{covers}
use Rattle.wl_record_core.specs.Limits.{most_edges}
use Rattle.wl_replica.specs.Slots.{Contents}

-- ---- of one node: edge words e by number, and ends of silences s by count

abbrev pub is_tick : FlatWord → Bool
is_tick (flat.Value t) = true
is_tick flat.Nothing = false
is_tick flat.Clash = false

-- the tick of a word that is one
abbrev pub tick_in : FlatWord → ℕ
tick_in (flat.Value t) = t
tick_in flat.Nothing = 0
tick_in flat.Clash = 0

-- edge n is a tick, not below the silence of count n, and above the edge before
abbrev pub run_goes_on : (ℕ → FlatWord) → (ℕ → ℕ) → ℕ → Bool
run_goes_on e s zero = is_tick (e 0) && nat_le (s 0) (tick_in (e 0))
run_goes_on e s (suc n) =
    is_tick (e (suc n)) && nat_le (s (suc n)) (tick_in (e (suc n))) && nat_lt (tick_in (e n)) (tick_in (e (suc n)))

-- each edge below m goes on
abbrev pub is_run : (ℕ → FlatWord) → (ℕ → ℕ) → ℕ → Bool
is_run e s zero = true
is_run e s (suc m) = is_run e s m && run_goes_on e s m

-- the greatest number up to a bound that passes, or 0
abbrev pub greatest_passing : ℕ → (ℕ → Bool) → ℕ
greatest_passing zero test = zero
greatest_passing (suc b) test = if test (suc b) then suc b else greatest_passing b test

-- the end of the longest of the silences of count at most m
abbrev pub longest_promise : (ℕ → ℕ) → ℕ → ℕ
longest_promise s zero = s 0
longest_promise s (suc m) = max (longest_promise s m) (s (suc m))

-- the tick after the last of m edges, 0 for none
abbrev pub after_edges : (ℕ → FlatWord) → ℕ → ℕ
after_edges e zero = 0
after_edges e (suc m) = suc (tick_in (e m))

-- below what tick a run of m edges tells all
abbrev pub known_by : (ℕ → FlatWord) → (ℕ → ℕ) → ℕ → ℕ
known_by e s m = max (after_edges e m) (longest_promise s m)

-- the ticks of the first m edges
abbrev pub ticks : (ℕ → FlatWord) → ℕ → List ℕ
ticks e zero = []
ticks e (suc m) = ticks e m ++ tick_in (e m) ∷ []

-- the ticks of d edges from number m on
abbrev pub ticks_from : (ℕ → FlatWord) → ℕ → ℕ → List ℕ
ticks_from e m zero = []
ticks_from e m (suc d) = tick_in (e m) ∷ ticks_from e (suc m) d

-- from each first to each second tick, an open last one up to a horizon
abbrev pub intervals : List ℕ → ℕ → List (ℕ × ℕ)
intervals [] h = []
intervals (a ∷ []) h = (a, h) ∷ []
intervals (a ∷ b ∷ ts) h = (a, b) ∷ intervals ts h

-- ---- of all nodes

-- how many of node i's first changes are known without a gap
abbrev pub run_length : Contents → ℕ → ℕ
run_length w i = greatest_passing most_edges (is_run (w.edge i) (w.silence i))

-- the tick below which node i is known
abbrev pub horizon : Contents → ℕ → ℕ
horizon w i = known_by (w.edge i) (w.silence i) (run_length w i)

-- the least of f 0, .., f n
abbrev pub least_up_to : (ℕ → ℕ) → ℕ → ℕ
least_up_to f zero = f 0
least_up_to f (suc n) = min (least_up_to f n) (f (suc n))

-- the tick below which the line at node j's place is known, where there are nodes: what a node drives comes a delay later
abbrev pub place_horizon : ℕ → (ℕ → ℕ → ℕ) → Contents → ℕ → ℕ
place_horizon nodes delay w j = least_up_to (λ i. horizon w i + delay i j) (pred nodes)

-- the intervals in which node i drives dominant, as far as it is known
abbrev pub wave : Contents → ℕ → List (ℕ × ℕ)
wave w i = intervals (ticks (w.edge i) (run_length w i)) (horizon w i)

-- those of them that end after a tick
abbrev pub wave_after : Contents → ℕ → ℕ → List (ℕ × ℕ)
wave_after w i t = filter (λ p. nat_lt t p.1) (wave w i)

-- whether node i drives dominant at t, by its wave
abbrev pub wave_at : Contents → ℕ → ℕ → Bool
wave_at w i t = covers (wave w i) t
