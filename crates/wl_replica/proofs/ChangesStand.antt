-- The changes below a horizon stand in their slots, and no wave ends past the last tick.
use Rattle.std.specs.Prelude.{◌≡◌, ℕ, zero, suc, ◌<◌, ◌≤◌, List, [], ◌∷◌, ◌++◌, IfSome, refl}
use Rattle.std.specs.List.{AllByRecursion}
use Rattle.std.proofs.Common.{sym, ap, ◌∙◌, arith}
use Rattle.wl_lattice.specs.declared.FlatWord.{FlatWord}
use Rattle.wl_lattice.specs.declared.FlatWord.TheVariants as flat
use Rattle.wl_intervals.specs.Pairs.{last_end}
use Rattle.wl_record_core.specs.Limits.{tick_end, tick_end-is}
use Rattle.wl_record_core.specs.Truth.{IsIncreasing, count_below}
use Rattle.wl_record_core.specs.TableLaws.{TableLaws}
use Rattle.wl_replica.proofs.SmallFacts.{some_is, tick_is}
use Rattle.wl_replica.specs.Slots.{Contents, HoldsTrue}
use Rattle.wl_replica.specs.SlotsOf.{ChangesStand}
use Rattle.wl_replica.specs.Known.{tick_in, ticks, intervals, after_edges, horizon}
use Rattle.wl_replica.specs.KnownLaws.{KnownLaws}

-- ---- changes

pub changes_stand : TableLaws → KnownLaws → (nodes : ℕ) (table : ℕ → List ℕ) (w : Contents) (i u : ℕ) → IsIncreasing (table i) → HoldsTrue nodes table w → u ≤ horizon w i
    → ChangesStand w i (table i) u
changes_stand tables knows nodes table w i u order holds below n t at before =
    let step = tables.entry_is_step (table i) n t order at in
    let less = tables.count_less (suc t) u (table i) before in
    let few : n < count_below u (table i) = omega (arith, step.1, less) in
    let is = tick_is (w.edge i n) (knows.changes_held nodes table w i u n order holds below few) in
    is ∙ ap flat.Value (some_is (tick_in (w.edge i n)) t (sym (holds.edges i n (tick_in (w.edge i n)) is).1 ∙ at))

-- ---- ends

behind : (b : ℕ) (p : ℕ × ℕ) (ps : List (ℕ × ℕ)) → p.1 ≤ b → IfSome (last_end ps) (λ end. end ≤ b) → IfSome (last_end (p ∷ ps)) (λ end. end ≤ b)
behind b p [] h rest = h
behind b p (q ∷ ps) h rest = rest

last_within : (b : ℕ) (ts : List ℕ) (h : ℕ) → AllByRecursion (λ t. t ≤ b) ts → h ≤ b → IfSome (last_end (intervals ts h)) (λ end. end ≤ b)
last_within b [] h all low = tt
last_within b (s ∷ []) h all low = low
last_within b (s ∷ t ∷ ts) h all low = behind b (s, t) (intervals ts h) all.1.0 (last_within b ts h all.1.1 low)

all_and_last : (b : ℕ) (ts : List ℕ) (t : ℕ) → AllByRecursion (λ t. t ≤ b) ts → t ≤ b → AllByRecursion (λ t. t ≤ b) (ts ++ t ∷ [])
all_and_last b [] t all low = (low, tt)
all_and_last b (s ∷ ts) t all low = (all.0, all_and_last b ts t all.1 low)

all_ticks : (e : ℕ → FlatWord) (b m : ℕ) → ((n : ℕ) → tick_in (e n) < b) → AllByRecursion (λ t. t ≤ b) (ticks e m)
all_ticks e b zero low = tt
all_ticks e b (suc m) low = all_and_last b (ticks e m) (tick_in (e m)) (all_ticks e b m low) (let h = low m in omega arith)

after_within : (e : ℕ → FlatWord) (b m : ℕ) → ((n : ℕ) → tick_in (e n) < b) → after_edges e m ≤ b
after_within e b zero low = omega arith
after_within e b (suc m) low = low m

pub tick_within : (w : FlatWord) → ((t : ℕ) → w ≡ flat.Value t → t < tick_end) → tick_in w < tick_end
tick_within (flat.Value t) h = h t refl
tick_within flat.Nothing h = omega (arith, tick_end-is)
tick_within flat.Clash h = omega (arith, tick_end-is)

-- a run's wave ends no later than its horizon, which is that of some slots within limits
pub wave_within : (e : ℕ → FlatWord) (m h : ℕ) → ((n t : ℕ) → e n ≡ flat.Value t → t < tick_end) → h ≤ tick_end → IfSome (last_end (intervals (ticks e m) h)) (λ end. end ≤ tick_end)
wave_within e m h within early = last_within tick_end (ticks e m) h (all_ticks e tick_end m (λ n. tick_within (e n) (within n))) early

pub end_within : (e : ℕ → FlatWord) (m : ℕ) → ((n t : ℕ) → e n ≡ flat.Value t → t < tick_end) → after_edges e m ≤ tick_end
end_within e m within = after_within e tick_end m (λ n. tick_within (e n) (within n))
