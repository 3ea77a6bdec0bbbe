-- Sets of ticks as lists of half-open intervals: a pair (from, to) holds the ticks from `from` up to, and not with, `to`.
use Rattle.std.specs.Prelude.{◌≡◌, ℕ, suc, ◌+◌, ◌<◌, ◌≤◌, ◌&&◌, ◌||◌, nat_lt, nat_le, Bool, false, List, [], ◌∷◌, ◌++◌, Option, Some, None, IfSome, IsSomeAnd, map}

-- a pair holds tick t
abbrev pub has_tick : ℕ × ℕ → ℕ → Bool
has_tick p t = nat_le p.0 t && nat_lt t p.1

-- some pair holds tick t
abbrev pub covers : List (ℕ × ℕ) → ℕ → Bool
covers [] t = false
covers (p ∷ ps) t = has_tick p t || covers ps t

-- from tick `low` on: each pair holds a tick, and between it and the next there is one that neither holds
abbrev pub AreFrom : ℕ → List (ℕ × ℕ) → Type 0
AreFrom low [] = Unit {0}
AreFrom low (p ∷ ps) = (low ≤ p.0) × (p.0 < p.1) × AreFrom (suc p.1) ps

-- sorted, disjoint, not touching, and none empty
abbrev pub AreIntervals : List (ℕ × ℕ) → Type 0
AreIntervals ps = AreFrom 0 ps

-- where the last pair ends
abbrev pub last_end : List (ℕ × ℕ) → Option ℕ
last_end [] = None
last_end (p ∷ []) = Some p.1
last_end (p ∷ q ∷ ps) = last_end (q ∷ ps)

-- the last pair ends at tick t or after it
abbrev pub EndsFrom : List (ℕ × ℕ) → ℕ → Type 0
EndsFrom ps t = IsSomeAnd (last_end ps) (λ end. t ≤ end)

-- the joined pairs hold the ticks of either list
abbrev pub IsUnion : List (ℕ × ℕ) → List (ℕ × ℕ) → List (ℕ × ℕ) → Type 0
IsUnion left right joined = (t : ℕ) → covers joined t ≡ (covers left t || covers right t)

-- t is the first tick after `since` at which the level is another than at `since`
pub record IsNextChange (ps : List (ℕ × ℕ)) (since t : ℕ) : Type 0 where
  pub later : since < t
  pub stays : (u : ℕ) → since < u → u < t → covers ps u ≡ covers ps since
  pub changes : covers ps t ≡ covers ps since → ⊥

-- all ticks later by d
abbrev pub later_by : ℕ → List (ℕ × ℕ) → List (ℕ × ℕ)
later_by d ps = map (λ p. (p.0 + d, p.1 + d)) ps

-- What the lists of intervals say as sets of ticks.
pub record IntervalLaws : Type 0 where
  -- two that hold the same ticks are one list
  pub one_list : (ps qs : List (ℕ × ℕ)) → AreIntervals ps → AreIntervals qs → ((t : ℕ) → covers ps t ≡ covers qs t) → ps ≡ qs
  -- two lists, one after the other, hold what either holds
  pub both : (ps qs : List (ℕ × ℕ)) (t : ℕ) → covers (ps ++ qs) t ≡ (covers ps t || covers qs t)
  -- a pair after the last end may join the list
  pub longer : (ps : List (ℕ × ℕ)) (from to : ℕ) → AreIntervals ps → from < to → IfSome (last_end ps) (λ end. end < from) → AreIntervals (ps ++ (from, to) ∷ [])
  -- a prefix of a list of intervals is one
  pub front : (ps qs : List (ℕ × ℕ)) → AreIntervals (ps ++ qs) → AreIntervals ps
  -- no tick from the last end on is held
  pub none_behind : (ps : List (ℕ × ℕ)) (t : ℕ) → AreIntervals ps → IfSome (last_end ps) (λ end. end ≤ t) → covers ps t ≡ false
