-- When a record is true of a table of changes: for each node the ticks at which its level changes, in order.
-- Chandy and Misra 1979: an edge is a message of the line, a silence a promise that none comes before a tick.
-- The three forms of a record are this project's profile.
use Rattle.std.specs.Prelude.{◌≡◌, ℕ, zero, suc, ◌<◌, Bool, false, not, ◌&&◌, List, [], ◌∷◌, count_by, nat_lt, nat_le, ◌==◌, Option, None, Some, slice_get}
use Rattle.std.specs.List.{AllByRecursion}
use Rattle.wl_record_core.specs.declared.record.Record.{Record}
use Rattle.wl_record_core.specs.declared.record.Record.TheVariants.{Edge, Clash, Silence}
use Rattle.wl_record_core.specs.Limits.{most_nodes, most_edges, tick_end}
use Rattle.wl_record_core.specs.Within.{IsWide}

-- how many of some ticks lie below t
abbrev pub count_below : ℕ → List ℕ → ℕ
count_below t ticks = count_by (λ u. nat_lt u t) ticks

-- whether n is odd: a node that is recessive at first is dominant after an odd number of changes
abbrev pub odd : ℕ → Bool
odd zero = false
odd (suc n) = not (odd n)

-- each number lies above t
abbrev pub AllAbove : ℕ → List ℕ → Type 0
AllAbove t [] = Unit {0}
AllAbove t (u ∷ us) = (t < u) × AllAbove t us

-- the numbers strictly increase
abbrev pub IsIncreasing : List ℕ → Type 0
IsIncreasing [] = Unit {0}
IsIncreasing (t ∷ ts) = AllAbove t ts × IsIncreasing ts

-- An edge says which change is at a tick, a silence how many changes lie before one; a clash is never true.
-- What is true names a node that there is, and keeps the limits of records.
abbrev pub IsTrueOf : ℕ → (ℕ → List ℕ) → Record → Type 0
IsTrueOf nodes table (Edge i s t) = (i < nodes) × (slice_get (table i) s ≡ Some t) × IsWide (Edge i s t)
IsTrueOf nodes table (Silence i n u) = (i < nodes) × (count_below u (table i) ≡ n) × IsWide (Silence i n u)
IsTrueOf nodes table (Clash i s) = ⊥

-- each record of a list is
abbrev pub AreTrueOf : ℕ → (ℕ → List ℕ) → List Record → Type 0
AreTrueOf nodes table rs = AllByRecursion (IsTrueOf nodes table) rs

-- ---- the same as a test

-- this number, and no other
abbrev pub is_just : Option ℕ → ℕ → Bool
is_just None t = false
is_just (Some u) t = u == t

abbrev pub is_wide : Record → Bool
is_wide (Edge i s t) = nat_lt i most_nodes && (nat_lt s most_edges && nat_lt t tick_end)
is_wide (Clash i s) = nat_lt i most_nodes && nat_lt s most_edges
is_wide (Silence i n u) = nat_lt i most_nodes && (nat_le n most_edges && nat_lt u tick_end)

abbrev pub is_true_of : ℕ → (ℕ → List ℕ) → Record → Bool
is_true_of nodes table (Edge i s t) = nat_lt i nodes && (is_just (slice_get (table i) s) t && is_wide (Edge i s t))
is_true_of nodes table (Silence i n u) = nat_lt i nodes && ((count_below u (table i) == n) && is_wide (Silence i n u))
is_true_of nodes table (Clash i s) = false
