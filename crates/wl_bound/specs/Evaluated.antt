-- What is worked out once for all pairs of nodes of a bus.
use Rattle.std.specs.Prelude.{◌≡◌, ℕ, ◌+◌, ◌*◌, ◌<◌, ◌≤◌, List, Option, length, IfSome, slice_index_or}
use Rattle.wl_topology.specs.Limits.{most_places}
use Rattle.wl_bound.specs.declared.evaluated.Rows.{Rows}
use Rattle.wl_bound.specs.Families.{Bus, Buses, IsFamily, bus_of}
use Rattle.wl_bound.specs.Conditions.{plain}
use Rattle.wl_bound.specs.declared.kept.KeptTerms.{KeptTerms}
use Rattle.wl_bound.specs.Kept.{AreTermsOfBus}
use Rattle.wl_bound.specs.Limits.{early_limit, frame_edges, way_limit}
use Rattle.wl_bound.specs.Terms.{early, edges, way}

-- how late a bit of node j can be at node i
abbrev pub IsWay : Bus → ℕ → ℕ → ℕ → Type 0
IsWay b i j w = (w ≡ way b i j) × (w < way_limit)

-- how late the bits of each node can be at node i
pub record HasWaysOfNode (i : ℕ) (b : Bus) (ways : List ℕ) : Type 0 where
  pub nodes : b.nodes ≤ most_places
  pub all : length ways ≡ most_places * b.nodes
  pub row : (j d : ℕ) → j < b.nodes → IsWay b i j (slice_index_or ways (most_places * i + j) d)

-- at each of the first n nodes
pub record AreWaysOfBus (n : ℕ) (b : Bus) (ways : List ℕ) : Type 0 where
  pub nodes : b.nodes ≤ most_places
  pub all : length ways ≡ most_places * b.nodes
  pub each : (i j d : ℕ) → i < n → j < b.nodes → IsWay b i j (slice_index_or ways (most_places * i + j) d)

-- Of each of the first n nodes these say how early it can be, and in how many edges it catches up.
pub record AreCaught (n : ℕ) (b : Bus) (early_by edges_by : List ℕ) : Type 0 where
  pub all : (length early_by ≡ most_places) × (length edges_by ≡ most_places)
  pub early_is : (i d : ℕ) → i < n → slice_index_or early_by i d ≡ early b i
  pub small : (i d : ℕ) → i < n → slice_index_or early_by i d < early_limit
  pub edges_are : (i d : ℕ) → i < n → slice_index_or edges_by i d ≡ edges b i
  pub few : (i d : ℕ) → i < n → slice_index_or edges_by i d ≤ frame_edges

-- the terms of all nodes
pub record AreRowsOfBus (b : Bus) (r : Rows) : Type 0 where
  pub ways : AreWaysOfBus b.nodes b r.ways
  pub caught : AreCaught b.nodes b r.early r.edges

-- a family with the terms of the plan's own bus beside it
pub record IsKeptFamily (f : Buses) (terms : Option KeptTerms) (kept : Option Rows) : Type 0 where
  pub family : IsFamily f
  pub terms_are : IfSome terms (AreTermsOfBus (bus_of f plain))
  pub rows : IfSome kept (AreRowsOfBus (bus_of f plain))
