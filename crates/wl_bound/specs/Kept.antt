-- What is worked out once of a bus: of each node, of each two, and in how many edges each node catches up.
use Rattle.std.specs.Prelude.{◌≡◌, ◌≢◌, ℕ, ◌+◌, ◌*◌, ◌<◌, ◌≤◌, List, length, slice_index_or}
use Rattle.wl_segments.specs.Lengths.{bit_quanta, sample_at}
use Rattle.wl_topology.specs.Driven.{any_below}
use Rattle.wl_topology.specs.Limits.{most_places}
use Rattle.wl_bound.specs.declared.kept.Chases.{Chases}
use Rattle.wl_bound.specs.declared.kept.KeptTerms.{KeptTerms}
use Rattle.wl_bound.specs.declared.kept.NodeTerms.{NodeTerms}
use Rattle.wl_bound.specs.declared.kept.PairTerms.{PairTerms}
use Rattle.wl_bound.specs.Families.{Bus}
use Rattle.wl_bound.specs.Limits.{ahead_limit, delay_limit, drift_limit, jump_limit, longest_limit, look_limit, sample_limit, shortest_limit, way_limit}
use Rattle.wl_bound.specs.Rooms.{least_chase}
use Rattle.wl_bound.specs.Terms.{ahead, jump, look, sends_third, strays}

-- the terms of node i
pub record IsOfNode (b : Bus) (i : ℕ) (t : NodeTerms) : Type 0 where
  pub who : t.sends ≡ b.sends i
  pub quanta : (t.shortest ≡ b.shortest i) × (t.longest ≡ b.longest i)
  pub bits : (t.short_bit ≡ bit_quanta (b.lengths i) * b.shortest i) × (t.long_bit ≡ bit_quanta (b.lengths i) * b.longest i)
  pub jumps : (t.jump ≡ jump b i) × (t.long_jump ≡ (b.lengths i).sjw * b.longest i)
  pub samples : (t.sample ≡ sample_at (b.lengths i) * b.shortest i) × (t.phase_two ≡ (b.lengths i).ps2 * b.shortest i)
  pub looks : t.look ≡ look b i
  pub gathers : (t.ahead ≡ ahead b i) × (t.strays ≡ strays b i)
  pub short : (t.shortest < shortest_limit) × ((t.jump < jump_limit) × ((t.sample < sample_limit) × (t.phase_two < sample_limit)))
  pub long : (t.longest < longest_limit) × ((t.long_bit < drift_limit) × (t.long_jump < drift_limit))
  pub small : (t.look < look_limit) × ((t.ahead < ahead_limit) × (t.strays < drift_limit))

-- the terms of nodes i and j
pub record IsOfPair (b : Bus) (i j : ℕ) (t : PairTerms) : Type 0 where
  pub way : (t.delay ≡ b.delay i j) × (t.delay < delay_limit)
  pub third : t.third_sends ≡ any_below b.nodes (sends_third b i j)
  pub deaf : i ≢ j → t.listens ≡ b.listens i

-- those of the first n nodes
pub record AreOfNodes (n : ℕ) (b : Bus) (terms : List NodeTerms) : Type 0 where
  pub nodes : b.nodes ≤ most_places
  pub all : length terms ≡ b.nodes
  pub each : (i : ℕ) (d : NodeTerms) → i < n → IsOfNode b i (slice_index_or terms i d)

-- those of the first n nodes and each other one: the place of nodes i and j is 64 i + j
pub record AreOfPairs (n : ℕ) (b : Bus) (terms : List PairTerms) : Type 0 where
  pub nodes : b.nodes ≤ most_places
  pub all : length terms ≡ most_places * b.nodes
  pub each : (i j : ℕ) (d : PairTerms) → i < n → j < b.nodes → IsOfPair b i j (slice_index_or terms (most_places * i + j) d)

-- the terms of a bus
pub record AreTermsOfBus (b : Bus) (t : KeptTerms) : Type 0 where
  pub of_nodes : AreOfNodes b.nodes b t.nodes
  pub of_pairs : AreOfPairs b.nodes b t.pairs

-- in how many edges each of the first n nodes catches up, as the room asks it
pub record AreChases (n : ℕ) (b : Bus) (edges : List ℕ) : Type 0 where
  pub all : length edges ≡ most_places
  pub each : (i d : ℕ) → i < n → slice_index_or edges i d ≡ least_chase b i
  pub few : (i d : ℕ) → i < n → slice_index_or edges i d < way_limit

abbrev pub AreChasesOfBus : Bus → Chases → Type 0
AreChasesOfBus b c = (b.nodes ≤ most_places) × AreChases b.nodes b c.edges
