-- What it means that a bus leaves room.
use Rattle.std.specs.Prelude.{◌≡◌, ◌≢◌, ℕ, suc, ◌+◌, ◌*◌, ◌<◌, ◌≤◌, true}
use Rattle.wl_segments.specs.Lengths.{sample_at}
use Rattle.wl_bound.specs.Families.{Bus, Buses}
use Rattle.wl_bound.specs.Terms.{drift, jump}
use Rattle.wl_bound.specs.Rooms.{comes_early, distance, gain, least_chase, leaves_room, plain_bus}

-- Each node catches up with any sender, has its own bit back by its sample, and any two have room as if both sent.
pub record HasAllRoom (b : Bus) : Type 0 where
  pub catches : (k w : ℕ) → k < b.nodes → w < b.nodes → k ≢ w → b.sends w ≡ true → distance b k w ≤ suc (least_chase b k) * gain b k w
  pub loop_is_there : (i : ℕ) → i < b.nodes → b.delay i i ≤ sample_at (b.lengths i) * b.shortest i
  pub drift_fits_both : (i k : ℕ) → i < b.nodes → k < b.nodes → i ≢ k → 10 * drift b k i ≤ jump b i
  pub bit_is_there_at_sample : (i k : ℕ) → i < b.nodes → k < b.nodes → i ≢ k
      → b.delay i k + b.delay k i + comes_early b k i + 10 * drift b k i ≤ sample_at (b.lengths i) * b.shortest i
  pub no_bit_too_early : (i k : ℕ) → i < b.nodes → k < b.nodes → i ≢ k → comes_early b i k + 12 * drift b i k + b.tick ≤ (b.lengths i).ps2 * b.shortest i

abbrev pub RoomLaw : Type 0
RoomLaw = (f : Buses) → leaves_room f ≡ true → HasAllRoom (plain_bus f)
