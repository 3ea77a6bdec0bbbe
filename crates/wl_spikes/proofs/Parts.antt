-- The parts into which members are cut, and their tallies one after another.
use Rattle.std.proofs.Common.{◌≡◌, ◌∙◌, ◌+◌, ◌-◌, ◌^◌, ◌≤◌, ◌<◌, ℕ, List, [], ◌∷◌, get_or, sym, Result, Ok}
use Rattle.std.specs.declared.alloc.AllocError.{AllocError}
use Rattle.std.specs.Int.{div_ceil}
use Rattle.std.proofs.lemmas.Result.{IfOk-at_ok}
use Rattle.wl_sweep.specs.Tallies.{part_start}
use Rattle.wl_sweep.proofs.Callers.{JoinsBy, tally_by_more, tally_by_one, tally_by_part, tally_of_parts}
use Rattle.wl_spikes.specs.declared.spike.Spikes.{Spikes}
use Rattle.wl_spikes.specs.declared.tally.SpikeTally.{SpikeTally}
use Rattle.wl_spikes.specs.Aftermaths.{aftermath_at}
use Rattle.wl_spikes.specs.Tallies.{AreSpikeTallies, aftermaths_from, spike_tally}

-- a tally is that of two others, one after the other
abbrev pub JoinsSpikes : SpikeTally → SpikeTally → SpikeTally → Type 0
JoinsSpikes t u r = JoinsBy spike_tally t u r

module _ (s : Spikes) where
  -- the tally of one member more
  pub spikes_more : (from n : ℕ) (t u r : SpikeTally) → from ≤ n → n < 2 ^ 32 → JoinsSpikes t u r
      → t ≡ spike_tally (aftermaths_from s from (n - from)) → u ≡ spike_tally (aftermath_at s.spike s.text n ∷ [])
      → r ≡ spike_tally (aftermaths_from s from (n + 1 - from))
  spikes_more from n t u r low small joins before here =
      tally_by_one (aftermath_at s.spike s.text) spike_tally from n t u r low small joins before here

  -- the tally of the members up to another
  pub spikes_up : (from mid to : ℕ) (t u r : SpikeTally) → from ≤ mid → mid ≤ to → to < 2 ^ 32 → JoinsSpikes t u r
      → t ≡ spike_tally (aftermaths_from s from (mid - from)) → u ≡ spike_tally (aftermaths_from s mid (to - mid))
      → r ≡ spike_tally (aftermaths_from s from (to - from))
  spikes_up from mid to t u r low high small joins before here =
      tally_by_more (aftermath_at s.spike s.text) spike_tally from mid to t u r low high small joins before here

module _ (s : Spikes) (from to size : ℕ) where
  -- the tally of one part
  part_tally : (count w : ℕ) (answers : List (Result SpikeTally AllocError)) (d : Result SpikeTally AllocError) (u : SpikeTally)
      → AreSpikeTallies s from to size count answers → w < count → d ≡ get_or answers w d → d ≡ Ok u
      → u ≡ spike_tally (aftermaths_from s (part_start from to size w) (part_start from to size (w + 1) - part_start from to size w))
  part_tally count w answers d u parts within is ok =
      IfOk-at_ok (λ (tally : SpikeTally). tally ≡ spike_tally (aftermaths_from s (part_start from to size w) (part_start from to size (w + 1) - part_start from to size w)))
      (sym is ∙ ok) (parts.each w d within)

  -- the tally of the parts so far and one more
  pub parts_more : (count w : ℕ) (answers : List (Result SpikeTally AllocError)) (d : Result SpikeTally AllocError) (t u r : SpikeTally)
      → from ≤ to → to < 2 ^ 32 → AreSpikeTallies s from to size count answers → w < count → d ≡ get_or answers w d → d ≡ Ok u → JoinsSpikes t u r
      → t ≡ spike_tally (aftermaths_from s from (part_start from to size w - from))
      → r ≡ spike_tally (aftermaths_from s from (part_start from to size (w + 1) - from))
  parts_more count w answers d t u r low small parts within is ok joins before =
      tally_by_part (aftermath_at s.spike s.text) spike_tally from to size w t u r low small joins before (part_tally count w answers d u parts within is ok)

  -- after the last part it is that of all
  pub parts_all : (workers : ℕ) (t : SpikeTally) → from ≤ to → 0 < workers → size ≡ div_ceil (to - from) workers
      → t ≡ spike_tally (aftermaths_from s from (part_start from to size workers - from)) → t ≡ spike_tally (aftermaths_from s from (to - from))
  parts_all workers t low some is before = tally_of_parts (aftermath_at s.spike s.text) spike_tally from to size workers t low some is before
