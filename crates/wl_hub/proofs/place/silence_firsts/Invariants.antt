use Rattle.std.proofs.Common.{◌≡◌, ℕ, ◌<◌, length}
use Rattle.std.specs.Prelude.{slice_index}
use Rattle.wl_hub.specs.Places.{first_word}
use Rattle.wl_hub.specs.Words.{silence_widths}
use Rattle.wl_hub.proofs.place.silence_firsts.Given as goal

-- the first words of the nodes so far
abbrev pub invariant-loop-node : goal.invariant-loop-node
invariant-loop-node l = (length l.firsts ≡ 256) × ((n : ℕ) → n < l.node → slice_index l.firsts n ≡ first_word (silence_widths l.shape) n)
