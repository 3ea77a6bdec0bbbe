use Rattle.std.proofs.Common.{◌≡◌, map}
use Rattle.std.specs.List.{range_with_len}
use Rattle.wl_sweep.specs.Words.{row_words}
use Rattle.wl_sweep.proofs.sweep.Sweep.words.Given as goal

abbrev pub invariant-loop-row : goal.invariant-loop-row
invariant-loop-row l = l.words ≡ map (λ row. row_words row l.self.ranges) (range_with_len 0 l.row)
