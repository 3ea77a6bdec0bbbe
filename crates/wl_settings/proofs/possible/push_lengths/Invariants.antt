use Rattle.std.proofs.Common.{◌≡◌, ◌++◌, ◌+◌}
use Rattle.wl_settings.specs.Settings.{each_under, by_length}
use Rattle.wl_settings.proofs.possible.push_lengths.Given as goal

-- those so far come after the others
abbrev pub invariant-loop-more : goal.invariant-loop-more
invariant-loop-more l = l.all ≡ l.initial.all ++ each_under (λ more. by_length l.question.asked.now l.question.controller.now l.prescaler (8 + more) l.most) l.more
