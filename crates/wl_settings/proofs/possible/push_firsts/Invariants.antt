use Rattle.std.proofs.Common.{◌≡◌, ◌++◌, ◌+◌}
use Rattle.wl_settings.specs.Settings.{each_under, by_second}
use Rattle.wl_settings.proofs.possible.push_firsts.Given as goal

-- those so far come after the others
abbrev pub invariant-loop-more : goal.invariant-loop-more
invariant-loop-more l = l.all ≡ l.initial.all ++ each_under (λ more. by_second l.question.asked.now l.question.controller.now l.prescaler l.prop (1 + more)) l.more
