use Rattle.std.proofs.Common.{◌≡◌, ◌++◌, ◌+◌}
use Rattle.wl_settings.specs.Settings.{each_under, by_jump}
use Rattle.wl_settings.specs.declared.parts.Parts.TheVariants.{Each}
use Rattle.wl_settings.proofs.possible.push_seconds.Given as goal

-- those so far come after the others
abbrev pub invariant-loop-more : goal.invariant-loop-more
invariant-loop-more l = l.all ≡ l.initial.all ++ each_under (λ more. by_jump l.question.asked.now l.question.controller.now l.prescaler (Each l.prop l.ps1 (2 + more))) l.more
