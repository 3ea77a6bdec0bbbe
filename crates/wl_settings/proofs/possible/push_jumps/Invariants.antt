use Rattle.std.proofs.Common.{◌≡◌, ◌++◌, ◌-◌}
use Rattle.wl_settings.specs.Settings.{each_under, only}
use Rattle.wl_settings.proofs.possible.push_jumps.Given as goal

-- those so far come after the others
abbrev pub invariant-loop-narrower : goal.invariant-loop-narrower
invariant-loop-narrower l = l.all ≡ l.initial.all ++ each_under (λ narrower. only l.question.asked.now l.question.controller.now (record { prescaler = l.prescaler; parts = l.parts; sjw = l.question.controller.now.bounds.sjw - narrower })) l.narrower
