use Rattle.std.proofs.Common.{take, string_bytes}
use Rattle.wl_settings.specs.Said.{GrowsBySaid}
use Rattle.wl_settings.proofs.said.push_each.Given as goal

-- what is found for the controllers so far comes after the text
abbrev pub invariant-loop-controller : goal.invariant-loop-controller
invariant-loop-controller l =
    GrowsBySaid l.asked l.best (take l.controller-index l.controllers) (string_bytes l.initial.text) (string_bytes l.text) l.all
