use Rattle.std.proofs.Common.{◌≡◌, ◌++◌, drop, string_bytes}
use Rattle.std.specs.List.{enumerate_from}
use Rattle.wl_sweep.specs.Words.{choices_words}
use Rattle.wl_sweep.proofs.text.push_choices.Given as goal

abbrev pub invariant-loop-i : goal.invariant-loop-i
invariant-loop-i l = string_bytes l.text ++ choices_words l.options l.step l.draws (enumerate_from l.i (drop l.i l.nodes)) ≡ string_bytes l.fn.text ++ choices_words l.options l.step l.initial.draws (enumerate_from 0 l.nodes)
