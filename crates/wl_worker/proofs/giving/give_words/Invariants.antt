use Rattle.std.proofs.Common.{◌≡◌, take}
use Rattle.wl_hub.specs.Passes.{IsPassOf, pass_name, given_edges, given_silences}
use Rattle.wl_worker.specs.PlanName.{with_edges, with_silences}
use Rattle.wl_worker.proofs.giving.give_words.Given as goal

abbrev pub invariant-loop-i : goal.invariant-loop-i
invariant-loop-i l =
    IsPassOf l.hub l.pass × (pass_name l.pass ≡ pass_name l.fn.pass)
    × (given_edges l.pass ≡ with_edges (given_edges l.fn.pass) (take l.i l.records))
    × (given_silences l.pass ≡ with_silences (given_silences l.fn.pass) (take l.i l.records))
