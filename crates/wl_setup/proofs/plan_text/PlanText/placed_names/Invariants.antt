use Rattle.std.proofs.Common.{drop}
use Rattle.wl_setup.specs.Names.{names_of}
use Rattle.wl_setup.proofs.NameLemmas.{IsPart}
use Rattle.wl_setup.proofs.plan_text.PlanText.placed_names.Given as goal

-- the names that are left follow on those in the set, and a repeat shows once they are put there
abbrev pub invariant-loop-node : goal.invariant-loop-node
invariant-loop-node l = IsPart l.names (drop l.node-index l.node-items) (names_of l.self)
