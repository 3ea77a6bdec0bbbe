use Rattle.std.proofs.Common.{◌≡◌, drop}
use Rattle.wl_init.specs.Drafts.{cycle_among}
use Rattle.wl_init.proofs.draft.cycle_among.Given as goal

-- the cycle is among those that are left
abbrev pub invariant-loop-cycle : goal.invariant-loop-cycle
invariant-loop-cycle l = cycle_among l.nodes l.rate (drop l.cycle-index l.cycles) ≡ cycle_among l.nodes l.rate l.cycles
