use Rattle.std.proofs.Common.{◌≡◌, drop}
use Rattle.wl_settings.specs.Rankings.{least_refusal}
use Rattle.wl_settings.proofs.Least.{merged}
use Rattle.wl_settings.proofs.listing.least_refusal.Given as goal

-- the least one of all is that of those so far and those that are left
abbrev pub invariant-loop-refusal : goal.invariant-loop-refusal
invariant-loop-refusal l = merged l.least (least_refusal (drop l.refusal-index l.refusals)) ≡ least_refusal l.refusals
