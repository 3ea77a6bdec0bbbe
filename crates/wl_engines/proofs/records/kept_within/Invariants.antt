use Rattle.std.proofs.Common.{◌≡◌, take}
use Rattle.std.specs.List.{filter}
use Rattle.wl_engines.specs.Plans.{record_tick}
use Rattle.wl_views.specs.Windows.{is_within}
use Rattle.wl_engines.proofs.records.kept_within.Given as goal

-- those of the records so far
abbrev pub invariant-loop-told : goal.invariant-loop-told
invariant-loop-told l = l.kept.items ≡ filter (λ told. is_within l.window (record_tick told)) (take l.told-index l.records)
