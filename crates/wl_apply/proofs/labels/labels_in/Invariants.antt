use Rattle.std.proofs.Common.{◌≡◌, ◌++◌, map, drop}
use Rattle.toml.specs.View.{view, table_view}
use Rattle.wl_apply.specs.Labels.{labels_in}
use Rattle.wl_apply.proofs.labels.labels_in.Given as goal

abbrev pub invariant-loop-value : goal.invariant-loop-value
invariant-loop-value l = l.labels ++ labels_in (table_view l.top) (map view (drop l.value-index l.values)) ≡ labels_in (table_view l.top) (map view l.values)
