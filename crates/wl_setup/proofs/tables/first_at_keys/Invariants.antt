use Rattle.std.proofs.Common.{◌≡◌, map, drop}
use Rattle.toml.specs.View.{table_view}
use Rattle.wl_setup.specs.Faults.{first_some, fault_at_key}
use Rattle.wl_setup.proofs.tables.first_at_keys.Given as goal

-- the first fault is among the keys that are left
abbrev pub invariant-loop-key : goal.invariant-loop-key
invariant-loop-key g l =
    first_some (map (fault_at_key g.K.TableKey.word g.K.TableKey.takes l.needed (table_view l.table)) (drop l.key-index l.keys))
    ≡ first_some (map (fault_at_key g.K.TableKey.word g.K.TableKey.takes l.needed (table_view l.table)) l.keys)
