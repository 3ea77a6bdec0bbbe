use Rattle.std.proofs.Common.{◌≡◌, map, not, find, string_bytes}
use Rattle.std.specs.BTreeMap.{keys}
use Rattle.wl_setup.specs.Faults.{is_of_table}
use Rattle.wl_setup.proofs.tables.unknown_key.Given as goal

-- the first unknown key is among the keys that are left
abbrev pub invariant-loop-key : goal.invariant-loop-key
invariant-loop-key g l =
    (goal.iterator-loop-key g).can_next l.key-iterator ×
    (goal.iterator-loop-key g).is_finite l.key-iterator ×
    find (λ text. not (is_of_table g.K.TableKey.word l.required l.optional text)) (map string_bytes l.key-iterator)
    ≡ find (λ text. not (is_of_table g.K.TableKey.word l.required l.optional text)) (map string_bytes (keys l.table))
