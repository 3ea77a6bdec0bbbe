use Rattle.std.proofs.Common.{rules, ◌≡◌, ◌∙◌, sym, map, find, not, Some, None, string_bytes}
use Rattle.std.specs.BTreeMap.{keys}
use Rattle.wl_setup.specs.Faults.{is_of_table}
use Rattle.wl_setup.proofs.UnknownLemmas.{least-of_table}
use Rattle.wl_setup.proofs.tables.unknown_key.Goals as goal

pub returns-then-not-is_among-2 : goal.returns-then-not-is_among-2
returns-then-not-is_among-2 g c =
    let first : Some c.as_str-text.result.now ≡ find (λ text. not (is_of_table g.K.TableKey.word c.args.required.now c.args.optional.now text)) (map string_bytes (keys c.args.table.now)) =
    (search rules) in
    first ∙ sym (least-of_table _ c.args.table.now.entries c.keys-key-items.ensures.ordered)

pub returns : goal.returns
returns g c =
    let none : None ≡ find (λ text. not (is_of_table g.K.TableKey.word c.args.required.now c.args.optional.now text)) (map string_bytes (keys c.args.table.now)) =
    (search rules) in
    none ∙ sym (least-of_table _ c.args.table.now.entries c.keys-key-items.ensures.ordered)
