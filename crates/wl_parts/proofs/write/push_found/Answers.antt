use Rattle.std.proofs.Common.{◌++◌, codes, subst, List, ℕ}
use Rattle.wl_parts.specs.declared.found.RowCounts.{RowCounts}
use Rattle.wl_parts.specs.Text.{AddsWords, first_words, list_words, row_counts_words}
use Rattle.wl_parts.proofs.Growing.{grown, grown_by}
use Rattle.wl_parts.proofs.write.push_found.Goals as goal

pub returns : goal.returns
returns c =
    let f = c.args.found.now in
    let t0 = c.args.text.now.items in
    let t1 = c.push.new.text.items in
    let t2 = c.push_rows.new.text.items in
    let t3 = c.push-2.new.text.items in
    let t4 = c.push_first.new.text.items in
    let t5 = c.push-3.new.text.items in
    let t6 = c.push_first-2.new.text.items in
    let t7 = c.push-4.new.text.items in
    let rows = codes ",\"rows\":[" in
    let unclean = codes "null],\"unclean\":[" in
    let refused = codes "null],\"refused\":[" in
    let end = codes "null]}\n" in
    let a = grown_by t0 t1 t2 (λ rest. rows ++ rest) (list_words row_counts_words f.rows) (grown t0 t1 rows c.in_ok-push.ensures)
    (subst (λ (l : List RowCounts). AddsWords t1 t2 (list_words row_counts_words l)) c.as_slice.ensures c.in_ok-push_rows.ensures) in
    let b = grown_by t0 t2 t3 (λ rest. rows ++ list_words row_counts_words f.rows rest) (λ rest. unclean ++ rest) a (grown t2 t3 unclean c.in_ok-push-2.ensures) in
    let d = grown_by t0 t3 t4 (λ rest. rows ++ list_words row_counts_words f.rows (unclean ++ rest)) (first_words f.unclean) b c.in_ok-push_first.ensures in
    let e = grown_by t0 t4 t5 (λ rest. rows ++ list_words row_counts_words f.rows (unclean ++ first_words f.unclean rest)) (λ rest. refused ++ rest) d (grown t4 t5 refused c.in_ok-push-3.ensures) in
    let g = grown_by t0 t5 t6 (λ rest. rows ++ list_words row_counts_words f.rows (unclean ++ first_words f.unclean (refused ++ rest))) (first_words f.refused) e c.in_ok-push_first-2.ensures in
    grown_by t0 t6 t7 (λ rest. rows ++ list_words row_counts_words f.rows (unclean ++ first_words f.unclean (refused ++ first_words f.refused rest))) (λ rest. end ++ rest)
    g (grown t6 t7 end c.in_ok-push-4.ensures)
