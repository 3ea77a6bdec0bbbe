use Rattle.std.proofs.Common.{◌++◌, codes, string_bytes}
use Rattle.std.specs.Fmt.{decimal}
use Rattle.wl_parts.specs.Lines.{unclean_words}
use Rattle.wl_parts.proofs.Growing.{three_pieces}
use Rattle.wl_parts.proofs.found.RowCounts.push_tally.Goals as goal

pub returns : goal.returns
returns c =
    let t = c.args.self in
    three_pieces (string_bytes c.args.text.now) (codes "clean in " ++ (decimal t.clean ++ (codes " of " ++ decimal t.runs)))
    (unclean_words (codes "too early") t.early) (unclean_words (codes "refused") t.refused)
    (string_bytes c.write.new.self) (string_bytes c.push_count.new.text) (string_bytes c.push_count-2.new.text)
    c.in_ok-write.ensures.bytes c.in_ok-push_count.ensures c.in_ok-push_count-2.ensures
