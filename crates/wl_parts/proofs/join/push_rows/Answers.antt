use Rattle.std.proofs.Common.{◌≡◌, ◌∙◌, ◌++◌, ap, sym, arith, length, min, List, ℕ}
use Rattle.std.proofs.lemmas.List.{append-nil}
use Rattle.wl_parts.proofs.Ends.{no_lines}
use Rattle.wl_parts.proofs.join.push_rows.Goals as goal

pub returns : goal.returns
returns c =
    let words = c.args.words.now in
    let rows = c.args.rows.now in
    let text = c.loop-i.text.items in
    let last : c.loop-i.i ≡ min (length words) (length rows) = omega arith in
    sym (append-nil text) ∙ ap (λ (l : List ℕ). text ++ l) (sym (no_lines c.loop-i.i words rows last)) ∙ c.loop-i.invariant
