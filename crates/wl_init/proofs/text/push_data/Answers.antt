use Rattle.std.proofs.Common.{◌≡◌, ◌∙◌, ◌++◌, ap, codes, string_bytes, List, ℕ}
use Rattle.std.proofs.lemmas.Result.{IfOk-equal}
use Rattle.wl_init.specs.Texts.{data_lines, id_of, id_line, line_end, remarked_line}
use Rattle.wl_init.proofs.Chains.{after_all, chained}
use Rattle.wl_init.proofs.text.push_data.Goals as goal

pub returns : goal.returns
returns c =
    let old = string_bytes c.args.text.now in
    let w0 : List ℕ = remarked_line c.args.i (codes "\n[[node.frame]]") (codes "a message of the node, which may have several") in
    let w1 : List ℕ = id_line (id_of c.args.i) in
    let w2 : List ℕ = line_end c.args.i (codes "identifier: of two the lesser goes first") in
    let w3 : List ℕ = remarked_line c.args.i (codes "dlc = 8") (codes "data length code: the number of bytes") in
    let w4 : List ℕ = remarked_line c.args.i (codes "bytes = [1, 2, 3, 4, 5, 6, 7, 8]") (codes "the data") in
    let h0 = c.in_ok-push_line.ensures in
    let h1 = chained old (string_bytes c.push_line.new.text) (string_bytes c.push_id.new.text) (w0) w1 h0 (c.in_ok-push_id.ensures ∙ ap (λ n. string_bytes c.push_line.new.text ++ id_line n) c.id_of.ensures) in
    let h2 = chained old (string_bytes c.push_id.new.text) (string_bytes c.push_end.new.text) (w0 ++ w1) w2 h1 c.in_ok-push_end.ensures in
    let h3 = chained old (string_bytes c.push_end.new.text) (string_bytes c.push_line-2.new.text) (w0 ++ w1 ++ w2) w3 h2 c.in_ok-push_line-2.ensures in
    IfOk-equal c.push_line-3.result (string_bytes c.push_line-3.new.text) (string_bytes c.push_line-2.new.text ++ w4) (old ++ (data_lines c.args.i))
    c.push_line-3.ensures (after_all old (string_bytes c.push_line-2.new.text) (w0 ++ w1 ++ w2 ++ w3) w4 h3)
