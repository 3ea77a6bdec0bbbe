-- A document whose lines are those of some members is read as these members, each with its keys in order.
use Rattle.std.proofs.Common.{◌≡◌, ◌∙◌, refl, ℕ, suc, true, false, ◌==◌, List, [], ◌∷◌, ◌++◌, length, Option, Some, None, arith}
use Rattle.std.proofs.lemmas.Bool.{and_parts}
use Rattle.std.proofs.lemmas.Bool.Decides.{nat_tests}
use Rattle.std.proofs.lemmas.Option.{none-some, same_Some}
use Rattle.std.specs.List.{list_all}
use Rattle.toml_parser.specs.Lexical.{first, is_non_eol, skip_blank, skip_from}
use Rattle.toml.specs.Data.{Members}
use Rattle.toml.specs.Tables.{Nodes, no_nodes, Expression, Document, along_header}
use Rattle.toml.specs.Parse.{skip_bom, parse_document}
use Rattle.toml.specs.Text.{expressions}
use Rattle.toml.proofs.Turns.{document_some}
use Rattle.toml.proofs.ReadLines.{run}
use Rattle.toml.proofs.Fill.{roots, body_from, run_sections}
use Rattle.wl_print.proofs.Lines.{AreLines, read_lines}
use Rattle.wl_print.proofs.Sorted.{filled, is_proper, sorted}

not_bom : (es : List Expression) (text : List ℕ) → AreLines es text → (first text == 239) ≡ false
not_bom [] text h = rw h refl
not_bom (e ∷ es) text h =
    let (this, rest, whole, one, more) = h in
    rw whole (one rest).5

no_skip : (text : List ℕ) → (first text == 239) ≡ false → skip_bom text ≡ text
unfolding skip_bom
no_skip text h = rw h refl

from_roots : (o : Option Document) (n : Nodes) → roots o ≡ Some n → (doc : Document) × (o ≡ Some doc) × (doc.0 ≡ n)
from_roots None n e = absurd (none-some n e)
from_roots (Some doc) n e = (doc, refl, same_Some doc.0 n e)

pub read_document : (ms : Members) (text : List ℕ) → is_proper ms ≡ true → AreLines (expressions ms) text → parse_document text ≡ Some (sorted ms)
unfolding along_header
read_document ms text proper h =
    let es = expressions ms in
    let read = read_lines es text text (no_nodes, []) (suc (length text)) h refl (omega arith) in
    let skipped = no_skip text (not_bom es text h) in
    let (n, made, closed) = filled ms proper in
    let body = body_from ms [] no_nodes refl (λ root s there. run_sections ms [] root s there) in
    let (doc, ran, same) = from_roots (run (no_nodes, []) es) n (body ∙ made) in
    document_some text doc (rw skipped (read ∙ ran)) ∙ rw (same, closed)

-- ---- after a comment

plain_byte : (c : ℕ) → is_non_eol c ≡ true → ((c == 10) ≡ false) × ((c == 13) ≡ false)
plain_byte c h = (grind (arith, nat_tests), grind (arith, nat_tests))

comment_left : (cs text : List ℕ) → list_all is_non_eol cs ≡ true → skip_from true true (cs ++ (10 ∷ text)) ≡ skip_from true false text
unfolding skip_from
comment_left [] text all = refl
comment_left (c ∷ cs) text all =
    let (here, more) = and_parts (is_non_eol c) (list_all is_non_eol cs) all in
    let (feed, back) = plain_byte c here in
    rw (feed, back, here) (comment_left cs text more)

comment_skipped : (cs text : List ℕ) → list_all is_non_eol cs ≡ true → skip_blank (35 ∷ (cs ++ (10 ∷ text))) ≡ skip_blank text
unfolding skip_from
comment_skipped cs text all = comment_left cs text all

pub read_after : (ms : Members) (cs text : List ℕ) → is_proper ms ≡ true → AreLines (expressions ms) text → list_all is_non_eol cs ≡ true
    → parse_document (35 ∷ (cs ++ (10 ∷ text))) ≡ Some (sorted ms)
unfolding along_header
read_after ms cs text proper h all =
    let es = expressions ms in
    let x : List ℕ = 35 ∷ (cs ++ (10 ∷ text)) in
    let read = read_lines es text x (no_nodes, []) (suc (length x)) h (comment_skipped cs text all) (omega arith) in
    let skipped = no_skip x refl in
    let (n, made, closed) = filled ms proper in
    let body = body_from ms [] no_nodes refl (λ root s there. run_sections ms [] root s there) in
    let (doc, ran, same) = from_roots (run (no_nodes, []) es) n (body ∙ made) in
    document_some x doc (rw skipped (read ∙ ran)) ∙ rw (same, closed)
