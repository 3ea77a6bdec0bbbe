-- The text of a part, and what comes after it.
use Rattle.std.proofs.Common.{◌≡◌, ◌∙◌, ◌+◌, ◌<◌, ℕ, List, [], ◌∷◌, ◌++◌, length, codes, Option, Some, None, refl, sym, ap, arith, length-append}
use Rattle.std.specs.Fmt.{decimal}
use Rattle.std.proofs.lemmas.List.{append_assoc, append-nil}
use Rattle.wl_lines.specs.Json.{escaped}
use Rattle.wl_parts.specs.declared.found.RowCounts.{RowCounts}
use Rattle.wl_parts.specs.declared.found.FirstMember.{FirstMember}
use Rattle.wl_parts.specs.declared.found.Findings.{Findings}
use Rattle.wl_parts.specs.declared.part.SweepPart.{SweepPart}
use Rattle.std.specs.List.{AllByRecursion}
use Rattle.wl_parts.specs.Text.{PartFits, bytes_words, row_counts_words, each_words, first_words, found_words, list_words, numbered_words, number_words, part_text, part_words, parts_text, sweep_words, word_words}

-- words whose own part doesn't depend on what comes after them
abbrev IsWords : (List ℕ → List ℕ) → Type 0
IsWords words = (rest : List ℕ) → words rest ≡ words [] ++ rest

literal : (w : List ℕ) → IsWords (λ rest. w ++ rest)
literal w rest = ap (λ l. l ++ rest) (sym (append-nil w))

then : (f g : List ℕ → List ℕ) → IsWords f → IsWords g → IsWords (λ rest. f (g rest))
then f g a b rest = a (g rest) ∙ ap (λ l. f [] ++ l) (b rest) ∙ sym (append_assoc (f []) (g []) rest) ∙ ap (λ l. l ++ rest) (sym (a (g [])))

number_is : (n last : ℕ) → IsWords (number_words n last)
number_is n last = then (λ rest. decimal n ++ rest) (λ rest. last ∷ rest) (literal (decimal n)) (literal (last ∷ []))

bytes_is : (bytes : List ℕ) → IsWords (bytes_words bytes)
bytes_is bytes =
    then (λ rest. 34 ∷ rest) (λ rest. escaped bytes ++ 34 ∷ rest) (literal (34 ∷ []))
    (then (λ rest. escaped bytes ++ rest) (λ rest. 34 ∷ rest) (literal (escaped bytes)) (literal (34 ∷ [])))

word_is : (word : List ℕ) → IsWords (word_words word)
word_is word = then (bytes_words word) (λ rest. 44 ∷ rest) (bytes_is word) (literal (44 ∷ []))

each_is : {T : Type 0} (words : T → List ℕ → List ℕ) → ((x : T) → IsWords (words x)) → (xs : List T) → IsWords (each_words words xs)
each_is words h [] rest = refl
each_is words h (x ∷ xs) rest = then (words x) (each_words words xs) (h x) (each_is words h xs) rest

list_is : {T : Type 0} (words : T → List ℕ → List ℕ) → ((x : T) → IsWords (words x)) → (xs : List T) → IsWords (list_words words xs)
list_is words h xs = then (number_words (length xs) 44) (each_words words xs) (number_is (length xs) 44) (each_is words h xs)

-- a number after some words
field_is : (w : List ℕ) (n last : ℕ) → IsWords (λ rest. w ++ number_words n last rest)
field_is w n last = then (λ rest. w ++ rest) (number_words n last) (literal w) (number_is n last)

counts_is : (c : RowCounts) → IsWords (row_counts_words c)
counts_is c =
    then (λ rest. codes "{\"runs\":" ++ number_words c.runs 44 rest)
    (λ rest. codes "\"clean\":" ++ number_words c.clean 44 (codes "\"early\":" ++ number_words c.early 44 (codes "\"refused\":" ++ number_words c.refused 125 (44 ∷ rest))))
    (field_is (codes "{\"runs\":") c.runs 44)
    (then (λ rest. codes "\"clean\":" ++ number_words c.clean 44 rest)
    (λ rest. codes "\"early\":" ++ number_words c.early 44 (codes "\"refused\":" ++ number_words c.refused 125 (44 ∷ rest)))
    (field_is (codes "\"clean\":") c.clean 44)
    (then (λ rest. codes "\"early\":" ++ number_words c.early 44 rest) (λ rest. codes "\"refused\":" ++ number_words c.refused 125 (44 ∷ rest))
    (field_is (codes "\"early\":") c.early 44)
    (then (λ rest. codes "\"refused\":" ++ number_words c.refused 125 rest) (λ rest. 44 ∷ rest)
    (field_is (codes "\"refused\":") c.refused 125) (literal (44 ∷ [])))))

numbered_is : (m : FirstMember) → IsWords (numbered_words m)
numbered_is m =
    then (λ rest. codes "{\"number\":" ++ number_words m.number 44 rest) (λ rest. codes "\"line\":" ++ bytes_words m.line (codes "}," ++ rest))
    (field_is (codes "{\"number\":") m.number 44)
    (then (λ rest. codes "\"line\":" ++ rest) (λ rest. bytes_words m.line (codes "}," ++ rest)) (literal (codes "\"line\":"))
    (then (bytes_words m.line) (λ rest. codes "}," ++ rest) (bytes_is m.line) (literal (codes "},"))))

first_is : (m : Option FirstMember) → IsWords (first_words m)
first_is None = number_is 0 44
first_is (Some m) = then (number_words 1 44) (numbered_words m) (number_is 1 44) (numbered_is m)

found_is : (f : Findings) → IsWords (found_words f)
found_is f =
    then (λ rest. codes ",\"rows\":[" ++ rest)
    (λ rest. list_words row_counts_words f.rows (codes "null],\"unclean\":[" ++ first_words f.unclean (codes "null],\"refused\":[" ++ first_words f.refused (codes "null]}\n" ++ rest))))
    (literal (codes ",\"rows\":["))
    (then (list_words row_counts_words f.rows)
    (λ rest. codes "null],\"unclean\":[" ++ first_words f.unclean (codes "null],\"refused\":[" ++ first_words f.refused (codes "null]}\n" ++ rest)))
    (list_is row_counts_words counts_is f.rows)
    (then (λ rest. codes "null],\"unclean\":[" ++ rest) (λ rest. first_words f.unclean (codes "null],\"refused\":[" ++ first_words f.refused (codes "null]}\n" ++ rest)))
    (literal (codes "null],\"unclean\":["))
    (then (first_words f.unclean) (λ rest. codes "null],\"refused\":[" ++ first_words f.refused (codes "null]}\n" ++ rest)) (first_is f.unclean)
    (then (λ rest. codes "null],\"refused\":[" ++ rest) (λ rest. first_words f.refused (codes "null]}\n" ++ rest)) (literal (codes "null],\"refused\":["))
    (then (first_words f.refused) (λ rest. codes "null]}\n" ++ rest) (first_is f.refused) (literal (codes "null]}\n")))))))

sweep_is : (p : SweepPart) → IsWords (sweep_words p)
sweep_is p =
    then (λ rest. codes "\"sweep\":" ++ rest)
    (λ rest. bytes_words p.of (codes ",\"words\":[" ++ list_words word_words p.words (codes "null],\"members\":" ++ bytes_words p.members (codes ",\"tail\":" ++ bytes_words p.tail rest))))
    (literal (codes "\"sweep\":"))
    (then (bytes_words p.of)
    (λ rest. codes ",\"words\":[" ++ list_words word_words p.words (codes "null],\"members\":" ++ bytes_words p.members (codes ",\"tail\":" ++ bytes_words p.tail rest)))
    (bytes_is p.of)
    (then (λ rest. codes ",\"words\":[" ++ rest) (λ rest. list_words word_words p.words (codes "null],\"members\":" ++ bytes_words p.members (codes ",\"tail\":" ++ bytes_words p.tail rest)))
    (literal (codes ",\"words\":["))
    (then (list_words word_words p.words) (λ rest. codes "null],\"members\":" ++ bytes_words p.members (codes ",\"tail\":" ++ bytes_words p.tail rest)) (list_is word_words word_is p.words)
    (then (λ rest. codes "null],\"members\":" ++ rest) (λ rest. bytes_words p.members (codes ",\"tail\":" ++ bytes_words p.tail rest)) (literal (codes "null],\"members\":"))
    (then (bytes_words p.members) (λ rest. codes ",\"tail\":" ++ bytes_words p.tail rest) (bytes_is p.members)
    (then (λ rest. codes ",\"tail\":" ++ rest) (bytes_words p.tail) (literal (codes ",\"tail\":")) (bytes_is p.tail)))))))

part_is : (p : SweepPart) → IsWords (part_words p)
part_is p =
    then (λ rest. codes "{\"part\":" ++ number_words p.number 44 rest) (λ rest. codes "\"of\":" ++ number_words p.count 44 (sweep_words p (found_words p.found rest)))
    (field_is (codes "{\"part\":") p.number 44)
    (then (λ rest. codes "\"of\":" ++ number_words p.count 44 rest) (λ rest. sweep_words p (found_words p.found rest))
    (field_is (codes "\"of\":") p.count 44)
    (then (sweep_words p) (found_words p.found) (sweep_is p) (found_is p.found)))

-- the text of a part, and those of others after it
pub parts_more : (p : SweepPart) (ps : List SweepPart) → parts_text (p ∷ ps) ≡ part_words p (parts_text ps)
unfolding part_text
parts_more p ps = sym (part_is p (parts_text ps))

-- a part has some text
pub part_longer : (p : SweepPart) (rest : List ℕ) → length rest < length (part_words p rest)
part_longer p rest =
    let more = number_words p.number 44 (codes "\"of\":" ++ number_words p.count 44 (sweep_words p (found_words p.found []))) in
    let own : length (part_words p []) ≡ length (codes "{\"part\":") + length more = length-append (codes "{\"part\":") more in
    let some : length (codes "{\"part\":") ≡ 8 = refl in
    let sum : length (part_words p [] ++ rest) ≡ length (part_words p []) + length rest = length-append (part_words p []) rest in
    let is : length (part_words p rest) ≡ length (part_words p [] ++ rest) = ap length (part_is p rest) in
    omega (arith, own, some, sum, is)

-- of parts whose text this is those that are left have what is left
abbrev pub LeftParts : List SweepPart → List SweepPart → List ℕ → Type 0
LeftParts ps parts rest = (left : List SweepPart) × (parts ++ left ≡ ps) × AllByRecursion PartFits left × (rest ≡ parts_text left)

step_by : (ps parts new : List SweepPart) (rest more : List ℕ) → (length rest ≡ 0 → ⊥)
    → ((p : SweepPart) (r : List ℕ) → PartFits p → rest ≡ part_words p r → (new ≡ parts ++ p ∷ []) × (more ≡ r))
    → (left : List SweepPart) → parts ++ left ≡ ps → AllByRecursion PartFits left → rest ≡ parts_text left → LeftParts ps new more
step_by ps parts new rest more some reads [] e fits is = absurd (some (ap length is))
step_by ps parts new rest more some reads (p ∷ left) e fits is =
    let got = reads p (parts_text left) fits.0 (is ∙ parts_more p left) in
    (left, ap (λ l. l ++ left) got.0 ∙ append_assoc parts (p ∷ []) left ∙ e, fits.1, got.1)

pub parts_step : (ps parts new : List SweepPart) (rest more : List ℕ) → (length rest ≡ 0 → ⊥)
    → ((p : SweepPart) (r : List ℕ) → PartFits p → rest ≡ part_words p r → (new ≡ parts ++ p ∷ []) × (more ≡ r))
    → LeftParts ps parts rest → LeftParts ps new more
parts_step ps parts new rest more some reads h = step_by ps parts new rest more some reads h.0 h.1 h.2 h.3

fail_by : (P : Type 0) (rest : List ℕ) → (length rest ≡ 0 → ⊥) → ((p : SweepPart) (r : List ℕ) → PartFits p → rest ≡ part_words p r → P)
    → (left : List SweepPart) → AllByRecursion PartFits left → rest ≡ parts_text left → P
fail_by P rest some reads [] fits is = absurd (some (ap length is))
fail_by P rest some reads (p ∷ left) fits is = reads p (parts_text left) fits.0 (is ∙ parts_more p left)

pub parts_fail : (P : Type 0) (ps parts : List SweepPart) (rest : List ℕ) → (length rest ≡ 0 → ⊥)
    → ((p : SweepPart) (r : List ℕ) → PartFits p → rest ≡ part_words p r → P) → LeftParts ps parts rest → P
parts_fail P ps parts rest some reads h = fail_by P rest some reads h.0 h.2 h.3

end_by : (ps parts : List SweepPart) (rest : List ℕ) → length rest ≡ 0 → (left : List SweepPart) → parts ++ left ≡ ps → rest ≡ parts_text left → parts ≡ ps
end_by ps parts rest none [] e is = sym (append-nil parts) ∙ e
end_by ps parts rest none (p ∷ left) e is =
    let more = part_longer p (parts_text left) in
    let same : length rest ≡ length (part_words p (parts_text left)) = ap length (is ∙ parts_more p left) in
    absurd (omega (arith, more, same, none))

-- if nothing is left all are read
pub parts_end : (ps parts : List SweepPart) (rest : List ℕ) → length rest ≡ 0 → LeftParts ps parts rest → parts ≡ ps
parts_end ps parts rest none h = end_by ps parts rest none h.0 h.1 h.3
