-- The text of a setting's plan is read as the plan.
use Rattle.std.proofs.Common.{◌≡◌, ◌∙◌, refl, sym, ap, Some, ℕ, ◌++◌, ◌∷◌, [], ◌<◌, ◌^◌, ◌&&◌, true, List, codes, arith, append_assoc, String, string_bytes, Ok}
use Rattle.std.proofs.lemmas.Bool.Decides.{nat_tests}
use Rattle.std.proofs.lemmas.Fmt.{decimal_is_IsNumeral}
use Rattle.std.proofs.lemmas.List.Folds.{list_all-append}
use Rattle.std.proofs.lemmas.Str.{IsUtf8-string_bytes, is_utf8-from_IsUtf8}
use Rattle.std.specs.Fmt.{decimal}
use Rattle.std.specs.List.{list_all}
use Rattle.std.specs.Str.Parse.{AllDigits}
use Rattle.std.specs.Str.{is_utf8}
use Rattle.toml.specs.Data.{Members}
use Rattle.toml.specs.Parse.{parse_document}
use Rattle.toml_parser.specs.Lexical.{is_non_eol}
use Rattle.wl_print.specs.Printable.{PrintedAfterComment, is_printable}
use Rattle.wl_print.specs.Written.{plan_words}
use Rattle.wl_setup.specs.declared.plan_text.PlanText.{PlanText}
use Rattle.wl_setup.specs.Document.{plan_text_of}
use Rattle.wl_setup.specs.Kinds.{is_name_letter}
use Rattle.wl_setup.specs.Reading.{text_answer}
use Rattle.wl_settings.specs.declared.asked.Controller.{Controller}
use Rattle.wl_settings.specs.declared.asked.Setting.{Setting}
use Rattle.wl_settings.specs.Plans.{text_of_title}

-- nothing in the comment ends its line
digits_stay : (ds : List ℕ) → AllDigits 10 ds → list_all is_non_eol ds ≡ true
digits_stay [] all = refl
digits_stay (c ∷ cs) all =
    let here : is_non_eol c ≡ true = grind (arith, nat_tests) in
    ap (λ b. b && list_all is_non_eol cs) here ∙ digits_stay cs all.1

number_stays : (n : ℕ) → n < 2 ^ 64 → list_all is_non_eol (decimal n) ≡ true
number_stays n small = digits_stay (decimal n) (decimal_is_IsNumeral n small).0.1

name_stays : (cs : List ℕ) → list_all is_name_letter cs ≡ true → list_all is_non_eol cs ≡ true
name_stays [] all = refl
name_stays (c ∷ cs) all =
    let here : is_non_eol c ≡ true = grind (arith, nat_tests) in
    let later : list_all is_name_letter cs ≡ true = grind (arith, nat_tests) in
    ap (λ b. b && list_all is_non_eol cs) here ∙ name_stays cs later

both_stay : (xs ys : List ℕ) → list_all is_non_eol xs ≡ true → list_all is_non_eol ys ≡ true → list_all is_non_eol (xs ++ ys) ≡ true
both_stay xs ys one other = list_all-append is_non_eol xs ys ∙ rw (one, other) refl

abbrev comment_of : Controller → Setting → List ℕ
comment_of c s = codes " " ++ (c.name ++ (codes ", clock " ++ (decimal c.clock ++ (codes " Hz, prescaler " ++ decimal s.prescaler))))

comment_stays : (c : Controller) (s : Setting) → list_all is_name_letter c.name ≡ true → c.clock < 2 ^ 64 → s.prescaler < 2 ^ 64
    → list_all is_non_eol (comment_of c s) ≡ true
comment_stays c s name clock prescaler =
    let last : list_all is_non_eol (codes " Hz, prescaler " ++ decimal s.prescaler) ≡ true =
    both_stay (codes " Hz, prescaler ") (decimal s.prescaler) refl (number_stays s.prescaler prescaler) in
    let numbers : list_all is_non_eol (decimal c.clock ++ (codes " Hz, prescaler " ++ decimal s.prescaler)) ≡ true =
    both_stay (decimal c.clock) (codes " Hz, prescaler " ++ decimal s.prescaler) (number_stays c.clock clock) last in
    both_stay c.name (codes ", clock " ++ (decimal c.clock ++ (codes " Hz, prescaler " ++ decimal s.prescaler))) (name_stays c.name name)
    (both_stay (codes ", clock ") (decimal c.clock ++ (codes " Hz, prescaler " ++ decimal s.prescaler)) refl numbers)

-- the comment and the plan after it
moved : (xs ys zs us vs : List ℕ) → ys ++ us ≡ zs ++ vs → (xs ++ ys) ++ us ≡ (xs ++ zs) ++ vs
moved xs ys zs us vs e = append_assoc xs ys us ∙ ap (λ l. xs ++ l) e ∙ sym (append_assoc xs zs vs)

parted : (c : Controller) (s : Setting) (plan : List ℕ) → text_of_title c s ++ plan ≡ codes "#" ++ (comment_of c s ++ (codes "\n" ++ plan))
unfolding text_of_title
parted c s plan =
    ap (λ (l : List ℕ). 35 ∷ 32 ∷ l)
    (moved c.name _ _ plan (codes "\n" ++ plan)
    (moved (codes ", clock ") _ _ plan (codes "\n" ++ plan)
    (moved (decimal c.clock) _ _ plan (codes "\n" ++ plan)
    (moved (codes " Hz, prescaler ") (decimal s.prescaler ++ codes "\n") (decimal s.prescaler) plan (codes "\n" ++ plan)
    (append_assoc (decimal s.prescaler) (codes "\n") plan)))))

read_by : (p : PlanText) (text : List ℕ) (top : Members) → is_utf8 text ≡ true → parse_document text ≡ Some top → plan_text_of top ≡ Ok p → text_answer text ≡ Ok p
read_by p text top utf8 parsed reads = rw (utf8, parsed) reads

pub title_is_passed_over : {Z : Type 0} (law : PrintedAfterComment) (c : Controller) (s : Setting) (p : PlanText) (text : String Z)
    → list_all is_name_letter c.name ≡ true → c.clock < 2 ^ 64 → s.prescaler < 2 ^ 64 → is_printable p ≡ true
    → string_bytes text ≡ text_of_title c s ++ plan_words p → text_answer (string_bytes text) ≡ Ok p
title_is_passed_over law c s p text name clock prescaler fine is =
    let (top, parsed, reads) = law p (comment_of c s) fine (comment_stays c s name clock prescaler) in
    read_by p (string_bytes text) top (is_utf8-from_IsUtf8 (string_bytes text) (IsUtf8-string_bytes text))
    (ap parse_document (is ∙ parted c s (plan_words p)) ∙ parsed) reads
