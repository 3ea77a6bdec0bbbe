-- Lines of records, from their end.
use Rattle.std.specs.Prelude.{◌≡◌, ℕ, ◌+◌, ◌<◌, ◌≤◌, List, [], ◌∷◌, ◌++◌, ◌-◌, length, take, drop, refl}
use Rattle.std.specs.Fmt.{decimal}
use Rattle.std.proofs.Common.{sym, ap, ◌∙◌, arith, append_assoc, get_or, take-append-drop, length-drop}
use Rattle.std.proofs.Math.Seq.{take-suc}
use Rattle.std.proofs.lemmas.Slice.{put_mid-paste}
use Rattle.std.proofs.lemmas.List.Edits.{take-paste}
use borrow.Rule.Slice.PartMut.{put_mid}
use Prim.Native.Nat.{suc}
use Rattle.std.proofs.lemmas.Fmt.{length-decimal-le}
use Rattle.std.proofs.lemmas.List.{append-nil, nil_from_length, take_all}
use Rattle.wl_record_core.specs.declared.record.Record.{Record}
use Rattle.wl_record_core.specs.declared.record.Record.TheVariants.{Edge, Clash, Silence}
use Rattle.wl_record_core.specs.Text.{text_line, text_of}

pub byte_length : (n : ℕ) → n < 256 → length (decimal n) ≤ 3
byte_length n h = length-decimal-le 3 n (omega arith) (omega (arith, h)) (omega (arith, h))

pub word_length : (n : ℕ) → n < 4294967296 → length (decimal n) ≤ 10
word_length n h = length-decimal-le 10 n (omega arith) (omega (arith, h)) (omega (arith, h))

pub long_length : (n : ℕ) → n < 18446744073709551616 → length (decimal n) ≤ 20
long_length n h = length-decimal-le 20 n (omega arith) (omega (arith, h)) (omega (arith, h))

-- the parts of a line as they are put
pub line_of_edge : (a b k : ℕ) → text_line (Edge a b k) ≡ 69 ∷ (32 ∷ decimal a ++ (32 ∷ decimal b ++ (32 ∷ decimal k ++ 10 ∷ [])))
line_of_edge a b k = simp append_assoc

pub line_of_clash : (a b : ℕ) → text_line (Clash a b) ≡ 67 ∷ (32 ∷ decimal a ++ (32 ∷ decimal b ++ 10 ∷ []))
line_of_clash a b = simp append_assoc

pub line_of_silence : (a b k : ℕ) → text_line (Silence a b k) ≡ 83 ∷ (32 ∷ decimal a ++ (32 ∷ decimal b ++ (32 ∷ decimal k ++ 10 ∷ [])))
line_of_silence a b k = simp append_assoc

pub drop_whole : (n : ℕ) (xs : List ℕ) → length xs ≡ n → drop n xs ≡ []
drop_whole n xs e = nil_from_length (drop n xs) (omega (arith, length-drop n xs, e))

pub edge_line : (r : Record) (a b k : ℕ) (line one_on two_on new : List ℕ) → r ≡ Edge a b k → length line ≡ 40 → one_on ≡ 10 ∷ drop 40 line → two_on ≡ 32 ∷ decimal k ++ one_on
    → new ≡ 69 ∷ (32 ∷ decimal a ++ (32 ∷ decimal b ++ two_on)) → new ≡ text_line r
edge_line r a b k line one_on two_on new is len one two three =
    three ∙ (ap (λ z. 69 ∷ (32 ∷ decimal a ++ (32 ∷ decimal b ++ z))) (two ∙ ap (λ z. 32 ∷ decimal k ++ z) (one ∙ ap (λ z. 10 ∷ z) (drop_whole 40 line len))) ∙ (sym (line_of_edge a b k) ∙ ap text_line (sym is)))

pub silence_line : (r : Record) (a b k : ℕ) (line one_on two_on new : List ℕ) → r ≡ Silence a b k → length line ≡ 40 → one_on ≡ 10 ∷ drop 40 line → two_on ≡ 32 ∷ decimal k ++ one_on
    → new ≡ 83 ∷ (32 ∷ decimal a ++ (32 ∷ decimal b ++ two_on)) → new ≡ text_line r
silence_line r a b k line one_on two_on new is len one two three =
    three ∙ (ap (λ z. 83 ∷ (32 ∷ decimal a ++ (32 ∷ decimal b ++ z))) (two ∙ ap (λ z. 32 ∷ decimal k ++ z) (one ∙ ap (λ z. 10 ∷ z) (drop_whole 40 line len))) ∙ (sym (line_of_silence a b k) ∙ ap text_line (sym is)))

pub clash_line : (r : Record) (a b : ℕ) (line one_on new : List ℕ) → r ≡ Clash a b → length line ≡ 40 → one_on ≡ 10 ∷ drop 40 line
    → new ≡ 67 ∷ (32 ∷ decimal a ++ (32 ∷ decimal b ++ one_on)) → new ≡ text_line r
clash_line r a b line one_on new is len one three =
    three ∙ (ap (λ z. 67 ∷ (32 ∷ decimal a ++ (32 ∷ decimal b ++ z))) (one ∙ ap (λ z. 10 ∷ z) (drop_whole 40 line len)) ∙ (sym (line_of_clash a b) ∙ ap text_line (sym is)))

pub text_of-append : (rs qs : List Record) → text_of (rs ++ qs) ≡ text_of rs ++ text_of qs
text_of-append [] qs = refl
text_of-append (r ∷ rs) qs = ap (λ z. text_line r ++ z) (text_of-append rs qs) ∙ sym (append_assoc (text_line r) (text_of rs) (text_of qs))

-- the text of some records and of those that are left
pub text_of-cut : (n : ℕ) (rs : List Record) → text_of (take n rs) ++ text_of (drop n rs) ≡ text_of rs
text_of-cut n rs = sym (text_of-append (take n rs) (drop n rs)) ∙ ap text_of (take-append-drop n rs)

pub text_of-one : (n : ℕ) (rs : List Record) (d : Record) → n < length rs → text_of (take (n + 1) rs) ≡ text_of (take n rs) ++ text_line (get_or rs n d)
text_of-one n rs d within =
    let one : n + 1 ≡ suc n = omega arith in
    ap (λ z. text_of (take z rs)) one ∙ (ap text_of (take-suc rs n d within) ∙ (text_of-append (take n rs) (get_or rs n d ∷ []) ∙ ap (λ z. text_of (take n rs) ++ z) (append-nil (text_line (get_or rs n d)))))

-- a line put after the first bytes
pub put_behind : (a n : ℕ) (xs ys zs : List ℕ) (m : ℕ) → m ≡ a + n → a ≤ length xs → ys ≡ zs → length zs ≡ n → take m (put_mid a (a + n - a) xs ys) ≡ take a xs ++ zs
put_behind a n xs ys zs m em within is len =
    let count : n ≡ a + n - a = omega arith in
    (λ i. take (em i) (put_mid-paste a (a + n - a) xs ys zs n is count (sym len) i)) ∙ (take-paste xs a zs n within (omega (arith, len)) ∙ ap (λ z. take a xs ++ z) (take_all n zs (omega (arith, len))))
