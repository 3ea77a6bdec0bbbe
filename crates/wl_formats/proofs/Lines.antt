-- The first line of a text, and the others.
use Rattle.std.proofs.Common.{◌≡◌, ◌∙◌, refl, ap, arith, ℕ, ◌+◌, ◌-◌, ◌<◌, ◌≤◌, suc, Bool, true, false, List, [], ◌∷◌, length, take, drop, Some, None, nat_lt, cond}
use Rattle.std.specs.Prelude.{position}
use Rattle.std.specs.List.{position_or_len}
use Rattle.std.proofs.lemmas.Bool.{ltb-false}
use Rattle.std.proofs.lemmas.List.{length-drop, take_all}
use Rattle.std.proofs.lemmas.List.Sums.{prefix_len-le-length}
use Rattle.std.proofs.Math.ListN.{drop_of_length-le}
use Rattle.std.specs.Prelude.{not}
use Rattle.wl_formats.specs.Formats.{is_newline, grown, lines_of}

abbrev newline_or_len : List ℕ → ℕ
newline_or_len text = position_or_len is_newline text

-- a text without a newline is one line
pub without_newline : (text : List ℕ) → None ≡ position is_newline text → length text ≡ newline_or_len text
without_newline text none = go (nat_lt (newline_or_len text) (length text)) refl
  where
    go : (b : Bool) → nat_lt (newline_or_len text) (length text) ≡ b → length text ≡ newline_or_len text
    go false e = omega (arith, ltb-false _ _ e, prefix_len-le-length (λ byte. not (is_newline byte)) text)
    go true e =
        let no : None ≡ Some (newline_or_len text) = none ∙ ap (λ b. cond b (Some (newline_or_len text)) None) e in
        cc

-- a text has this line first
abbrev Begins : List ℕ → Type 0
Begins text = lines_of text ≡ take (newline_or_len text) text ∷ lines_of (drop (newline_or_len text + 1) text)

one_more : (n byte : ℕ) (bytes : List ℕ)
    → (byte ∷ take n bytes) ∷ lines_of (drop (n + 1) bytes) ≡ take (1 + n) (byte ∷ bytes) ∷ lines_of (drop (1 + n + 1) (byte ∷ bytes))
one_more n byte bytes =
    let two : 1 + n + 1 ≡ suc (n + 1) = omega arith in
    let one : 1 + n ≡ suc n = omega arith in
    rw two
    rw one
    refl

line_grows : (byte : ℕ) (bytes : List ℕ) → (0 < length bytes → Begins bytes)
    → grown byte (lines_of bytes) ≡ take (1 + newline_or_len bytes) (byte ∷ bytes) ∷ lines_of (drop (1 + newline_or_len bytes + 1) (byte ∷ bytes))
line_grows byte [] later = refl
line_grows byte (b ∷ bytes) later = ap (grown byte) (later (omega arith)) ∙ one_more (newline_or_len (b ∷ bytes)) byte (b ∷ bytes)

by_newline : (byte : ℕ) (bytes : List ℕ) (b : Bool) → is_newline byte ≡ b → (0 < length bytes → Begins bytes) → Begins (byte ∷ bytes)
by_newline byte bytes true e later = rw e refl
by_newline byte bytes false e later = rw e (line_grows byte bytes later)

begins : (text : List ℕ) → 0 < length text → Begins text
begins [] h = let no : ⊥ = omega arith in absurd no
begins (byte ∷ bytes) h = by_newline byte bytes (is_newline byte) refl (begins bytes)

-- the first line and the others, as slices have them
pub others : (text : List ℕ) (n : ℕ) → 0 < length text → n ≡ newline_or_len text
    → lines_of text ≡ take n text ∷ lines_of (take (length text - (n + 1)) (drop (n + 1) text))
others text n h e =
    rw (take_all (length text - (n + 1)) (drop (n + 1) text) (omega (arith, length-drop (n + 1) text)))
    rw e
    (begins text h)

-- a text without a newline has no others
pub no_others : (text : List ℕ) (n : ℕ) → 0 < length text → n ≡ newline_or_len text → length text ≤ n → lines_of text ≡ take n text ∷ []
no_others text n h e most =
    let none : drop (newline_or_len text + 1) text ≡ [] = drop_of_length-le text (omega (arith, e, most)) in
    rw e
    (begins text h ∙ ap (λ rest. take (newline_or_len text) text ∷ lines_of rest) none)
