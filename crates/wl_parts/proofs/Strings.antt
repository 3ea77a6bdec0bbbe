-- Bytes within a string of JSON.
use Rattle.std.proofs.Common.{cond, ◌≡◌, ◌∙◌, ◌+◌, ◌/◌, ◌%◌, ◌<◌, ◌==◌, ℕ, Bool, true, false, List, [], ◌∷◌, ◌++◌, length, refl, sym, ap, arith}
use Rattle.std.specs.Prelude.{nat_lt}
use Rattle.std.proofs.lemmas.Bool.{eqb-true, false≢true, lt-ltb, ltb-true}
use Rattle.std.proofs.lemmas.List.{append_assoc, append-nil}
use Rattle.wl_lines.specs.Json.{escaped, escaped_byte, hexadecimal_digit}
use Rattle.wl_parts.specs.Reading.{is_quoted_end}

-- the first digit of a byte below a space
pub high_digit : (b : ℕ) → b < 32 → 48 + b / 16 ≡ hexadecimal_digit (b / 16)
high_digit b few = sym (ap (λ c. cond c (48 + b / 16) (87 + b / 16)) (lt-ltb (b / 16) 10 (omega (arith, few))))

-- the four forms of a byte
module _ (P : Type 0) (b : ℕ) (quote : b ≡ 34 → escaped_byte b ≡ 92 ∷ 34 ∷ [] → P) (slash : b ≡ 92 → escaped_byte b ≡ 92 ∷ 92 ∷ [] → P)
    (control : b < 32 → escaped_byte b ≡ 92 ∷ 117 ∷ 48 ∷ 48 ∷ (48 + b / 16) ∷ hexadecimal_digit (b % 16) ∷ [] → P)
    (plain : (b == 34) ≡ false → (b == 92) ≡ false → escaped_byte b ≡ b ∷ [] → P) where
  by_control : (x : Bool) → nat_lt b 32 ≡ x → (b == 34) ≡ false → (b == 92) ≡ false → P
  by_control true e q s =
      control (ltb-true b 32 e)
      (ap (λ c. cond c (92 ∷ 34 ∷ []) (cond (b == 92) (92 ∷ 92 ∷ []) (cond (nat_lt b 32) (92 ∷ 117 ∷ 48 ∷ 48 ∷ (48 + b / 16) ∷ hexadecimal_digit (b % 16) ∷ []) (b ∷ [])))) q
      ∙ ap (λ c. cond c (92 ∷ 92 ∷ []) (cond (nat_lt b 32) (92 ∷ 117 ∷ 48 ∷ 48 ∷ (48 + b / 16) ∷ hexadecimal_digit (b % 16) ∷ []) (b ∷ []))) s
      ∙ ap (λ c. cond c (92 ∷ 117 ∷ 48 ∷ 48 ∷ (48 + b / 16) ∷ hexadecimal_digit (b % 16) ∷ []) (b ∷ [])) e)
  by_control false e q s =
      plain q s
      (ap (λ c. cond c (92 ∷ 34 ∷ []) (cond (b == 92) (92 ∷ 92 ∷ []) (cond (nat_lt b 32) (92 ∷ 117 ∷ 48 ∷ 48 ∷ (48 + b / 16) ∷ hexadecimal_digit (b % 16) ∷ []) (b ∷ [])))) q
      ∙ ap (λ c. cond c (92 ∷ 92 ∷ []) (cond (nat_lt b 32) (92 ∷ 117 ∷ 48 ∷ 48 ∷ (48 + b / 16) ∷ hexadecimal_digit (b % 16) ∷ []) (b ∷ []))) s
      ∙ ap (λ c. cond c (92 ∷ 117 ∷ 48 ∷ 48 ∷ (48 + b / 16) ∷ hexadecimal_digit (b % 16) ∷ []) (b ∷ [])) e)

  by_slash : (x : Bool) → (b == 92) ≡ x → (b == 34) ≡ false → P
  by_slash true e q =
      slash (eqb-true b 92 e)
      (ap (λ c. cond c (92 ∷ 34 ∷ []) (cond (b == 92) (92 ∷ 92 ∷ []) (cond (nat_lt b 32) (92 ∷ 117 ∷ 48 ∷ 48 ∷ (48 + b / 16) ∷ hexadecimal_digit (b % 16) ∷ []) (b ∷ [])))) q
      ∙ ap (λ c. cond c (92 ∷ 92 ∷ []) (cond (nat_lt b 32) (92 ∷ 117 ∷ 48 ∷ 48 ∷ (48 + b / 16) ∷ hexadecimal_digit (b % 16) ∷ []) (b ∷ []))) e)
  by_slash false e q = by_control (nat_lt b 32) refl q e

  by_quote : (x : Bool) → (b == 34) ≡ x → P
  by_quote true e =
      quote (eqb-true b 34 e)
      (ap (λ c. cond c (92 ∷ 34 ∷ []) (cond (b == 92) (92 ∷ 92 ∷ []) (cond (nat_lt b 32) (92 ∷ 117 ∷ 48 ∷ 48 ∷ (48 + b / 16) ∷ hexadecimal_digit (b % 16) ∷ []) (b ∷ [])))) e)
  by_quote false e = by_slash (b == 92) refl e

  pub by_form : P
  by_form = by_quote (b == 34) refl

-- no byte of a string begins with a quotation mark
pub byte_begins : (b : ℕ) (rest : List ℕ) → is_quoted_end (escaped_byte b ++ rest) ≡ false
byte_begins b rest =
    by_form (is_quoted_end (escaped_byte b ++ rest) ≡ false) b
    (λ is form. ap (λ w. is_quoted_end (w ++ rest)) form)
    (λ is form. ap (λ w. is_quoted_end (w ++ rest)) form)
    (λ few form. ap (λ w. is_quoted_end (w ++ rest)) form)
    (λ other slash form. ap (λ w. is_quoted_end (w ++ rest)) form ∙ other)

-- of the bytes of a string those that are left have what is left
module _ (bs : List ℕ) (end : List ℕ) where
  abbrev pub LeftBytes : List ℕ → List ℕ → Type 0
  LeftBytes all rest = (left : List ℕ) × (all ++ left ≡ bs) × (rest ≡ escaped left ++ 34 ∷ end)

  one_more : (b : ℕ) (left : List ℕ) → escaped (b ∷ left) ++ 34 ∷ end ≡ escaped_byte b ++ (escaped left ++ 34 ∷ end)
  one_more b left = append_assoc (escaped_byte b) (escaped left) (34 ∷ end)

  step_by : (all rest more : List ℕ) (x : ℕ) → is_quoted_end rest ≡ false
      → ((b : ℕ) (r : List ℕ) → rest ≡ escaped_byte b ++ r → (x ≡ b) × (more ≡ r))
      → (left : List ℕ) → all ++ left ≡ bs → rest ≡ escaped left ++ 34 ∷ end → LeftBytes (all ++ x ∷ []) more
  step_by all rest more x some reads [] e is = absurd (false≢true (sym some ∙ ap is_quoted_end is))
  step_by all rest more x some reads (b ∷ left) e is =
      let got = reads b (escaped left ++ 34 ∷ end) (is ∙ one_more b left) in
      (left, append_assoc all (x ∷ []) left ∙ ap (λ y. all ++ y ∷ left) got.0 ∙ e, got.1)

  -- one byte more is read
  pub byte_step : (all rest more : List ℕ) (x : ℕ) → is_quoted_end rest ≡ false
      → ((b : ℕ) (r : List ℕ) → rest ≡ escaped_byte b ++ r → (x ≡ b) × (more ≡ r)) → LeftBytes all rest → LeftBytes (all ++ x ∷ []) more
  byte_step all rest more x some reads h = step_by all rest more x some reads h.0 h.1 h.2

  fail_by : (P : Type 0) (rest : List ℕ) → is_quoted_end rest ≡ false → ((b : ℕ) (r : List ℕ) → rest ≡ escaped_byte b ++ r → P)
      → (left : List ℕ) → rest ≡ escaped left ++ 34 ∷ end → P
  fail_by P rest some reads [] is = absurd (false≢true (sym some ∙ ap is_quoted_end is))
  fail_by P rest some reads (b ∷ left) is = reads b (escaped left ++ 34 ∷ end) (is ∙ one_more b left)

  -- or it isn't
  pub byte_fail : (P : Type 0) (all rest : List ℕ) → is_quoted_end rest ≡ false
      → ((b : ℕ) (r : List ℕ) → rest ≡ escaped_byte b ++ r → P) → LeftBytes all rest → P
  byte_fail P all rest some reads h = fail_by P rest some reads h.0 h.2

  end_by : (all rest : List ℕ) → is_quoted_end rest ≡ true → (left : List ℕ) → all ++ left ≡ bs → rest ≡ escaped left ++ 34 ∷ end
      → (all ≡ bs) × (rest ≡ 34 ∷ end)
  end_by all rest some [] e is = (sym (append-nil all) ∙ e, is)
  end_by all rest some (b ∷ left) e is =
      absurd (false≢true (sym (byte_begins b (escaped left ++ 34 ∷ end)) ∙ sym (ap is_quoted_end (is ∙ one_more b left)) ∙ some))

  -- at its end all are read
  pub bytes_end : (all rest : List ℕ) → is_quoted_end rest ≡ true → LeftBytes all rest → (all ≡ bs) × (rest ≡ 34 ∷ end)
  bytes_end all rest some h = end_by all rest some h.0 h.1 h.2
