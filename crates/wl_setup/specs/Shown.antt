-- A text as a fault shows it, in one line (TOML 1.0, section String, escapes of basic strings).
use Rattle.std.specs.Prelude.{◌||◌, ◌&&◌, ◌==◌, ◌++◌, ◌/◌, ◌%◌, ℕ, Bool, true, if◌then◌else◌, List, codes, encode_utf8, nat_lt, nat_le}
use Rattle.std.specs.Fmt.{digits}
use Rattle.std.specs.List.{flat_map}
use Rattle.std.specs.Str.{chars}

abbrev is_between : ℕ → ℕ → ℕ → Bool
is_between first last c = nat_le first c && nat_le c last

-- the control characters: C0, DEL and C1 (ISO 6429)
abbrev pub is_control : ℕ → Bool
is_control c = nat_lt c 32 || is_between 127 159 c

-- the separators of lines and of paragraphs, and the marks of writing direction (Unicode Standard Annex 9, section 2)
abbrev pub is_direction : ℕ → Bool
is_direction c = c == 1564 || is_between 8206 8207 c || is_between 8232 8238 c || is_between 8294 8297 c

-- four hexadecimal digits
abbrev pub escape : ℕ → List ℕ
escape c =
    codes "\\u" ++ digits 16 true (c / 4096) ++ digits 16 true (c / 256 % 16) ++ digits 16 true (c / 16 % 16) ++ digits 16 true (c % 16)

-- what could steer a terminal by its escape, any other character as it is
abbrev pub shown_character : ℕ → List ℕ
shown_character c =
    if c == 8 then codes "\\b"
    else (if c == 9 then codes "\\t"
    else (if c == 10 then codes "\\n"
    else (if c == 12 then codes "\\f"
    else (if c == 13 then codes "\\r"
    else (if is_control c || is_direction c then escape c else encode_utf8 c)))))

abbrev pub shown : List ℕ → List ℕ
shown text = flat_map shown_character (chars text)
