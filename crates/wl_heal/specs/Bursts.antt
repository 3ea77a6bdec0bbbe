-- Lists of bits that differ in few places in a row.
use Rattle.std.specs.Prelude.{◌≡◌, ◌≤◌, ℕ, List, ◌++◌, length}
use Rattle.wl_level.specs.declared.Level.{Level}

-- two lists are the same but for so many bits in a row at most; Bosch CAN 2.0 part A, section 9 (burst errors)
pub record DifferWithin (most : ℕ) (a b : List Level) : Type 0 where
  pub front : List Level
  pub here : List Level
  pub there : List Level
  pub rest : List Level
  pub a_is : a ≡ front ++ (here ++ rest)
  pub b_is : b ≡ front ++ (there ++ rest)
  pub same : length here ≡ length there
  pub short : length here ≤ most

-- how many bits in a row may be wrong, so that the CRC sequence of a frame is sure to be; Bosch CAN 2.0 part A, section 9
abbrev pub burst_bits : ℕ
burst_bits = 15
