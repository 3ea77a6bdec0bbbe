-- The header of a frame, field by field.
use Rattle.std.proofs.Common.{◌≡◌, ◌∙◌, refl, sym, ap, ℕ, ◌/◌, ◌%◌, ◌^◌, List, [], ◌++◌, Bool, true, false}
use Rattle.wl_level.specs.declared.Level.{Level}
use Rattle.wl_level.specs.declared.Level.TheVariants.{Dominant, Recessive}
use Rattle.wl_frame.specs.Crc.{level_of_bit}
use Rattle.wl_frame.specs.Header.{number_bits, one_bit}
use Rattle.wl_longest.specs.declared.ending.Ending.{Ending}
use Rattle.wl_longest.specs.Longest.{ending_after, ending_from, head_ending, no_ending}
use Rattle.wl_longest.proofs.Walked.{ending_joined}

-- a field of one bit
flag_more : (e : Ending) (b : Bool) (more : List Level) → ending_from e (number_bits 1 (one_bit b) ++ more) ≡ ending_from (ending_after e (level_of_bit b)) more
unfolding number_bits
flag_more e true more = refl
flag_more e false more = refl

-- the data length code, with the bits before it
abbrev length_code : ℕ → List Level
length_code dlc = number_bits 4 dlc ++ []

abbrev control : ℕ → List Level
control dlc = number_bits 1 (one_bit false) ++ number_bits 1 (one_bit false) ++ length_code dlc

abbrev from_remote : Bool → ℕ → List Level
from_remote remote dlc = number_bits 1 (one_bit remote) ++ control dlc

abbrev ended : Ending → Bool → ℕ → Ending
ended e remote dlc = ending_from (ending_after (ending_after (ending_after e (level_of_bit remote)) Dominant) Dominant) (number_bits 4 dlc)

remote_ends : (e : Ending) (remote : Bool) (dlc : ℕ) → ending_from e (from_remote remote dlc) ≡ ended e remote dlc
unfolding number_bits
remote_ends e remote dlc =
    flag_more e remote (control dlc)
    ∙ flag_more (ending_after e (level_of_bit remote)) false (number_bits 1 (one_bit false) ++ length_code dlc)
    ∙ flag_more (ending_after (ending_after e (level_of_bit remote)) Dominant) false (length_code dlc)
    ∙ ending_joined (ending_after (ending_after (ending_after e (level_of_bit remote)) Dominant) Dominant) (number_bits 4 dlc) []

abbrev started : Ending
started = ending_after no_ending Dominant

base_ends : (id : ℕ) (remote : Bool) (dlc : ℕ) → ended (ending_from started (number_bits 11 id)) remote dlc ≡ head_ending false id remote dlc
unfolding head_ending number_bits
base_ends id remote dlc = sym (
    flag_more no_ending false (number_bits 11 id ++ from_remote remote dlc)
    ∙ ending_joined started (number_bits 11 id) (from_remote remote dlc)
    ∙ remote_ends (ending_from started (number_bits 11 id)) remote dlc
    )

-- an extended identifier has two recessive bits between its parts
module _ (id : ℕ) where
  abbrev first_part : Ending
  first_part = ending_from started (number_bits 11 (id / 2 ^ 18))

  abbrev second_part : Ending
  second_part = ending_from (ending_after (ending_after first_part Recessive) Recessive) (number_bits 18 (id % 2 ^ 18))

extended_ends : (id : ℕ) (remote : Bool) (dlc : ℕ) → ended (second_part id) remote dlc ≡ head_ending true id remote dlc
unfolding head_ending number_bits
extended_ends id remote dlc =
    let second : List Level = number_bits 18 (id % 2 ^ 18) ++ from_remote remote dlc in
    sym (
    flag_more no_ending false (number_bits 11 (id / 2 ^ 18) ++ number_bits 1 (one_bit true) ++ number_bits 1 (one_bit true) ++ second)
    ∙ ending_joined started (number_bits 11 (id / 2 ^ 18)) (number_bits 1 (one_bit true) ++ number_bits 1 (one_bit true) ++ second)
    ∙ flag_more (first_part id) true (number_bits 1 (one_bit true) ++ second)
    ∙ flag_more (ending_after (first_part id) Recessive) true second
    ∙ ending_joined (ending_after (ending_after (first_part id) Recessive) Recessive) (number_bits 18 (id % 2 ^ 18)) (from_remote remote dlc)
    ∙ remote_ends (second_part id) remote dlc
    )

pub base_head : (extended : Bool) (id : ℕ) (remote : Bool) (dlc : ℕ) → extended ≡ false
    → ended (ending_from started (number_bits 11 id)) remote dlc ≡ head_ending extended id remote dlc
base_head extended id remote dlc is = base_ends id remote dlc ∙ ap (λ e. head_ending e id remote dlc) (sym is)

pub extended_head : (extended : Bool) (id : ℕ) (remote : Bool) (dlc : ℕ) → extended ≡ true
    → ended (second_part id) remote dlc ≡ head_ending extended id remote dlc
extended_head extended id remote dlc is = extended_ends id remote dlc ∙ ap (λ e. head_ending e id remote dlc) (sym is)
