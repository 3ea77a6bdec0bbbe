-- What is written for a wish, or why nothing is (this project's profile).
use Rattle.std.specs.Prelude.{ℕ, zero, suc, ◌+◌, ◌-◌, ◌*◌, ◌%◌, ◌==◌, ◌&&◌, nat_le, Bool, List, [], ◌∷◌, Option, Some, None, is_some, unwrap_or, map, if◌then◌else◌, slice_get, Result, Ok, Err}
use Rattle.std.specs.List.{find}
use Rattle.wl_kinds.specs.declared.kinds.ControllerKind.{ControllerKind}
use Rattle.wl_kinds.specs.declared.kinds.TheConstants.{KINDS}
use Rattle.wl_init.specs.declared.bits.BitSetting.{BitSetting}
use Rattle.wl_init.specs.declared.bits.TheConstants.{CLOCKS}
use Rattle.wl_init.specs.declared.draft.Asked.{Asked}
use Rattle.wl_init.specs.declared.draft.Controller.{Controller}
use Rattle.wl_init.specs.declared.draft.Draft.{Draft}
use Rattle.wl_init.specs.declared.draft.TheConstants.{BITS_OF_FRAME, CYCLES, LONGEST_CYCLE, MEGAHERTZ}
use Rattle.wl_init.specs.declared.fault.InitFault.{InitFault}
use Rattle.wl_init.specs.declared.fault.InitFault.TheVariants as fault
use Rattle.wl_init.specs.declared.wish.TheConstants.{LEAST_RATE, MOST_RATE}
use Rattle.wl_init.specs.declared.wish.Wish.{Wish}
use Rattle.wl_init.specs.Bits.{longest_for, or_first, setting_for}

-- of kinds and of names that of a number, from 0
abbrev pub kind_numbered : List ControllerKind → ℕ → Option ControllerKind
kind_numbered [] n = None
kind_numbered (x ∷ xs) zero = Some x
kind_numbered (x ∷ xs) (suc n) = kind_numbered xs n

abbrev pub name_numbered : List (List ℕ) → ℕ → List ℕ
name_numbered [] n = []
name_numbered (x ∷ xs) zero = x
name_numbered (x ∷ xs) (suc n) = name_numbered xs n

-- the kind of a number, its name and its clock
abbrev pub kind_at : ℕ → Option ControllerKind
kind_at number = kind_numbered (map (λ k. k.1) KINDS) number

unfoldable pub kind_word : ℕ → List ℕ
kind_word number = name_numbered (map (λ k. k.0.now) KINDS) number

abbrev pub clock_at : ℕ → Option ℕ
clock_at number = slice_get CLOCKS number

abbrev pub controller_with : Option ControllerKind → Option ℕ → Option Controller
controller_with (Some kind) (Some clock) = Some (record { kind = kind; clock = clock })
controller_with _ _ = None

abbrev pub controller_at : ℕ → Option Controller
controller_at number = controller_with (kind_at number) (clock_at number)

-- a cycle of whole bits, with which so many frames load a bus at 30 % at most
abbrev pub cycle_fits : (nodes rate cycle : ℕ) → Bool
cycle_fits nodes rate cycle = ((rate * cycle) % 1000 == 0) && nat_le (nodes * BITS_OF_FRAME) (rate * cycle)

abbrev pub cycle_among : (nodes rate : ℕ) → List ℕ → ℕ
cycle_among nodes rate cycles = unwrap_or (find (cycle_fits nodes rate) cycles) LONGEST_CYCLE

abbrev pub cycle_for : (nodes rate : ℕ) → ℕ
cycle_for nodes rate = cycle_among nodes rate CYCLES

-- the setting of a controller for a bit rate
abbrev pub setting_at : Controller → ℕ → Option BitSetting
setting_at c rate = setting_for c.kind (c.clock * MEGAHERTZ) rate

unfoldable pub has_setting : Controller → ℕ → Bool
has_setting c rate = nat_le LEAST_RATE rate && nat_le rate MOST_RATE && is_some (setting_at c rate)

-- a number if it passes, and else another
abbrev pub later : Bool → ℕ → Option ℕ → Option ℕ
later passes n found = if passes then Some n else found

-- the greatest number below one that passes
abbrev pub last_below : (ℕ → Bool) → ℕ → Option ℕ
last_below passes zero = None
last_below passes (suc n) = later (passes n) n (last_below passes n)

-- the least number from one on that passes, of so many
abbrev pub first_passing : (ℕ → Bool) → (first count : ℕ) → Option ℕ
first_passing passes first zero = None
first_passing passes first (suc n) = or_first (first_passing passes first n) (later (passes (first + n)) (first + n) None)

-- why there is no setting: the nearest bit rates below and above that have one
abbrev pub no_segments : Controller → ℕ → InitFault
no_segments c rate = fault.NoSegments (last_below (has_setting c) rate) (first_passing (has_setting c) rate (MOST_RATE + 1 - rate))

-- the draft, if the cable isn't too long
abbrev pub draft_within : Asked → ℕ → BitSetting → Result Draft InitFault
draft_within a clock setting =
    if nat_le a.cable (longest_for a.rate setting.shape)
    then Ok (record { asked = a; clock = clock; setting = setting; cycle = cycle_for a.nodes a.rate })
    else Err (fault.TooLong (longest_for a.rate setting.shape))

abbrev pub drawn_by : Asked → Controller → Option BitSetting → Result Draft InitFault
drawn_by a c None = Err (no_segments c a.rate)
drawn_by a c (Some setting) = draft_within a c.clock setting

abbrev pub drawn_with : Asked → Option Controller → Result Draft InitFault
drawn_with a None = Err fault.Kind
drawn_with a (Some c) = drawn_by a c (setting_at c a.rate)

abbrev pub draft_with : Asked → Result Draft InitFault
draft_with a = drawn_with a (controller_at a.kind)

-- what is asked for, or the first part that no text could be read as
abbrev pub asked_with : (nodes : ℕ) → (rate cable kind : Option ℕ) → Result Asked InitFault
asked_with nodes None cable kind = Err fault.Bitrate
asked_with nodes (Some rate) None kind = Err fault.Cable
asked_with nodes (Some rate) (Some cable) None = Err fault.Kind
asked_with nodes (Some rate) (Some cable) (Some kind) = Ok (record { nodes = nodes; rate = rate; cable = cable; kind = kind })

abbrev pub wish_asked : Wish → Result Asked InitFault
wish_asked w = asked_with w.nodes w.rate w.cable w.kind

-- the draft of a wish, or why there is none
abbrev pub drafted : Result Asked InitFault → Result Draft InitFault
drafted (Ok a) = draft_with a
drafted (Err f) = Err f

abbrev pub draft_of : Wish → Result Draft InitFault
draft_of w = drafted (wish_asked w)
