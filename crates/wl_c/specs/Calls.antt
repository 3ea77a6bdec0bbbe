-- How a call ends: its status, the count of bytes, and the caller's buffer (this project's profile).
use Rattle.std.specs.Prelude.{◌≡◌, ◌<◌, ◌≤◌, ℕ, List, [], ◌∷◌, ◌++◌, drop, length, Option, Some, None}
use Rattle.wl_formats.specs.Formats.{formatted}
use Rattle.wl_lines.specs.declared.formats.Format.{Format}
use Rattle.wl_formats.specs.declared.tables.Subject.{Subject}
use Rattle.wl_c.specs.Orders.{subject_name}
use Rattle.wl_c.specs.Statuses.{status_code}
use Rattle.wl_c.specs.Texts.{Says}
use Rattle.wl_c.specs.declared.asked.Order.{Order}
use Rattle.wl_c.specs.declared.status.Status.{Status}
use Rattle.wl_c.specs.declared.status.Status.TheVariants.{Done, Refused, Asked, Memory, Room, Shape}

-- what is said, in its form; a refusal of which nothing is said is no byte in any form
abbrev pub IsInForm : Option Format → Option Subject → List ℕ → List ℕ → Type 0
IsInForm None subject said bytes = bytes ≡ said
IsInForm (Some format) None said bytes = bytes ≡ said
IsInForm (Some format) (Some subject) said bytes = formatted format subject said ≡ Some bytes

abbrev pub IsRefusalIn : Option Format → Option Subject → List ℕ → List ℕ → Type 0
IsRefusalIn format subject [] bytes = bytes ≡ []
IsRefusalIn format subject (byte ∷ said) bytes = IsInForm format subject (byte ∷ said) bytes

abbrev pub IsShownAs : Status → Option Format → Option Subject → List ℕ → List ℕ → Type 0
IsShownAs Refused = IsRefusalIn
IsShownAs _ = IsInForm

-- a line of what is said has no other form
abbrev pub HasNoForm : Option Format → Option Subject → List ℕ → Type 0
HasNoForm None subject said = ⊥
HasNoForm (Some format) None said = ⊥
HasNoForm (Some format) (Some subject) said = formatted format subject said ≡ None

-- why what is said isn't shown in an order's form
abbrev pub FailsToShow : Order → List ℕ → Status → Type 0
FailsToShow order said Memory = Unit {0}
FailsToShow order said Shape = HasNoForm order.format (subject_name order.task) said
FailsToShow order said _ = ⊥

module _ (order : Order) (text : List ℕ) where
  -- these bytes are the whole of what is to be written, with this status
  abbrev pub IsWhole : Status → List ℕ → Type 0
  IsWhole status bytes =
      (said : List ℕ) × Says text order.format order.task status said × IsShownAs status order.format (subject_name order.task) said bytes

  abbrev pub IsShapeless : Type 0
  IsShapeless = (status : Status) × (said : List ℕ) × Says text order.format order.task status said × HasNoForm order.format (subject_name order.task) said

module _ (out out' : List ℕ) (needed : ℕ) where
  -- nothing was written
  abbrev pub IsUntouched : Type 0
  IsUntouched = (needed ≡ 0) × (out' ≡ out)

  -- the bytes are at the front of the buffer, and the rest of it is as before
  abbrev pub Holds : List ℕ → Type 0
  Holds bytes = (needed ≡ length bytes) × (length bytes ≤ length out) × (out' ≡ bytes ++ drop (length bytes) out)

  -- the bytes don't fit, and how many there are is said
  abbrev pub IsTooSmall : List ℕ → Type 0
  IsTooSmall bytes = (needed ≡ length bytes) × (length out < length bytes) × (out' ≡ out)

  -- the bytes were put there, with this status, or don't fit
  abbrev pub Puts : Status → List ℕ → Status → Type 0
  Puts whole bytes status =
      (length bytes ≤ length out → (status ≡ whole) × Holds bytes) × (length out < length bytes → (status ≡ Room) × IsTooSmall bytes)

  module _ (text : List ℕ) where
    -- how the call of an order ended, by its status
    abbrev pub EndsOrder : Order → Status → Type 0
    EndsOrder order Done = (bytes : List ℕ) × IsWhole order text Done bytes × Holds bytes
    EndsOrder order Refused = (bytes : List ℕ) × IsWhole order text Refused bytes × Holds bytes
    EndsOrder order Room = (status : Status) × (bytes : List ℕ) × IsWhole order text status bytes × IsTooSmall bytes
    EndsOrder order Memory = IsUntouched
    EndsOrder order Shape = IsShapeless order text × IsUntouched
    EndsOrder order Asked = ⊥

    -- there is no such order, or the order's call ended so
    abbrev pub Ends : Option Order → Status → Type 0
    Ends None status = (status ≡ Asked) × IsUntouched
    Ends (Some order) status = EndsOrder order status

-- what a call leaves: its status as a number, how many bytes there are, and the buffer
abbrev pub EndsCall : Option Order → (text : List ℕ) → (out out' : List ℕ) → (needed : ℕ) → (code : ℕ) → Type 0
EndsCall order text out out' needed code = (status : Status) × (code ≡ status_code status) × Ends out out' needed text order status
