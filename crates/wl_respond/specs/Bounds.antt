-- How long the messages of a bus may wait, in numbers (this project's profile).
use Rattle.std.specs.Prelude.{◌≡◌, ℕ, ◌==◌, ◌||◌, not, is_some, Bool, false, List, length, map, Option, Some, None}
use Rattle.std.specs.List.{list_any}
use Rattle.wl_level.specs.Places.{first_place}
use Rattle.wl_setup.specs.declared.bus.Bus.{Bus}
use Rattle.wl_setup.specs.declared.plan_text.PlanText.{PlanText}
use Rattle.wl_bound.specs.BusTimes.{times_of}
use Rattle.wl_bound.specs.Families as families
use Rattle.wl_bound.specs.Oscillators.{Pace}
use Rattle.wl_bound.specs.Rooms.{plain_bus}
use Rattle.wl_margin.specs.Margins.{paces_of}
use Rattle.wl_respond.specs.declared.asked.Asked.{Asked}
use Rattle.wl_respond.specs.declared.bounds.Waits.{Waits}
use Rattle.wl_respond.specs.declared.message.MessageWait.{MessageWait}
use Rattle.wl_respond.specs.declared.parts.Line.{Line}
use Rattle.wl_respond.specs.Asks.{asked_of, has_no_period, message_in, once}
use Rattle.wl_respond.specs.Parts.{load_at_most, told_line}
use Rattle.wl_respond.specs.Premises.{FirstLack}
use Rattle.wl_respond.specs.Senders.{family_with_text}
use Rattle.wl_respond.specs.Tables.{IsTable}
use Rattle.wl_respond.specs.Tests.{pass, row_for}

-- what is said of each message; bounds are shown if they pass
abbrev pub lines_shown : ℕ → families.Bus → List ℕ → Bool → List Asked → List Line
lines_shown tick b windows shown asked = map (told_line tick b (times_of b) (map (row_for b (times_of b)) (map message_in asked)) windows shown) asked

abbrev pub has_bounds : families.Buses → List ℕ → List Asked → Bool
has_bounds f windows asked = pass (plain_bus f) (map message_in asked) windows

-- The waits of a bus with these messages and windows of their instances, and the first premise that lacks: none if all hold.
pub record AreWaits (tick : ℕ) (bus : Bus) (f : families.Buses) (windows : List ℕ) (asked : List Asked) (w : Waits) : Type 0 where
  pub asked_are : w.asked ≡ asked
  pub lines_are : w.lines ≡ lines_shown tick (plain_bus f) windows (has_bounds f windows asked) asked
  pub shown_is : w.shown ≡ has_bounds f windows asked
  pub jittered_is : w.jittered ≡ first_place (has_no_period asked) (length asked)
  pub load_is : w.load ≡ load_at_most (plain_bus f) (map message_in asked)
  pub first : FirstLack bus.deviations bus.plan f (map message_in asked) windows w.lacking

-- what the plan's text asks of the messages of a table, with their own data or any
abbrev pub asked_in : families.Buses → (any : Bool) → PlanText → List MessageWait → List Asked
asked_in f any plain table = map (asked_of (plain_bus f) any plain) table

-- They are of the table of the plan's messages, with bounds of each and windows of its instances.
abbrev pub AreWaitsFor : (tick : ℕ) → (any : Bool) → PlanText → Bus → families.Buses → Waits → Type 0
AreWaitsFor tick any plain bus f w =
    (table : List MessageWait) × (windows : List ℕ) × IsTable bus.plan plain table × AreWaits tick bus f windows (asked_in f any plain table) w

abbrev pub AreWaitsBy : ℕ → Bool → PlanText → Bus → Option (List Pace) → Option Waits → Type 0
AreWaitsBy tick any plain bus None found = found ≡ None
AreWaitsBy tick any plain bus (Some paces) found =
    (w : Waits) × (found ≡ Some w) × AreWaitsFor tick any plain bus (family_with_text bus.plan plain paces) w

-- the waits of a bus, for ticks of so many picoseconds; none if the rates without `ppm` make no clocks
abbrev pub AreWaitsOf : ℕ → Bool → PlanText → Bus → Option Waits → Type 0
AreWaitsOf tick any plain bus found = AreWaitsBy tick any plain bus (paces_of bus.deviations) found

-- a message comes again, or has a deadline
abbrev pub is_due : Asked → Bool
is_due a = is_some a.deadline || not (a.every == once)

-- The same with the plan's own data, if some message is due.
abbrev pub AreDueWaits : ℕ → PlanText → Bus → families.Buses → Option Waits → Type 0
AreDueWaits tick plain bus f None = (table : List MessageWait) × IsTable bus.plan plain table × (list_any is_due (asked_in f false plain table) ≡ false)
AreDueWaits tick plain bus f (Some w) = AreWaitsFor tick false plain bus f w

abbrev pub AreWaitsOfPaces : ℕ → PlanText → Bus → Option (List Pace) → Option Waits → Type 0
AreWaitsOfPaces tick plain bus None None = Unit {0}
AreWaitsOfPaces tick plain bus None (Some w) = ⊥
AreWaitsOfPaces tick plain bus (Some paces) waits = AreDueWaits tick plain bus (family_with_text bus.plan plain paces) waits

abbrev pub AreWaitsOfBus : ℕ → PlanText → Bus → Option Waits → Type 0
AreWaitsOfBus tick plain bus waits = AreWaitsOfPaces tick plain bus (paces_of bus.deviations) waits
