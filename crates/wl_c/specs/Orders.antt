-- What a call asks for, by its numbers (this project's profile).
use Rattle.std.specs.Prelude.{ℕ, ◌/◌, ◌%◌, ◌==◌, ◌&&◌, nat_lt, Bool, not, if◌then◌else◌, Option, Some, None, option_map, option_and_then}
use Rattle.wl_lines.specs.declared.formats.Format.{Format}
use Rattle.wl_lines.specs.declared.formats.Format.TheVariants.{Json, Csv}
use Rattle.wl_formats.specs.declared.tables.Subject.{Subject}
use Rattle.wl_formats.specs.declared.tables.Subject.TheVariants as subject
use Rattle.wl_views.specs.declared.tick.TimeUnit.{TimeUnit}
use Rattle.wl_views.specs.declared.tick.TimeUnit.TheVariants.{Picosecond, Nanosecond, Microsecond}
use Rattle.wl_views.specs.declared.tick.Tick.{Tick}
use Rattle.wl_c.specs.declared.asked.Asked.{Asked}
use Rattle.wl_c.specs.declared.asked.Order.{Order}
use Rattle.wl_c.specs.declared.asked.Task.{Task}
use Rattle.wl_c.specs.declared.asked.Task.TheVariants.{Run, Check, Explain, Margin, Traffic, Respond, Judge}

-- the command's name, if another format is made of its text; `respond` makes its formats itself
abbrev pub subject_name : Task → Option Subject
subject_name Run = Some subject.Run
subject_name Check = Some subject.Check
subject_name Explain = Some subject.Explain
subject_name (Margin tick all) = Some subject.Margin
subject_name (Traffic tick) = Some subject.Traffic
subject_name (Respond tick) = None
subject_name (Judge tick) = Some subject.Judge

-- the form of a number: text, JSON or CSV
abbrev pub format_of : ℕ → Option (Option Format)
format_of number = if number == 0 then Some None else if number == 1 then Some (Some Json) else if number == 2 then Some (Some Csv) else None

-- 0 is 1 ns
abbrev pub asked_picoseconds : ℕ → ℕ
asked_picoseconds number = if number == 0 then 1000 else number

-- how many of a unit, if that is whole and from 1 to 999
abbrev pub unit_count : ℕ → ℕ → Option ℕ
unit_count picoseconds unit =
    if picoseconds % unit == 0 && nat_lt 0 (picoseconds / unit) && nat_lt (picoseconds / unit) 1000 then Some (picoseconds / unit) else None

abbrev pub unit_tick : TimeUnit → Option ℕ → Option Tick
unit_tick unit count = option_map (λ n. record { count = n; unit = unit }) count

abbrev pub first_tick : {T : Type 0} → Option T → Option T → Option T
first_tick (Some x) other = Some x
first_tick None other = other

-- the tick of so many picoseconds, in the least unit of which it is 1 to 999
abbrev pub picosecond_tick : ℕ → Option Tick
picosecond_tick ps =
    first_tick (unit_tick Picosecond (unit_count ps 1))
    (first_tick (unit_tick Nanosecond (unit_count ps 1000)) (unit_tick Microsecond (unit_count ps 1000000)))

abbrev pub asked_tick : ℕ → Option Tick
asked_tick number = picosecond_tick (asked_picoseconds number)

-- who sends: the plan's senders, or all nodes that don't only listen
abbrev pub asks_all : Asked → Bool
asks_all asked = not (asked.all_send == 0)

abbrev pub margin_task : Asked → Option Task
margin_task asked = option_map (λ tick. Margin tick (asks_all asked)) (asked_tick asked.tick)

abbrev pub traffic_task : Asked → Option Task
traffic_task asked = option_map (λ tick. Traffic tick) (asked_tick asked.tick)

abbrev pub respond_task : Asked → Option Task
respond_task asked = option_map (λ tick. Respond tick) (asked_tick asked.tick)

abbrev pub judge_task : Asked → Option Task
judge_task asked = option_map (λ tick. Judge tick) (asked_tick asked.tick)

-- a task in the form that is asked for
abbrev pub order_in : Option Task → Asked → Option Order
order_in task asked = option_and_then (λ t. option_map (λ f. record { task = t; format = f }) (format_of asked.format)) task
