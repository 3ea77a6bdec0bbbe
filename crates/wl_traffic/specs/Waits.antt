-- How long frames waited, and how many at once (this project's profile).
use Rattle.std.specs.Prelude.{ℕ, ◌-◌, ◌&&◌, nat_le, nat_lt, min, max, Bool, true, false, List, [], ◌∷◌, count_by, fold, Option, Some, None, if◌then◌else◌}
use Rattle.std.specs.List.{flat_map}
use Rattle.wl_level.specs.declared.Level.{Level}
use Rattle.wl_clock.specs.Timing.{Timing, tick_of}
use Rattle.wl_views.specs.declared.tick.Tick.{Tick}
use Rattle.wl_views.specs.Ticks.{microseconds}
use Rattle.wl_traffic.specs.declared.entries.Entry.{Entry}

-- from the quantum at which a frame was ready to the one at which it was sent
abbrev pub quanta_by : ℕ → Option ℕ → List ℕ
quanta_by ready None = []
quanta_by ready (Some sent) = (sent - ready) ∷ []

abbrev pub quanta_waited : List Entry → List ℕ
quanta_waited mine = flat_map (λ e. quanta_by e.ready e.sent) mine

-- the same in whole microseconds, by the ticks at which the two begin; what was sent was ready
abbrev pub time_by : Tick → Timing → ℕ → Option ℕ → List ℕ
time_by tick clock ready None = []
time_by tick clock ready (Some sent) = microseconds tick (tick_of clock sent - tick_of clock (min ready sent)) ∷ []

abbrev pub time_waited : Tick → Timing → List Entry → List ℕ
time_waited tick clock mine = flat_map (λ e. time_by tick clock e.ready e.sent) mine

-- it wasn't sent yet: it waits up to the quantum at which it is sent, that one not
abbrev pub is_unsent_at : ℕ → Option ℕ → Bool
is_unsent_at t None = true
is_unsent_at t (Some sent) = nat_lt t sent

abbrev pub waits_at : ℕ → Entry → Bool
waits_at t e = nat_le e.ready t && is_unsent_at t e.sent

-- the quantum of a node's last sample
abbrev pub final_sample : List (ℕ × Level) → Option ℕ
final_sample samples = fold (λ last s. Some s.0) None samples

-- a frame became ready in time for some sample
abbrev pub is_in_time : Option ℕ → ℕ → Bool
is_in_time None ready = false
is_in_time (Some last) ready = nat_le ready last

abbrev pub more_waiting : List Entry → Option ℕ → ℕ → Entry → ℕ
more_waiting mine last most e = if is_in_time last e.ready then max most (count_by (waits_at e.ready) mine) else most

-- the greatest number that wait at once: more do only where one becomes ready
abbrev pub most_waiting : Option ℕ → List Entry → ℕ
most_waiting last mine = fold (more_waiting mine last) 0 mine
