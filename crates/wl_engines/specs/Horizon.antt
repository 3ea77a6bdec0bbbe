-- What the records of a text say of each node, and up to when, as text (this project's profile).
use Rattle.std.specs.Prelude.{◌==◌, ℕ, zero, suc, Bool, if◌then◌else◌, List, [], ◌++◌, codes, Result}
use Rattle.std.specs.List.{flat_map, list_any}
use Rattle.std.specs.Fmt.{decimal}
use Rattle.wl_limits.specs.declared.Limits.{Limits}
use Rattle.wl_record_core.specs.declared.record.Record.{Record}
use Rattle.wl_device.specs.declared.device.WriteFault.{WriteFault}
use Rattle.wl_device.specs.Devices.{Answer, Writes}
use Rattle.wl_record_core.specs.Limits.{record_nodes}
use Rattle.wl_record_core.specs.Slots.{node_of}
use Rattle.wl_record.specs.Reading.{RecordsOf}
use Rattle.wl_replica.specs.State.{State, slots_of}
use Rattle.wl_replica.specs.Canonical.{canonical}
use Rattle.wl_replica.specs.Known.{run_length, horizon, wave}
use Rattle.wl_engines.specs.declared.fault.RunFault.{RunFault}
use Rattle.wl_engines.specs.Ran.{Ran}
use Rattle.wl_engines.specs.Gather.{state_of_all, RefusesText}

-- a node's number, its run length and its horizon
abbrev pub horizon_line : ℕ → ℕ → ℕ → List ℕ
horizon_line i run tick = codes "H " ++ decimal i ++ codes " " ++ decimal run ++ codes " " ++ decimal tick ++ codes "\n"

-- an interval in which a node drives dominant
abbrev pub interval_line : ℕ → ℕ × ℕ → List ℕ
interval_line i p = codes "D " ++ decimal i ++ codes " " ++ decimal p.0 ++ codes " " ++ decimal p.1 ++ codes "\n"

-- some record of the list speaks of the node
abbrev pub is_named : List Record → ℕ → Bool
is_named rs i = list_any (λ r. node_of r == i) rs

-- the lines of a node, where it has a slot
abbrev pub horizon_lines : State → ℕ → List ℕ
horizon_lines s i =
    if is_named (canonical s) i
    then horizon_line i (run_length (slots_of s) i) (horizon (slots_of s) i) ++ flat_map (interval_line i) (wave (slots_of s) i)
    else []

-- the lines of the nodes below a number
abbrev pub lines_below : State → ℕ → List ℕ
lines_below s zero = []
lines_below s (suc n) = lines_below s n ++ horizon_lines s n

-- what the records of a text say
abbrev pub horizons_of : Limits → List Record → List ℕ
horizons_of limits rs = lines_below (state_of_all limits rs) (record_nodes limits)

module _ {S T : Type 0} (limits : Limits) (gives : S → Answer → S → Type 0) (takes : T → Answer → T → Type 0) (s s' : S) (t t' : T) where
  -- the text of the records of all that was read went out, as far as it went
  abbrev pub WritesHorizons : Result (Unit {0}) WriteFault → Type 0
  WritesHorizons r = (rs : List Record) × RecordsOf limits gives s rs s' × Writes takes t (horizons_of limits rs) r t'

  -- what a run of horizon did
  abbrev pub TellsHorizons : Result (Unit {0}) RunFault → Type 0
  TellsHorizons = Ran (RefusesText limits gives s s') WritesHorizons t t'
