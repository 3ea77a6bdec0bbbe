-- Reading a record text into a replica (this project's profile).
use Rattle.std.specs.Prelude.{◌≡◌, ◌≢◌, List, Result, Ok, Err}
use Rattle.wl_limits.specs.declared.Limits.{Limits}
use Rattle.wl_record_core.specs.declared.record.Record.{Record}
use Rattle.wl_record.specs.declared.fault.TextFault.TheVariants as text
use Rattle.wl_device.specs.Devices.{Answer}
use Rattle.wl_record_core.specs.Limits.{record_nodes}
use Rattle.wl_record.specs.Reading.{RecordsOf, FaultOf}
use Rattle.wl_replica.specs.State.{State, state_of}
use Rattle.wl_engines.specs.declared.fault.RunFault.{RunFault}
use Rattle.wl_engines.specs.declared.fault.RunFault.TheVariants as run

-- the state of records of any nodes that these limits allow
abbrev pub state_of_all : Limits → List Record → State
state_of_all limits rs = state_of (record_nodes limits) rs

module _ {S : Type 0} (limits : Limits) (gives : S → Answer → S → Type 0) (s s' : S) where
  -- the first fault of what the reader gave, which is not out of memory
  abbrev pub RefusesText : RunFault → Type 0
  RefusesText (run.Text fault) = (fault ≢ text.Memory) × FaultOf limits gives s fault s'
  RefusesText _ = ⊥

  -- the state of the records of all that the reader gave, or why there is none
  abbrev pub Gathers : Result State RunFault → Type 0
  Gathers (Ok state) = (rs : List Record) × RecordsOf limits gives s rs s' × (state ≡ state_of_all limits rs)
  Gathers (Err run.Memory) = Unit {0}
  Gathers (Err fault) = RefusesText fault
