-- The faults of a sweep (this project's profile).
use Rattle.std.specs.Prelude.{ℕ, Bool, true, false}
use Rattle.wl_setup.specs.declared.fault.SetupFault.{SetupFault}
use Rattle.wl_setup.specs.declared.fault.SetupFault.TheVariants as setup
use Rattle.wl_sweep.specs.declared.vary.RangeFault.{RangeFault}
use Rattle.wl_sweep.specs.declared.vary.RangeFault.TheVariants as range
use Rattle.wl_sweep_engine.specs.declared.fault.SweepFault.{SweepFault}
use Rattle.wl_sweep_engine.specs.declared.fault.SweepFault.TheVariants as sweep

-- out of memory is a fault of the sweep, and all else the plan text's
abbrev pub of_setup : SetupFault → SweepFault
of_setup setup.Toml = sweep.Setup setup.Toml
of_setup setup.Version = sweep.Setup setup.Version
of_setup (setup.Missing k) = sweep.Setup (setup.Missing k)
of_setup (setup.Kind k) = sweep.Setup (setup.Kind k)
of_setup (setup.Unknown k) = sweep.Setup (setup.Unknown k)
of_setup setup.SameName = sweep.Setup setup.SameName
of_setup setup.Size = sweep.Setup setup.Size
of_setup (setup.NodeClock i f) = sweep.Setup (setup.NodeClock i f)
of_setup (setup.NodeSegments i f) = sweep.Setup (setup.NodeSegments i f)
of_setup (setup.NodeFrame i n f) = sweep.Setup (setup.NodeFrame i n f)
of_setup (setup.Topology f) = sweep.Setup (setup.Topology f)
of_setup (setup.Plan f) = sweep.Setup (setup.Plan f)
of_setup setup.Read = sweep.Setup setup.Read
of_setup setup.Memory = sweep.Memory

-- and all else the word's
abbrev pub of_range : ℕ → RangeFault → SweepFault
of_range i range.Form = sweep.Range i range.Form
of_range i range.Key = sweep.Range i range.Key
of_range i range.Node = sweep.Range i range.Node
of_range i range.Absent = sweep.Range i range.Absent
of_range i range.Bounds = sweep.Range i range.Bounds
of_range i range.Order = sweep.Range i range.Order
of_range i range.Step = sweep.Range i range.Step
of_range i range.Rows = sweep.Range i range.Rows
of_range i range.Memory = sweep.Memory

-- what was asked is refused, and not the plan as it stands
abbrev pub is_word : SweepFault → Bool
is_word sweep.Runs = true
is_word sweep.Step = true
is_word sweep.Workers = true
is_word (sweep.Range i fault) = true
is_word sweep.Rows = true
is_word sweep.Member = true
is_word sweep.Part = true
is_word (sweep.Spike fault) = true
is_word (sweep.Setup fault) = false
is_word sweep.Write = false
is_word sweep.Memory = false

-- the plan's text is refused for what it says
abbrev pub is_refusal : SweepFault → Bool
is_refusal (sweep.Setup setup.Read) = false
is_refusal (sweep.Setup setup.Memory) = false
is_refusal (sweep.Setup fault) = true
is_refusal fault = false
