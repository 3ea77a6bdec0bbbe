-- The faults of a run (this project's profile).
use Rattle.std.specs.Prelude.{Bool, true, false}
use Rattle.wl_record.specs.declared.fault.TextFault.{TextFault}
use Rattle.wl_record.specs.declared.fault.TextFault.TheVariants as text
use Rattle.wl_setup.specs.declared.fault.SetupFault.{SetupFault}
use Rattle.wl_setup.specs.declared.fault.SetupFault.TheVariants as setup
use Rattle.wl_views.specs.declared.fault.ViewFault.{ViewFault}
use Rattle.wl_views.specs.declared.fault.ViewFault.TheVariants as views
use Rattle.wl_worker.specs.declared.link.Fault.{Fault}
use Rattle.wl_worker.specs.declared.link.Fault.TheVariants as work
use Rattle.wl_engines.specs.declared.fault.RunFault.{RunFault}
use Rattle.wl_engines.specs.declared.fault.RunFault.TheVariants as run

-- out of memory is a fault of the run, and all else the text's
abbrev pub of_text : TextFault → RunFault
of_text text.Memory = run.Memory
of_text (text.Line n) = run.Text (text.Line n)
of_text (text.Range n) = run.Text (text.Range n)
of_text text.Truncated = run.Text text.Truncated
of_text text.Read = run.Text text.Read
of_text (text.TooLong n) = run.Text (text.TooLong n)

-- out of memory is a fault of the run, and all else the plan text's
abbrev pub of_setup : SetupFault → RunFault
of_setup setup.Toml = run.Setup setup.Toml
of_setup setup.Version = run.Setup setup.Version
of_setup (setup.Missing k) = run.Setup (setup.Missing k)
of_setup (setup.Kind k) = run.Setup (setup.Kind k)
of_setup (setup.Unknown k) = run.Setup (setup.Unknown k)
of_setup setup.SameName = run.Setup setup.SameName
of_setup setup.Size = run.Setup setup.Size
of_setup (setup.NodeClock i f) = run.Setup (setup.NodeClock i f)
of_setup (setup.NodeSegments i f) = run.Setup (setup.NodeSegments i f)
of_setup (setup.NodeFrame i n f) = run.Setup (setup.NodeFrame i n f)
of_setup (setup.Topology f) = run.Setup (setup.Topology f)
of_setup (setup.Plan f) = run.Setup (setup.Plan f)
of_setup setup.Read = run.Setup setup.Read
of_setup setup.Memory = run.Memory

-- out of memory is a fault of the run, and all else the workers'
abbrev pub of_work : Fault → RunFault
of_work work.Memory = run.Memory
of_work work.Workers = run.Work work.Workers
of_work work.Foreign = run.Work work.Foreign
of_work (work.Worker w) = run.Work (work.Worker w)

-- a view that wasn't written whole
abbrev pub of_view : ViewFault → RunFault
of_view views.Write = run.Write
of_view views.Memory = run.Memory

-- the input is refused for what it says
abbrev pub is_refusal : RunFault → Bool
is_refusal (run.Text text.Read) = false
is_refusal (run.Text text.Memory) = false
is_refusal (run.Text fault) = true
is_refusal (run.Setup setup.Read) = false
is_refusal (run.Setup setup.Memory) = false
is_refusal (run.Setup fault) = true
is_refusal (run.Work fault) = false
is_refusal run.Write = false
is_refusal run.Memory = false
