-- What is wrong at each fault of a plan's text, and what to change: the text at its name or its key in a table of the code
-- (this project's profile).
use Rattle.std.specs.Prelude.{ℕ, List, [], ◌∷◌, codes, if◌then◌else◌, map}
use Rattle.std.specs.Str.{bytes_eq}
use Rattle.wl_clock.specs.declared.ClockFault.{ClockFault}
use Rattle.wl_clock.specs.declared.ClockFault.TheVariants as clock
use Rattle.wl_segments.specs.declared.SegmentsFault.{SegmentsFault}
use Rattle.wl_segments.specs.declared.SegmentsFault.TheVariants as segments
use Rattle.wl_frame.specs.declared.frame.FrameFault.{FrameFault}
use Rattle.wl_frame.specs.declared.frame.FrameFault.TheVariants as frame
use Rattle.wl_topology.specs.declared.TopologyFault.{TopologyFault}
use Rattle.wl_topology.specs.declared.TopologyFault.TheVariants as topology
use Rattle.wl_plan.specs.declared.check.PlanFault.{PlanFault}
use Rattle.wl_plan.specs.declared.check.PlanFault.TheVariants as plan
use Rattle.wl_setup.specs.declared.fault.SetupFault.{SetupFault}
use Rattle.wl_setup.specs.declared.fault.SetupFault.TheVariants as fault
use Rattle.wl_explain.specs.declared.remedies.TheConstants.{CAUSES, CHANGES, CONTROLLER_CAUSES, CONTROLLER_CHANGES, KIND, KIND_OTHER, MISSING, MISSING_OTHER, UNKNOWN, UNKNOWN_OTHER, WIDE_CAUSES, WIDE_CHANGES, WIDE_KIND, WIDE_MISSING, WIDE_UNKNOWN}
use Rattle.wl_explain.specs.declared.remedies.TextForm.{TextForm}
use Rattle.wl_explain.specs.declared.remedies.TextForm.TheVariants as form

-- the text at a name in a table; another text where the table hasn't the name
abbrev pub listed : List (List ℕ × List ℕ) → List ℕ → List ℕ → List ℕ
listed [] name other = other
listed (row ∷ rows) name other = if bytes_eq name row.0 then row.1 else listed rows name other

-- the name of a fault, without its numbers and keys
abbrev pub clock_name : ClockFault → List ℕ
clock_name clock.BadPpm = codes "BadPpm"
clock_name clock.ZeroDen = codes "ZeroDen"
clock_name clock.TooFast = codes "TooFast"
clock_name clock.TooSlow = codes "TooSlow"
clock_name clock.BigOffset = codes "BigOffset"
clock_name clock.BigDen = codes "BigDen"
clock_name clock.NoRates = codes "NoRates"
clock_name clock.TooManyRates = codes "TooManyRates"
clock_name clock.RateOrder = codes "RateOrder"
clock_name clock.BadFrom = codes "BadFrom"

abbrev pub segments_name : SegmentsFault → List ℕ
segments_name segments.Prop = codes "Prop"
segments_name segments.Phase1 = codes "Phase1"
segments_name segments.Phase2 = codes "Phase2"
segments_name segments.Jump = codes "Jump"
segments_name segments.Length = codes "Length"

abbrev pub frame_name : FrameFault → List ℕ
frame_name frame.Id = codes "Id"
frame_name frame.Dlc = codes "Dlc"
frame_name frame.DataLength = codes "DataLength"
frame_name frame.ExtendedId = codes "ExtendedId"

abbrev pub topology_name : TopologyFault → List ℕ
topology_name topology.NoNodes = codes "NoNodes"
topology_name topology.TooManyNodes = codes "TooManyNodes"
topology_name (topology.ZeroDelay i j) = codes "ZeroDelay"
topology_name (topology.TooLong i j) = codes "TooLong"

abbrev pub plan_name : PlanFault → List ℕ
plan_name plan.Nodes = codes "Nodes"
plan_name plan.End = codes "End"
plan_name (plan.Quanta i) = codes "Quanta"
plan_name (plan.Queue i) = codes "Queue"
plan_name (plan.Disturbance n) = codes "Disturbance"

abbrev pub fault_name : SetupFault → List ℕ
fault_name fault.Toml = codes "Toml"
fault_name fault.Version = codes "Version"
fault_name (fault.Missing k) = codes "Missing"
fault_name (fault.Kind k) = codes "Kind"
fault_name (fault.Unknown k) = codes "Unknown"
fault_name fault.SameName = codes "SameName"
fault_name fault.Size = codes "Size"
fault_name (fault.NodeClock i f) = clock_name f
fault_name (fault.NodeSegments i f) = segments_name f
fault_name (fault.NodeFrame i n f) = frame_name f
fault_name (fault.Topology f) = topology_name f
fault_name (fault.Plan f) = plan_name f
fault_name fault.Read = codes "Read"
fault_name fault.Memory = codes "Memory"

-- what is wrong at a fault
abbrev pub cause : SetupFault → List ℕ
cause f = listed (map (λ r. (r.0.now, r.1.now)) CAUSES) (fault_name f) []

-- what to change at a fault; where a key is named, by the key
abbrev pub remedy : SetupFault → List ℕ
remedy (fault.Missing k) = listed (map (λ r. (r.0.now, r.1.now)) MISSING) k MISSING_OTHER.now
remedy (fault.Kind k) = listed (map (λ r. (r.0.now, r.1.now)) KIND) k KIND_OTHER.now
remedy (fault.Unknown k) = listed (map (λ r. (r.0.now, r.1.now)) UNKNOWN) k UNKNOWN_OTHER.now
remedy f = listed (map (λ r. (r.0.now, r.1.now)) CHANGES) (fault_name f) []

-- what is wrong, by the words of a form
abbrev pub cause_in : TextForm → SetupFault → List ℕ
cause_in form.Narrow f = cause f
cause_in form.Wide f = listed (map (λ r. (r.0.now, r.1.now)) WIDE_CAUSES) (fault_name f) (cause f)
cause_in form.Controller f = listed (map (λ r. (r.0.now, r.1.now)) CONTROLLER_CAUSES) (fault_name f) (cause f)

-- what to change by the limits of version 4; where a key has no place, is missing or has a wrong value, by the key
abbrev pub wide_remedy : SetupFault → List ℕ
wide_remedy (fault.Unknown k) = listed (map (λ r. (r.0.now, r.1.now)) WIDE_UNKNOWN) k (remedy (fault.Unknown k))
wide_remedy (fault.Missing k) = listed (map (λ r. (r.0.now, r.1.now)) WIDE_MISSING) k (remedy (fault.Missing k))
wide_remedy (fault.Kind k) = listed (map (λ r. (r.0.now, r.1.now)) WIDE_KIND) k (remedy (fault.Kind k))
wide_remedy f = listed (map (λ r. (r.0.now, r.1.now)) WIDE_CHANGES) (fault_name f) (remedy f)

-- what to change, by the words of a form
abbrev pub remedy_in : TextForm → SetupFault → List ℕ
remedy_in form.Narrow f = remedy f
remedy_in form.Wide f = wide_remedy f
remedy_in form.Controller f = listed (map (λ r. (r.0.now, r.1.now)) CONTROLLER_CHANGES) (fault_name f) (remedy f)
