-- A plan of any version as one of version 4 (this project's profile).
use Rattle.std.specs.Prelude.{◌≡◌, ◌⊎◌, ℕ, suc, nat_lt, Bool, true, false, List, [], ◌∷◌, Option, Some, None, Result, Ok, Err, if◌then◌else◌}
use Rattle.wl_device.specs.Devices.{Answer, Writes}
use Rattle.wl_device.specs.declared.device.WriteFault.{WriteFault}
use Rattle.wl_plan.specs.declared.plan.Plan.{Plan}
use Rattle.wl_setup.specs.declared.fault.SetupFault.{SetupFault}
use Rattle.wl_setup.specs.declared.fault.SetupFault.TheVariants as setup
use Rattle.wl_setup.specs.declared.plan_text.PlanText.{PlanText}
use Rattle.wl_setup.specs.declared.plan_text.NodeText.{NodeText}
use Rattle.wl_setup.specs.declared.plan_text.FrameText.{FrameText}
use Rattle.wl_setup.specs.Plans.{plan_of_text}
use Rattle.wl_setup.specs.Reading.{ReadsPlan, text_answer}
use Rattle.wl_setup.specs.Version.{has_traffic}
use Rattle.wl_print.specs.declared.fault.PrintFault.{PrintFault}
use Rattle.wl_print.specs.declared.fault.PrintFault.TheVariants as print
use Rattle.wl_print.specs.Written.{plan_words}

-- a fault of a plan's text as one of printing
abbrev pub of_setup : SetupFault → PrintFault
of_setup setup.Memory = print.Memory
of_setup fault = print.Setup fault

-- the same keys in version 4
abbrev pub upgraded : PlanText → PlanText
upgraded text = record text { version = 4 }

-- the number of the first frame that becomes ready before the one above it, which becomes ready at this quantum
abbrev pub early_after : ℕ → ℕ → List FrameText → Option ℕ
early_after n ready [] = None
early_after n ready (f ∷ fs) = if nat_lt f.ready ready then Some n else early_after (suc n) f.ready fs

abbrev pub early_frame : List FrameText → Option ℕ
early_frame fs = early_after 0 0 fs

-- the number of the first node with such a frame, and the frame's
abbrev pub with_node : ℕ → Option ℕ → Option (ℕ × ℕ) → Option (ℕ × ℕ)
with_node i (Some n) later = Some (i, n)
with_node i None later = later

abbrev pub early_in : ℕ → List NodeText → Option (ℕ × ℕ)
early_in i [] = None
early_in i (node ∷ nodes) = with_node i (early_frame node.frame) (early_in (suc i) nodes)

-- From the version of traffic on frames wait in the order in which they become ready. Before it they wait in the order of the text.
abbrev pub early_before : Bool → List NodeText → Option (ℕ × ℕ)
early_before true nodes = None
early_before false nodes = early_in 0 nodes

abbrev pub order_fault : PlanText → Option (ℕ × ℕ)
order_fault text = early_before (has_traffic text.version) text.node

-- the plan in version 4, or why there is none: its own fault, or the order of its frames
abbrev pub unless_early : Option (ℕ × ℕ) → PlanText → Result PlanText PrintFault
unless_early None text = Ok (upgraded text)
unless_early (Some (i, n)) text = Err (print.Order i n)

abbrev pub rewritten_by : Result Plan SetupFault → PlanText → Result PlanText PrintFault
rewritten_by (Err fault) text = Err (of_setup fault)
rewritten_by (Ok plan) text = unless_early (order_fault text) text

abbrev pub rewritten : PlanText → Result PlanText PrintFault
rewritten text = rewritten_by (plan_of_text text) text

module _ {S T : Type 0} (gives : S → Answer → S → Type 0) (takes : T → Answer → T → Type 0) (s s' : S) (t t' : T) where
  -- the plan that was read went out in version 4, as far as it went; what went out as a whole is read as that plan
  abbrev pub Wrote : Result (Unit {0}) WriteFault → Type 0
  Wrote r =
      (text : PlanText) × (made : PlanText) × ReadsPlan gives s (Ok text) s' × (rewritten text ≡ Ok made) × (text_answer (plan_words made) ≡ Ok made)
      × Writes takes t (plan_words made) r t'

  -- the first fault of what was read, or why its plan has no version 4
  abbrev pub Refuses : PrintFault → Type 0
  Refuses fault =
      ((refused : SetupFault) × ReadsPlan gives s (Err refused) s' × (fault ≡ print.Setup refused))
      ⊎ ((text : PlanText) × ReadsPlan gives s (Ok text) s' × (rewritten text ≡ Err fault))

  -- nothing was written: memory was refused, or the input
  abbrev pub WritesNone : PrintFault → Type 0
  WritesNone fault = (t' ≡ t) × ((fault ≡ print.Memory) ⊎ Refuses fault)

  -- the writer failed, and a prefix of the plan was written
  abbrev pub WritesSome : PrintFault → Type 0
  WritesSome fault = (fault ≡ print.Write) × (f : WriteFault) × Wrote (Err f)

  -- what was done
  abbrev pub Formats : Result (Unit {0}) PrintFault → Type 0
  Formats (Ok u) = Wrote (Ok tt)
  Formats (Err fault) = WritesNone fault ⊎ WritesSome fault
