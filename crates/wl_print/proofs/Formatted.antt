-- What is written of a plan in version 4 is read as that plan.
use Rattle.std.proofs.Common.{◌≡◌, ◌∙◌, refl, sym, ap, ℕ, true, List, Option, Some, None, Result, Ok, Err}
use Rattle.wl_device.specs.declared.bounded.Ended.{Ended}
use Rattle.wl_device.specs.declared.bounded.Ended.TheVariants as ended
use Rattle.wl_device.specs.Devices.{Answer}
use Rattle.wl_plan.specs.declared.plan.Plan.{Plan}
use Rattle.wl_setup.specs.declared.fault.SetupFault.{SetupFault}
use Rattle.wl_setup.specs.declared.plan_text.PlanText.{PlanText}
use Rattle.wl_setup.specs.Plans.{plan_of_text}
use Rattle.wl_setup.specs.Reading.{ReadsPlan, reading_answer, text_answer}
use Rattle.wl_print.specs.declared.fault.PrintFault.{PrintFault}
use Rattle.wl_print.specs.Formats.{order_fault, rewritten, rewritten_by, unless_early, upgraded}
use Rattle.wl_print.specs.Printable.{PrintsBack, is_printable}
use Rattle.wl_print.specs.Written.{plan_words}
use Rattle.wl_print.proofs.Clocked.{no_value_of}
use Rattle.wl_print.proofs.PlanRead.{read_is_printable}

abbrev text_in : PlanText → Result PlanText PrintFault → PlanText
text_in p (Ok q) = q
text_in p (Err e) = p

read_whole : (e : Ended) (bytes : List ℕ) (text : PlanText) → Ok text ≡ reading_answer e bytes → text_answer bytes ≡ Ok text
read_whole ended.End bytes text h = sym h
read_whole ended.Broken bytes text h = absurd (no_value_of (sym h))
read_whole ended.Full bytes text h = absurd (no_value_of (sym h))

kept_order : (o : Option (ℕ × ℕ)) (text made : PlanText) → unless_early o text ≡ Ok made → upgraded text ≡ made
kept_order None text made h = ap (text_in text) h
kept_order (Some (i, n)) text made h = absurd (no_value_of h)

made_prints : (r : Result Plan SetupFault) (bytes : List ℕ) (text made : PlanText) → plan_of_text text ≡ r → text_answer bytes ≡ Ok text → rewritten_by r text ≡ Ok made → is_printable made ≡ true
made_prints (Err e) bytes text made runs read h = absurd (no_value_of h)
made_prints (Ok plan) bytes text made runs read h =
    ap is_printable (sym (kept_order (order_fault text) text made h)) ∙ (read_is_printable bytes text plan read runs).1

pub formatted : {S : Type 0} (gives : S → Answer → S → Type 0) (s s' : S) (text made : PlanText) (words : List ℕ) → ReadsPlan gives s (Ok text) s' → rewritten text ≡ Ok made → words ≡ plan_words made
    → PrintsBack made words → text_answer (plan_words made) ≡ Ok made
formatted gives s s' text made words reads is same back =
    let (bytes, e, up_to, answer) = reads in
    ap text_answer (sym same) ∙ back (made_prints (plan_of_text text) bytes text made refl (read_whole e bytes text answer) is)
