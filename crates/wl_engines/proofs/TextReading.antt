-- What is read of a text in memory is what the text says.
use Rattle.std.proofs.Common.{◌≡◌, ◌≤◌, ◌∙◌, ℕ, List, length, sym, ap, arith, Result, Ok, Err}
use Rattle.std.specs.Prelude.{◌≢◌, IfOk, IfErr}
use Rattle.wl_device.specs.declared.bounded.Ended.TheVariants as reading
use Rattle.wl_setup.specs.Limits.{most_bytes}
use Rattle.wl_setup.specs.Buses.{bus_of_text}
use Rattle.wl_setup.specs.Plans.{after}
use Rattle.wl_setup.specs.Reading.{ReadsPlan, text_answer}
use Rattle.wl_engines.specs.Explained.{bus_answer}
use Rattle.wl_setup.specs.declared.fault.SetupFault.{SetupFault}
use Rattle.wl_setup.specs.declared.fault.SetupFault.TheVariants.{Memory}
use Rattle.wl_setup.specs.declared.plan_text.PlanText.{PlanText}
use Rattle.wl_engines.proofs.Callers.{gives, too_long, unbroken, whole}

module _ {S : Type 0} (rest : S → List ℕ) (s s' : S) (few : length (rest s) ≤ most_bytes) where
  text_is : (r : Result PlanText SetupFault) → ReadsPlan (gives rest) s r s' → text_answer (rest s) ≡ r
  text_is r (text, reading.End, reads, is) = ap text_answer (sym (whole rest s s' text reads).0) ∙ sym is
  text_is r (text, reading.Broken, reads, is) = absurd (unbroken rest s s' text reads)
  text_is r (text, reading.Full, reads, is) = absurd (omega (arith, few, too_long rest s s' text reads))

  pub read_whole : (r : Result PlanText SetupFault) → (r ≢ Err Memory → ReadsPlan (gives rest) s r s') → IfOk r (λ plain. text_answer (rest s) ≡ Ok plain)
  read_whole (Ok plain) h = text_is (Ok plain) (h (λ e. cc))
  read_whole (Err fault) h = tt

  pub read_fault : (r : Result PlanText SetupFault) → (r ≢ Err Memory → ReadsPlan (gives rest) s r s') → IfErr r (λ e. e ≢ Memory → bus_answer (rest s) ≡ Err e)
  read_fault (Ok plain) h = tt
  read_fault (Err fault) h = λ no. ap (λ x. after x bus_of_text) (text_is (Err fault) (h (λ e. no cc)))
