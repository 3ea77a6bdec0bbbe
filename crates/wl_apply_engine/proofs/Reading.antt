-- What is read of a text in memory is what the text says.
use Rattle.std.proofs.Common.{◌≡◌, ◌≤◌, ◌∙◌, ℕ, List, length, sym, ap, ap₂, arith, All, Some, Result, Ok, Err}
use Rattle.std.specs.Prelude.{◌≢◌, IfOk, IfErr}
use Rattle.toml.specs.Data.{Members}
use Rattle.wl_apply.specs.declared.chosen.Chosen.{Chosen}
use Rattle.wl_apply.specs.declared.fault.ApplyFault.{ApplyFault}
use Rattle.wl_apply.specs.Applied.{IsWritable, IsWritten, IsReadBack, applied}
use Rattle.wl_apply_engine.specs.Applying.{IsPlanFor, applied_text, applied_to}
use Rattle.wl_device.specs.declared.bounded.Ended.TheVariants as reading
use Rattle.wl_engines.proofs.Callers.{gives, too_long, unbroken, whole}
use Rattle.wl_setup.specs.declared.fault.SetupFault.{SetupFault}
use Rattle.wl_setup.specs.declared.fault.SetupFault.TheVariants.{Memory}
use Rattle.wl_setup.specs.declared.plan_text.PlanText.{PlanText}
use Rattle.wl_setup.specs.Limits.{most_bytes}
use Rattle.wl_setup.specs.Reading.{ReadsPlan, document_of, text_answer}

module _ {S : Type 0} (rest : S → List ℕ) (s s' : S) (few : length (rest s) ≤ most_bytes) where
  text_is : (r : Result PlanText SetupFault) → ReadsPlan (gives rest) s r s' → text_answer (rest s) ≡ r
  text_is r (text, reading.End, reads, is) = ap text_answer (sym (whole rest s s' text reads).0) ∙ sym is
  text_is r (text, reading.Broken, reads, is) = absurd (unbroken rest s s' text reads)
  text_is r (text, reading.Full, reads, is) = absurd (omega (arith, few, too_long rest s s' text reads))

  pub read_whole : (r : Result PlanText SetupFault) → (r ≢ Err Memory → ReadsPlan (gives rest) s r s') → IfOk r (λ plain. text_answer (rest s) ≡ Ok plain)
  read_whole (Ok plain) h = text_is (Ok plain) (h (λ e. cc))
  read_whole (Err fault) h = tt

  pub read_fault : (r : Result PlanText SetupFault) → (r ≢ Err Memory → ReadsPlan (gives rest) s r s') → IfErr r (λ e. e ≢ Memory → text_answer (rest s) ≡ Err e)
  read_fault (Ok plain) h = tt
  read_fault (Err fault) h = λ no. text_is (Err fault) (h (λ e. no cc))

module _ (tick : ℕ) (chosen : List Chosen) (text : List ℕ) (read : PlanText) (top : Members) (reads : text_answer text ≡ Ok read) (document : document_of text ≡ Some top)
    (all : All IsWritable chosen) where
  -- what is written of a plan is read as it
  plan_for : (made : List ℕ) → IsWritten (applied tick chosen top read) made → IsReadBack tick chosen top read made → IsPlanFor (applied_text tick chosen text) made
  plan_for made (plan, is, same) back = (plan, ap₂ (applied_to tick chosen) document reads ∙ is, same, back text plan reads all is)

  pub plan_if_made : {A : Type 0} (bytes : A → List ℕ) (r : Result A ApplyFault) → IfOk r (λ a. IsWritten (applied tick chosen top read) (bytes a))
      → IfOk r (λ a. IsReadBack tick chosen top read (bytes a)) → IfOk r (λ a. IsPlanFor (applied_text tick chosen text) (bytes a))
  plan_if_made bytes (Ok a) written back = plan_for (bytes a) written back
  plan_if_made bytes (Err e) written back = tt
