-- What was read, and the document of a text.
use Rattle.std.proofs.Common.{◌≡◌, ◌≢◌, ℕ, List, inl, inr, sym, ap, subst, ◌∙◌, Some, None, Result, Ok, Err, IfOk, IfErr}
use Rattle.std.specs.Str.{IsUtf8, is_utf8}
use Rattle.std.proofs.lemmas.Bool.{cases_Bool}
use Rattle.std.proofs.lemmas.Str.{is_utf8-from_IsUtf8, IsUtf8-from_is_utf8}
use Rattle.toml.specs.Data.{Members}
use Rattle.toml.specs.Parse.{parse_document}
use Rattle.wl_device.specs.declared.bounded.Ended.{Ended}
use Rattle.wl_device.specs.Devices.{Answer}
use Rattle.wl_device.specs.Bounded.{ReadsUpTo}
use Rattle.wl_setup.specs.declared.fault.SetupFault.{SetupFault}
use Rattle.wl_setup.specs.declared.fault.SetupFault.TheVariants.{Memory}
use Rattle.wl_setup.specs.declared.plan_text.PlanText.{PlanText}
use Rattle.wl_setup.specs.Limits.{most_bytes}
use Rattle.wl_setup.specs.Names.{names_of}
use Rattle.wl_setup.specs.Reading.{document_of, text_answer, reading_answer, ReadsPlan}

module _ {S : Type 0} (gives : S → Answer → S → Type 0) (s t : S) where
  -- a reading that has this answer
  pub answers_so : (bytes : List ℕ) (e : Ended) (most : ℕ) → most_bytes ≡ most → ReadsUpTo gives s most bytes e t → (r : Result PlanText SetupFault) → r ≡ reading_answer e bytes → ReadsPlan gives s r t
  answers_so bytes e most is reads r answer = (bytes, e, subst (λ m. ReadsUpTo gives s m bytes e t) (sym is) reads, answer)

  -- the plan text and the names of a whole text, or its fault
  pub parsed : (bytes text : List ℕ) → text ≡ bytes → ((r : Result PlanText SetupFault) → r ≡ text_answer bytes → ReadsPlan gives s r t) → (r : Result (PlanText × List (List ℕ)) SetupFault)
      → IfOk r (λ p. (text_answer text ≡ Ok p.0) × (p.1 ≡ names_of p.0)) → IfOk r (λ p. ReadsPlan gives s (Ok p.0) t × (p.1 ≡ names_of p.0))
  parsed bytes text is reads (Ok p) h = (reads (Ok p.0) (sym h.0 ∙ ap text_answer is), h.1)
  parsed bytes text is reads (Err f) h = tt

  pub not_parsed : (bytes text : List ℕ) → text ≡ bytes → ((r : Result PlanText SetupFault) → r ≡ text_answer bytes → ReadsPlan gives s r t) → (r : Result (PlanText × List (List ℕ)) SetupFault)
      → IfErr r (λ f. f ≢ Memory → text_answer text ≡ Err f) → IfErr r (λ f. f ≢ Memory → ReadsPlan gives s (Err f) t)
  not_parsed bytes text is reads (Ok p) h = tt
  not_parsed bytes text is reads (Err f) h = λ fine. reads (Err f) (sym (h fine) ∙ ap text_answer is)

  -- a fault of the reading or of the text
  pub refused : (f : SetupFault) (answer : Result PlanText SetupFault) → (f ≢ Memory → ReadsPlan gives s (Err f) t) → answer ≡ Err f → answer ≢ Err Memory → ReadsPlan gives s answer t
  refused f answer h is fine = subst (λ a. ReadsPlan gives s a t) (sym is) (h (λ memory. fine (is ∙ ap (λ x. Err x) memory)))

-- a text that parses, and one that doesn't
pub document_of-parsed : (text : List ℕ) (top : Members) → IsUtf8 text → parse_document text ≡ Some top → document_of text ≡ Some top
document_of-parsed text top utf8 parsed = rw (is_utf8-from_IsUtf8 text utf8) parsed

pub document_of-none : (text : List ℕ) → (IsUtf8 text → parse_document text ≡ None) → document_of text ≡ None
document_of-none text refused =
    elim (cases_Bool (is_utf8 text)) [
      | inl utf8 ↦ rw utf8 (refused (IsUtf8-from_is_utf8 text utf8))
      | inr other ↦ rw other
    ]
