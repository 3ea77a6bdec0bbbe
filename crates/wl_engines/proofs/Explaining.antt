-- The answer of a text by its document, and what is said of one that is refused.
use Rattle.std.proofs.Common.{◌≡◌, ◌≤◌, ◌∙◌, ℕ, Bool, List, Some, None, Result, Ok, Err, ap, length, subst, sym, take}
use Rattle.toml.specs.Data.{Members}
use Rattle.wl_device.specs.Devices.{Answer}
use Rattle.wl_setup.specs.declared.bus.Bus.{Bus}
use Rattle.wl_setup.specs.declared.fault.SetupFault.{SetupFault}
use Rattle.wl_setup.specs.declared.fault.SetupFault.TheVariants.{Toml}
use Rattle.wl_setup.specs.Buses.{bus_of_text}
use Rattle.wl_setup.specs.Document.{fault_path, plan_text_of}
use Rattle.wl_setup.specs.Plans.{after}
use Rattle.wl_setup.specs.Reading.{document_answer, document_of}
use Rattle.wl_explain.specs.Refusals.{IsDocumentRefusal, IsRefusal, refusal_words, toml_words}
use Rattle.wl_engines.specs.Explained.{ExplainsText, IsExplanationOf, bus_answer}
use Rattle.wl_engines.specs.Output.{OutputsWith}
use Rattle.wl_engines.specs.declared.fault.RunFault.{RunFault}
use Rattle.wl_engines.specs.declared.fault.RunFault.TheVariants.{Text, Setup, Work, Write, Memory}

pub answer_of : (text : List ℕ) (top : Members) (r : Result Bus SetupFault) → document_of text ≡ Some top → after (plan_text_of top) bus_of_text ≡ r → bus_answer text ≡ r
answer_of text top r is answer = ap (λ o. after (document_answer o) bus_of_text) is ∙ answer

pub refusal_of : (text : List ℕ) (top : Members) (fault : SetupFault) (said : List ℕ) → document_of text ≡ Some top → said ≡ refusal_words top (fault_path top) fault → IsRefusal text fault said
refusal_of text top fault said is same = subst (λ o. IsDocumentRefusal o text fault said) (sym is) same

pub no_answer : (text : List ℕ) → document_of text ≡ None → bus_answer text ≡ Err Toml
no_answer text none = ap (λ o. after (document_answer o) bus_of_text) none

pub no_toml : (text : List ℕ) (place : ℕ) (said : List ℕ) → document_of text ≡ None → place ≤ length text → said ≡ toml_words (take place text) → IsRefusal text Toml said
no_toml text place said none within same = subst (λ o. IsDocumentRefusal o text Toml said) (sym none) (place, within, same)

-- the doubts of a text's bus went out, or memory ran out
module _ {T : Type 0} (takes : T → Answer → T → Type 0) (t t' : T) where
  pub explains_bus : (text : List ℕ) (bus : Bus) → bus_answer text ≡ Ok bus → (r : Result Bool RunFault)
      → OutputsWith takes (IsExplanationOf text bus) t t' r → ExplainsText takes text t t' r
  explains_bus text bus answer (Ok doubted) h = (bus, h.0, answer, h.1, h.2)
  explains_bus text bus answer (Err Write) h = (h.0, h.1, (bus, h.2.0, answer, h.2.1, h.2.2))
  explains_bus text bus answer (Err Memory) h = h
  explains_bus text bus answer (Err (Text fault)) h = absurd h.0
  explains_bus text bus answer (Err (Setup fault)) h = absurd h.0
  explains_bus text bus answer (Err (Work fault)) h = absurd h.0
