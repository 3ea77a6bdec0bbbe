-- How a plan's text is read, and what is answered to it (this project's profile).
use Rattle.std.specs.Prelude.{◌≡◌, ◌≤◌, ℕ, List, length, if◌then◌else◌, Option, Some, None, Result, Err}
use Rattle.std.specs.Str.{is_utf8}
use Rattle.wl_device.specs.declared.bounded.Ended.{Ended}
use Rattle.wl_device.specs.declared.bounded.Ended.TheVariants as ended
use Rattle.wl_device.specs.Devices.{Answer}
use Rattle.wl_device.specs.Bounded.{ReadsUpTo}
use Rattle.toml.specs.Data.{Members}
use Rattle.toml.specs.Parse.{parse_document}
use Rattle.wl_setup.specs.declared.fault.SetupFault.{SetupFault}
use Rattle.wl_setup.specs.declared.fault.SetupFault.TheVariants as fault
use Rattle.wl_setup.specs.declared.plan_text.PlanText.{PlanText}
use Rattle.wl_setup.specs.declared.read.NoDocument.{NoDocument}
use Rattle.wl_setup.specs.declared.read.NoDocument.TheVariants as none
use Rattle.wl_setup.specs.Limits.{most_bytes}
use Rattle.wl_setup.specs.Document.{plan_text_of}

-- the document of a text: none where it is not UTF-8, or no TOML 1.1
abbrev pub document_of : List ℕ → Option Members
document_of text = if is_utf8 text then parse_document text else None

-- the text has no document, and the parser stopped at a place of it; or memory was refused
abbrev pub IsNoDocument : List ℕ → NoDocument → Type 0
IsNoDocument text (none.At place) = (document_of text ≡ None) × (place ≤ length text)
IsNoDocument text none.Memory = Unit {0}

-- the plan text or the first fault of a document, or Toml where there is none
abbrev pub document_answer : Option Members → Result PlanText SetupFault
document_answer None = Err fault.Toml
document_answer (Some top) = plan_text_of top

-- the answer to a whole text
abbrev pub text_answer : List ℕ → Result PlanText SetupFault
text_answer text = document_answer (document_of text)

-- the answer to what was read
abbrev pub reading_answer : Ended → List ℕ → Result PlanText SetupFault
reading_answer ended.End text = text_answer text
reading_answer ended.Broken text = Err fault.Read
reading_answer ended.Full text = Err fault.Size

-- the reader gave, in one reading, something that has this answer
abbrev pub ReadsPlan : {S : Type 0} → (S → Answer → S → Type 0) → S → Result PlanText SetupFault → S → Type 0
ReadsPlan gives s answer t = (text : List ℕ) × (e : Ended) × ReadsUpTo gives s most_bytes text e t × (answer ≡ reading_answer e text)

-- Toml is the answer to texts without a document, and to no other
abbrev pub TomlHasNoDocument : Type 0
TomlHasNoDocument = (text : List ℕ) → text_answer text ≡ Err fault.Toml → document_of text ≡ None
