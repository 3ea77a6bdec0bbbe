-- What is written in another format, by what was formatted and sent.
use Rattle.std.proofs.Common.{◌≡◌, inl, ℕ, List, Some}
use Rattle.std.specs.Prelude.{Result}
use Rattle.wl_device.specs.Devices.{Answer, Writes}
use Rattle.wl_device.specs.declared.device.WriteFault.{WriteFault}
use Rattle.wl_formats.specs.Formats.{formatted}
use Rattle.wl_lines.specs.declared.formats.Format.{Format}
use Rattle.wl_formats.specs.declared.tables.Subject.{Subject}
use Rattle.wl_sim.specs.Tasks.{WritesFormatted, after_sent}
use Rattle.wl_sim.specs.declared.answer.Done.{Done}
use Rattle.wl_sim.specs.declared.answer.Fault.{Fault}

module _ {T : Type 0} (takes : T → Answer → T → Type 0) (t t' : T) (format : Format) (what : Subject) (text : List ℕ) (answer : Result Done Fault) where
  -- the bytes were sent, or not
  pub sent_bytes : (bytes : List ℕ) (sent : Result (Unit {0}) WriteFault) (r : Result Done Fault) → formatted format what text ≡ Some bytes
      → Writes takes t bytes sent t' → r ≡ after_sent answer sent → WritesFormatted takes t t' format what text answer r
  sent_bytes bytes sent r made wrote is = inl (bytes, sent, made, wrote, is)
