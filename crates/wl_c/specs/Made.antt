-- What an engine made of a text, before it is written (this project's profile).
use Rattle.std.specs.Prelude.{◌≡◌, ℕ, List, Option, Result, Ok, Err}
use Rattle.wl_setup.specs.declared.fault.SetupFault.{SetupFault}
use Rattle.wl_engines.specs.declared.fault.RunFault.{RunFault}
use Rattle.wl_engines.specs.declared.fault.RunFault.TheVariants.{Setup}
use Rattle.wl_lines.specs.declared.formats.Format.{Format}
use Rattle.wl_c.specs.Texts.{Says}
use Rattle.wl_c.specs.declared.asked.Task.{Task}
use Rattle.wl_c.specs.declared.engines.Made.{Made}
use Rattle.wl_c.specs.declared.engines.Made.TheVariants.{Output, Refusal, OutOfMemory}
use Rattle.wl_c.specs.declared.status.Status.TheVariants.{Done, Refused}

-- what an engine wrote is the output if it answered so, or what is said of a text that it refused
abbrev pub IsMade : Result (Unit {0}) RunFault → List ℕ → Made → Type 0
IsMade answer bytes (Output said) = (answer ≡ Ok tt) × (said.items ≡ bytes)
IsMade answer bytes (Refusal said) = (fault : SetupFault) × (answer ≡ Err (Setup fault)) × (said.items ≡ bytes)
IsMade answer bytes OutOfMemory = Unit {0}

-- whether a run wrote its output, without what it answered: as why a run of traffic didn't work, or whether all deadlines are met
abbrev pub without_answer : {A : Type 0} → Result A RunFault → Result (Unit {0}) RunFault
without_answer (Ok answer) = Ok tt
without_answer (Err fault) = Err fault

-- an output has one property, and what is said of a refusal another
abbrev pub ByMade : (IsOutput IsRefusal : List ℕ → Type 0) → Made → Type 0
ByMade IsOutput IsRefusal (Output said) = IsOutput said.items
ByMade IsOutput IsRefusal (Refusal said) = IsRefusal said.items
ByMade IsOutput IsRefusal OutOfMemory = Unit {0}

-- what was made is what the command says of the text, unless memory ran out
abbrev pub Makes : Option Format → Task → List ℕ → Made → Type 0
Makes format task text made = ByMade (Says text format task Done) (Says text format task Refused) made
