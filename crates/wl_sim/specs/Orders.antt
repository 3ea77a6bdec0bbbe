-- Over which devices and files a task is done, and what the named place has afterwards (this project's profile).
use Rattle.std.specs.Prelude.{◌≡◌, ◌⊎◌, ℕ, Bool, if◌then◌else◌, List, map, string_bytes, Option, Some, None, Result, Ok, Err}
use Rattle.clap.specs.Words.{Text}
use Rattle.wl_device.specs.Devices.{Answer}
use Rattle.wl_files.specs.Files.{Standing, IsEmpty, Keeps, Places}
use Rattle.wl_lines.specs.declared.formats.Format.{Format}
use Rattle.wl_setup.specs.declared.fault.SetupFault.TheVariants as setup
use Rattle.wl_engines.specs.declared.fault.RunFault.TheVariants.{Setup, Write, Memory}
use Rattle.wl_sim.specs.declared.answer.Done.{Done}
use Rattle.wl_sim.specs.declared.answer.Fault.{Fault}
use Rattle.wl_sim.specs.declared.answer.Fault.TheVariants.{Run}
use Rattle.wl_settings.specs.declared.topics.AskedWord.{AskedWord}
use Rattle.wl_words.specs.declared.command.Order.{Order}
use Rattle.wl_words.specs.declared.command.Refusal.{Refusal}
use Rattle.wl_views.specs.declared.tick.Tick.{Tick}
use Rattle.wl_words.specs.declared.task.Task.{Task}
use Rattle.wl_words.specs.declared.task.Task.TheVariants.{Settings}
use Rattle.wl_words.specs.Asked.{ReadsOrder}
use Rattle.wl_sim.specs.Tasks.{DoesApplied, DoesAs, EndsTask, refusal_status, run_status}

-- how long a tick is with which settings are asked for; other tasks ask for none
abbrev pub settings_tick : Task → Option Tick
settings_tick (Settings tick shown strict) = Some tick
settings_tick task = None

-- What stands at each name after a task was done with a new file for its output: the file stands at its name where the task was done and the
-- file could be moved there, and else each name has what it had.
module _ {F W : Type 0} (stands : F → Text → Standing) (holds : W → Standing) (f f' : F) (name : Text) (file : W) where
  abbrev pub MovesFile : Result Done Fault → Result Done Fault → Type 0
  MovesFile (Ok done) r = (placed : Bool) × Places (stands f) (stands f') name (holds file) placed × (r ≡ (if placed then Ok done else Err (Run Write)))
  MovesFile (Err fault) r = Keeps (stands f) (stands f') × (r ≡ Err fault)

-- The output goes to standard output, or to a new file.
module _ {S T F W : Type 0} (gives : S → Answer → S → Type 0) (takes : T → Answer → T → Type 0) (file_takes : W → Answer → W → Type 0)
    (stands : F → Text → Standing) (holds : W → Standing) (s s' : S) (t t' : T) (f f' : F) (format : Option Format) (task : Task) (ranges : List Text)
    (asked : List AskedWord) where
  -- no new file was begun: nothing was read, and each name has what it had
  abbrev pub BeginsNone : Result Done Fault → Type 0
  BeginsNone r = (s' ≡ s) × Keeps (stands f) (stands f') × ((r ≡ Err (Run Write)) ⊎ (r ≡ Err (Run Memory)))

  -- a new file was begun, an empty one, and the task done over it
  abbrev pub WritesNew : Text → Result Done Fault → Type 0
  WritesNew name r =
      (file : W) × (file' : W) × (answer : Result Done Fault) × IsEmpty (holds file) × DoesAs gives file_takes s s' file file' format task ranges asked answer
      × MovesFile stands holds f f' name file' answer r

  abbrev pub WritesTo : Option Text → Result Done Fault → Type 0
  WritesTo None r = DoesAs gives takes s s' t t' format task ranges asked r × (f' ≡ f)
  WritesTo (Some name) r = (t' ≡ t) × (BeginsNone r ⊎ WritesNew name r)

-- A plan with settings goes to standard output, or to a new file.
module _ {S P T F W : Type 0} (gives : S → Answer → S → Type 0) (plan_gives : P → Answer → P → Type 0) (takes : T → Answer → T → Type 0)
    (file_takes : W → Answer → W → Type 0) (stands : F → Text → Standing) (holds : W → Standing) (s s' : S) (p p' : P) (t t' : T) (f f' : F)
    (tick : Tick) (asked : List AskedWord) where
  abbrev pub BeginsNoPlan : Result Done Fault → Type 0
  BeginsNoPlan r = (s' ≡ s) × (p' ≡ p) × Keeps (stands f) (stands f') × ((r ≡ Err (Run Write)) ⊎ (r ≡ Err (Run Memory)))

  abbrev pub WritesNewPlan : Text → Result Done Fault → Type 0
  WritesNewPlan name r =
      (file : W) × (file' : W) × (answer : Result Done Fault) × IsEmpty (holds file) × DoesApplied gives plan_gives file_takes s s' p p' file file' tick asked answer
      × MovesFile stands holds f f' name file' answer r

  abbrev pub AppliesTo : Option Text → Result Done Fault → Type 0
  AppliesTo None r = DoesApplied gives plan_gives takes s s' p p' t t' tick asked r × (f' ≡ f)
  AppliesTo (Some name) r = (t' ≡ t) × (BeginsNoPlan r ⊎ WritesNewPlan name r)

-- The input comes from standard input, or from a file.
module _ {S T F R W : Type 0} (gives : S → Answer → S → Type 0) (takes : T → Answer → T → Type 0)
    (file_gives : R → Answer → R → Type 0) (file_takes : W → Answer → W → Type 0)
    (opens : F → Text → R → Type 0) (stands : F → Text → Standing) (holds : W → Standing) (s s' : S) (t t' : T) (f f' : F) where
  -- no file of the name was opened, and nothing was done; or the task was done over one
  abbrev pub ReadsFrom : Option Text → Option Format → Task → List Text → List AskedWord → Option Text → Result Done Fault → Type 0
  ReadsFrom None format task ranges asked output r = WritesTo gives takes file_takes stands holds s s' t t' f f' format task ranges asked output r
  ReadsFrom (Some name) format task ranges asked output r =
      (s' ≡ s) × (((r ≡ Err (Run (Setup setup.Read))) × (t' ≡ t) × (f' ≡ f))
      ⊎ ((file : R) × (file' : R) × opens f name file × WritesTo file_gives takes file_takes stands holds file file' t t' f f' format task ranges asked output r))

  -- what the words asked for was done, without a plan beside it
  abbrev pub PerformsTask : Order → Result Done Fault → Type 0
  PerformsTask order r = ReadsFrom order.input order.format order.task (map string_bytes order.ranges.items) order.asked.items order.output r

  -- a plan was opened, and gets what is asked for; no file of its name was opened, or of the text's, and nothing was done
  abbrev pub AppliesFrom : Option Text → R → R → Tick → List AskedWord → Option Text → Result Done Fault → Type 0
  AppliesFrom None plan plan' tick asked output r =
      AppliesTo gives file_gives takes file_takes stands holds s s' plan plan' t t' f f' tick asked output r
  AppliesFrom (Some name) plan plan' tick asked output r =
      (s' ≡ s) × (((r ≡ Err (Run (Setup setup.Read))) × (t' ≡ t) × (f' ≡ f))
      ⊎ ((file : R) × (file' : R) × opens f name file × AppliesTo file_gives file_gives takes file_takes stands holds file file' plan plan' t t' f f' tick asked output r))

  abbrev pub PerformsApplied : Order → Tick → Text → Result Done Fault → Type 0
  PerformsApplied order tick name r =
      ((r ≡ Err (Run (Setup setup.Read))) × (s' ≡ s) × (t' ≡ t) × (f' ≡ f))
      ⊎ ((plan : R) × (plan' : R) × opens f name plan × AppliesFrom order.input plan plan' tick order.asked.items order.output r)

  -- settings go into a plan, if words name one
  abbrev pub PerformsBy : Option Text → Option Tick → Order → Result Done Fault → Type 0
  PerformsBy None tick order r = PerformsTask order r
  PerformsBy (Some name) None order r = PerformsTask order r
  PerformsBy (Some name) (Some tick) order r = PerformsApplied order tick name r

  abbrev pub Performs : Order → Result Done Fault → Type 0
  Performs order r = PerformsBy order.apply (settings_tick order.task) order r

  -- it was done, and the status is that of what was answered; or neither device nor any file was used, and the status says why
  abbrev pub Ends : Result Order Refusal → ℕ → Type 0
  Ends (Ok order) status = (r : Result Done Fault) × Performs order r × (status ≡ run_status r)
  Ends (Err refusal) status = (s' ≡ s) × (t' ≡ t) × (f' ≡ f) × (status ≡ refusal_status refusal)

  -- the whole program, from its words to its status
  abbrev pub RunsWords : List Text → ℕ → Type 0
  RunsWords words status = (read : Result Order Refusal) × ReadsOrder words read × Ends read status

  -- a task without any file
  abbrev pub EndsPlainly : Task → ℕ → Type 0
  EndsPlainly task status = EndsTask gives takes s s' t t' task status × (f' ≡ f)
