-- What the program does for its words, and the status that it ends with (this project's profile).
use Rattle.std.specs.Prelude.{◌≡◌, ◌≤◌, ◌==◌, ◌||◌, ◌&&◌, ◌⊎◌, ℕ, Bool, true, false, not, MatchBool, List, [], ◌∷◌, length, Option, Some, None, is_some, if◌then◌else◌, Result, Ok, Err}
use Rattle.std.specs.List.{list_all}
use Rattle.clap.specs.Words.{Text}
use Rattle.wl_apply.specs.declared.fault.ApplyFault.{ApplyFault}
use Rattle.wl_apply.specs.declared.fault.ApplyFault.TheVariants as apply
use Rattle.wl_apply_engine.specs.declared.fault.AppliedFault.{AppliedFault}
use Rattle.wl_apply_engine.specs.declared.fault.AppliedFault.TheVariants as applied
use Rattle.wl_apply_engine.specs.Applying.{RunsApplied}
use Rattle.wl_settings.specs.Questions.{wanted_by_words}
use Rattle.wl_settings.specs.Texts.{ReadsWanted}
use Rattle.wl_device.specs.Devices.{Answer}
use Rattle.wl_setup.specs.Check.{IsPlanCheck}
use Rattle.wl_device.specs.Devices.{Writes}
use Rattle.wl_device.specs.declared.device.WriteFault.{WriteFault}
use Rattle.wl_engines.specs.Keeping.{KeepsMore}
use Rattle.wl_engines.specs.declared.kept.Kept.{Kept}
use Rattle.wl_formats.specs.Formats.{formatted}
use Rattle.wl_lines.specs.declared.formats.Format.{Format}
use Rattle.wl_formats.specs.declared.tables.Subject.{Subject}
use Rattle.wl_formats.specs.declared.tables.Subject.TheVariants as subject
use Rattle.wl_engines.specs.declared.fault.RunFault.{RunFault}
use Rattle.wl_engines.specs.declared.fault.RunFault.TheVariants as run
use Rattle.wl_engines.specs.Explained.{Explains}
use Rattle.wl_engines.specs.Faults.{is_refusal}
use Rattle.wl_engines.specs.Horizon.{TellsHorizons}
use Rattle.wl_engines.specs.Judged.{RunsJudge}
use Rattle.wl_engines.specs.Margin.{IsMarginOutput, RunsBus}
use Rattle.wl_engines.specs.Named.{IsNodeTrace}
use Rattle.wl_engines.specs.Merge.{Merges}
use Rattle.wl_engines.specs.Paged.{PagesWithin}
use Rattle.wl_engines.specs.Plans.{RunsPlan, RunsPlanWith, IsRecordsWithin, IsReportOutput, IsTracePicked, IsLogAs, IsVcdWithin}
use Rattle.wl_engines.specs.Responded.{Responds}
use Rattle.wl_engines.specs.TrafficRun.{RunsTraffic}
use Rattle.wl_engines.specs.Workers.{RunsByWorkersAs}
use Rattle.wl_judge.specs.declared.judgement.Judgement.{Judgement}
use Rattle.wl_judge.specs.declared.judgement.Judgement.TheVariants as judged
use Rattle.wl_setup.specs.declared.fault.SetupFault.TheVariants as setup
use Rattle.wl_init.specs.declared.fault.InitFault.{InitFault}
use Rattle.wl_init.specs.declared.fault.InitFault.TheVariants as init
use Rattle.wl_init.specs.Runs.{Inits}
use Rattle.wl_print.specs.declared.fault.PrintFault.{PrintFault}
use Rattle.wl_print.specs.declared.fault.PrintFault.TheVariants as print
use Rattle.wl_print.specs.Formats.{Formats}
use Rattle.wl_settings.specs.declared.fault.SettingsFault.{SettingsFault}
use Rattle.wl_settings.specs.declared.fault.SettingsFault.TheVariants as settings
use Rattle.wl_settings.specs.Runs.{RunsSettings}
use Rattle.wl_settings.specs.WordRuns.{RunsWords}
use Rattle.wl_settings.specs.declared.said.Shown.{Shown}
use Rattle.wl_settings.specs.declared.said.Shown.TheVariants as listed
use Rattle.wl_settings.specs.declared.topics.AskedWord.{AskedWord}
use Rattle.wl_views.specs.declared.pick.Pick.{Pick}
use Rattle.wl_views.specs.declared.tick.Tick.{Tick}
use Rattle.wl_sweep.specs.declared.finding.Finding.{Finding}
use Rattle.wl_sweep.specs.declared.tally.Tally.{Tally}
use Rattle.wl_sweep.specs.Findings.{is_clean}
use Rattle.wl_sweep.specs.Tallies.{tally_of}
use Rattle.wl_sweep_engine.specs.declared.asked.Asked.{Asked}
use Rattle.wl_sweep_engine.specs.declared.fault.SweepFault.{SweepFault}
use Rattle.wl_sweep_engine.specs.declared.fault.SweepFault.TheVariants as sweep
use Rattle.wl_sweep_engine.specs.Spiking.{PrintsSpike, RunsSpikes}
use Rattle.wl_sweep_engine.specs.Sweeping.{Maps, Parts, Prints, Sweeps}
use Rattle.wl_sweep_engine.specs.declared.join.JoinFault.{JoinFault}
use Rattle.wl_sweep_engine.specs.declared.join.JoinFault.TheVariants as join
use Rattle.wl_sweep_engine.specs.Joining.{Joins}
use Rattle.wl_sweep.specs.declared.part.Share.{Share}
use Rattle.wl_traffic.specs.declared.reason.Reason.{Reason}
use Rattle.wl_traffic.specs.declared.reason.Reason.TheVariants.{Works}
use Rattle.wl_sim.specs.Lines.{respond_asked}
use Rattle.wl_sim.specs.declared.answer.Done.{Done}
use Rattle.wl_sim.specs.declared.answer.Done.TheVariants.{Plain, Unclean, Unknown}
use Rattle.wl_sim.specs.declared.answer.Fault.{Fault}
use Rattle.wl_sim.specs.declared.answer.Fault.TheVariants as fault
use Rattle.wl_sim.specs.declared.lines.RespondAsked.{RespondAsked}
use Rattle.wl_words.specs.declared.command.Refusal.{Refusal}
use Rattle.wl_words.specs.declared.command.Refusal.TheVariants.{Words, Memory}
use Rattle.wl_words.specs.declared.task.Task.{Task}
use Rattle.wl_words.specs.declared.task.Task.TheVariants.{Init, Merge, Horizon, Check, Upgrade, Records, Run, Explain, Trace, Candump, Vcd, Page, Margin, Respond, Traffic, Judge, Settings, Sweep}
use Rattle.wl_words.specs.declared.task.Swept.{Swept}
use Rattle.wl_views.specs.Ticks.{tick_picoseconds}

-- what an engine answered, as an answer of the program
abbrev pub plainly : Result (Unit {0}) RunFault → Result Done Fault
plainly (Ok u) = Ok Plain
plainly (Err f) = Err (fault.Run f)

-- a fault of a sweep: of its plan, its devices or memory it is that of any engine; else it is one of its words
abbrev pub of_sweep : SweepFault → Fault
of_sweep (sweep.Setup f) = fault.Run (run.Setup f)
of_sweep sweep.Write = fault.Run run.Write
of_sweep sweep.Memory = fault.Run run.Memory
of_sweep f = fault.Word f

-- all members are clean, none of them refused; or not
abbrev pub done_by : Bool → Done
done_by true = Plain
done_by false = Unclean

-- what is answered for a sweep with the tally of what was found
abbrev pub AnswersSweep : Result Tally SweepFault → Result Done Fault → Type 0
AnswersSweep (Ok tally) r = (done : Done) × (r ≡ Ok done) × ((found : List Finding) → tally ≡ tally_of found → done ≡ done_by (list_all is_clean found))
AnswersSweep (Err f) r = r ≡ Err (of_sweep f)

-- what is answered for a map, by whether each member is clean
abbrev pub of_map : Result Bool SweepFault → Result Done Fault
of_map (Ok clean) = Ok (done_by clean)
of_map (Err f) = Err (of_sweep f)

abbrev pub of_print : Result (Unit {0}) SweepFault → Result Done Fault
of_print (Ok u) = Ok Plain
of_print (Err f) = Err (of_sweep f)

-- a fault of joining the parts of a sweep: of its devices or memory it is that of any engine; else it is one of their texts
abbrev pub of_join_fault : JoinFault → Fault
of_join_fault join.Read = fault.Run (run.Setup setup.Read)
of_join_fault join.Write = fault.Run run.Write
of_join_fault join.Memory = fault.Run run.Memory
of_join_fault f = fault.Join f

-- what is answered for joined parts, by whether each member is clean
abbrev pub of_join : Result Bool JoinFault → Result Done Fault
of_join (Ok clean) = Ok (done_by clean)
of_join (Err f) = Err (of_join_fault f)

-- a fault of a search for settings: of its devices or memory it is that of any engine; else it is one of its text
abbrev pub of_settings_fault : SettingsFault → Fault
of_settings_fault settings.Read = fault.Run (run.Setup setup.Read)
of_settings_fault settings.Write = fault.Run run.Write
of_settings_fault settings.Memory = fault.Run run.Memory
of_settings_fault f = fault.Settings f

-- a fault of writing a plan with settings: of what is asked for it is one of a search for settings. Of devices, memory or a plan that can't be run it
-- is that of any engine. Else it is one of the settings in the plan.
abbrev pub of_plan_with_settings : ApplyFault → Fault
of_plan_with_settings (apply.Setup f) = fault.Run (run.Setup f)
of_plan_with_settings f = fault.Apply f

abbrev pub of_applied_fault : AppliedFault → Fault
of_applied_fault (applied.Settings f) = of_settings_fault f
of_applied_fault (applied.Plan f) = of_plan_with_settings f
of_applied_fault applied.Write = fault.Run run.Write
of_applied_fault applied.Memory = fault.Run run.Memory

abbrev pub of_applied : Result (Unit {0}) AppliedFault → Result Done Fault
of_applied (Ok u) = Ok Plain
of_applied (Err f) = Err (of_applied_fault f)

-- what is answered for a search for settings: if the status is to say so, whether each controller has one
abbrev pub of_settings : (strict : Bool) → Result Bool SettingsFault → Result Done Fault
of_settings strict (Ok true) = Ok Plain
of_settings true (Ok false) = Ok Unclean
of_settings false (Ok false) = Ok Plain
of_settings strict (Err f) = Err (of_settings_fault f)

-- a fault of writing a plan in version 4: of its text, its devices or memory it is that of any engine; else it is one of the plan
abbrev pub of_format_fault : PrintFault → Fault
of_format_fault (print.Setup f) = fault.Run (run.Setup f)
of_format_fault print.Write = fault.Run run.Write
of_format_fault print.Memory = fault.Run run.Memory
of_format_fault f = fault.Print f

abbrev pub of_format : Result (Unit {0}) PrintFault → Result Done Fault
of_format (Ok u) = Ok Plain
of_format (Err f) = Err (of_format_fault f)

-- a fault of a plan to begin from: of its devices or memory it is that of any engine; else it is one of what is asked for
abbrev pub of_init_fault : InitFault → Fault
of_init_fault init.Write = fault.Run run.Write
of_init_fault init.Memory = fault.Run run.Memory
of_init_fault f = fault.Init f

abbrev pub of_init : Result (Unit {0}) InitFault → Result Done Fault
of_init (Ok u) = Ok Plain
of_init (Err f) = Err (of_init_fault f)

-- what is answered for the trace of the node of a name, by whether there is one
abbrev pub of_named_trace : Result Bool RunFault → Result Done Fault
of_named_trace (Ok true) = Ok Plain
of_named_trace (Ok false) = Err fault.Node
of_named_trace (Err f) = Err (fault.Run f)

-- what is answered for the traffic of a run: if the status is to say so, whether the run works
abbrev pub of_traffic : (strict : Bool) → Result Reason RunFault → Result Done Fault
of_traffic strict (Ok Works) = Ok Plain
of_traffic true (Ok reason) = Ok Unclean
of_traffic false (Ok reason) = Ok Plain
of_traffic strict (Err f) = Err (fault.Run f)

-- what is answered for a verdict, if the status is to say so: whether all deadlines are met, the condition holds, or a report is clean
abbrev pub of_verdict : (strict : Bool) → Result Bool RunFault → Result Done Fault
of_verdict strict (Ok true) = Ok Plain
of_verdict true (Ok false) = Ok Unclean
of_verdict false (Ok false) = Ok Plain
of_verdict strict (Err f) = Err (fault.Run f)

-- what is answered for an explanation: if the status is to say so, whether nothing is doubtful
abbrev pub of_doubts : (strict : Bool) → Result Bool RunFault → Result Done Fault
of_doubts strict (Ok false) = Ok Plain
of_doubts true (Ok true) = Ok Unclean
of_doubts false (Ok true) = Ok Plain
of_doubts strict (Err f) = Err (fault.Run f)

-- what is answered for the judgement on a bus: whether it works
abbrev pub of_judge : Result Judgement RunFault → Result Done Fault
of_judge (Ok (judged.Works surety)) = Ok Plain
of_judge (Ok judged.NotInThisRun) = Ok Unclean
of_judge (Ok judged.NotByCondition) = Ok Unclean
of_judge (Ok judged.NotKnown) = Ok Unknown
of_judge (Err f) = Err (fault.Run f)

-- the status of a run: 0; 1 where the input was refused for what it says, some member of a sweep isn't clean, what is strict says no, or a bus that is judged doesn't work; 4 if that isn't known; 2 where its plan doesn't allow the words of a sweep, or there is no plan for those of `init`;
-- 3 when out of memory, for a fault of reading, writing or workers, or if a line has no other format
abbrev pub run_status : Result Done Fault → ℕ
run_status (Ok Plain) = 0
run_status (Ok Unclean) = 1
run_status (Ok Unknown) = 4
run_status (Err (fault.Run f)) = if is_refusal f then 1 else 3
run_status (Err (fault.Word f)) = 2
run_status (Err fault.Node) = 2
run_status (Err (fault.Init f)) = 2
run_status (Err (fault.Settings f)) = 1
run_status (Err (fault.Apply f)) = 1
run_status (Err (fault.Print f)) = 1
run_status (Err (fault.Join f)) = 1
run_status (Err fault.Format) = 3

-- the status of a command line that named no task
abbrev pub refusal_status : Refusal → ℕ
refusal_status Words = 2
refusal_status Memory = 3

-- how many threads a sweep has: so many as are said, else 1 to 8
abbrev pub IsCount : Option ℕ → ℕ → Type 0
IsCount (Some said) count = count ≡ said
IsCount None count = (1 ≤ count) × (count ≤ 8)

-- the list of settings has other formats, and the plan of one has not
abbrev pub subject_of_settings : Shown → Option Subject
subject_of_settings (listed.Best most) = Some subject.Settings
subject_of_settings listed.Plan = None

-- what a spike costs has lines of its own
abbrev pub subject_of_sweep : (spike : Bool) → Subject
subject_of_sweep true = subject.Spikes
subject_of_sweep false = subject.Sweep

-- The command of a task, if other formats are made of its text. A member of a sweep is a plan, its map a page, and a part of it JSON.
abbrev pub subject_of : Task → Option Subject
subject_of (Init wish) = None
subject_of (Merge limits) = None
subject_of (Horizon limits) = None
subject_of Check = Some subject.Check
subject_of Upgrade = None
subject_of (Records window) = None
subject_of (Run workers kind brief strict) = Some subject.Run
subject_of (Explain strict) = Some subject.Explain
subject_of (Trace pick) = Some subject.Trace
subject_of (Candump tick from errors window) = None
subject_of (Vcd tick window) = None
subject_of (Page tick window) = None
subject_of (Margin tick all strict) = Some subject.Margin
subject_of (Respond tick any strict) = None
subject_of (Traffic tick strict) = Some subject.Traffic
subject_of (Judge tick explain) = Some subject.Judge
subject_of (Settings tick shown strict) = subject_of_settings shown
subject_of (Sweep swept) = if not swept.join && (is_some swept.part || is_some swept.print || swept.page) then None else Some (subject_of_sweep swept.spike)

-- what is asked of a sweep
abbrev pub sweep_asked : Swept → Asked
sweep_asked swept = record { options = swept.options; worst = swept.worst }

-- an engine answered, and that is what is answered
abbrev pub Plainly : (Result (Unit {0}) RunFault → Type 0) → Result Done Fault → Type 0
Plainly Runs r = (answer : Result (Unit {0}) RunFault) × Runs answer × (r ≡ plainly answer)

-- the same with a verdict, which the status says if it is to
abbrev pub Strictly : (strict : Bool) → (Result Bool RunFault → Type 0) → Result Done Fault → Type 0
Strictly strict Runs r = (answer : Result Bool RunFault) × Runs answer × (r ≡ of_verdict strict answer)

module _ {S T : Type 0} (gives : S → Answer → S → Type 0) (takes : T → Answer → T → Type 0) (s s' : S) (t t' : T) where
  -- what is found of a family of plans, its map, or one of its members, was written
  abbrev pub DoesSweep : Swept → List Text → Option ℕ → Bool → Result Done Fault → Type 0
  DoesSweep swept ranges None true r =
      (answer : Result Bool SweepFault) × (count : ℕ) × IsCount swept.workers count × Maps gives takes ranges (sweep_asked swept) s s' t t' count answer
      × (r ≡ of_map answer)
  DoesSweep swept ranges None false r =
      (answer : Result Tally SweepFault) × (count : ℕ) × IsCount swept.workers count × Sweeps gives takes ranges (sweep_asked swept) s s' t t' count answer
      × AnswersSweep answer r
  DoesSweep swept ranges (Some n) page r =
      (answer : Result (Unit {0}) SweepFault) × Prints gives takes ranges (sweep_asked swept) s s' t t' n answer × (r ≡ of_print answer)

  -- or a part of that, or what all parts say together
  abbrev pub DoesSwept : Swept → List Text → Bool → Option Share → Result Done Fault → Type 0
  DoesSwept swept ranges true part r = (answer : Result Bool JoinFault) × Joins gives takes s s' t t' answer × (r ≡ of_join answer)
  DoesSwept swept ranges false (Some share) r =
      (answer : Result (Unit {0}) SweepFault) × (count : ℕ) × IsCount swept.workers count
      × Parts gives takes ranges (sweep_asked swept) s s' t t' share count answer × (r ≡ of_print answer)
  DoesSwept swept ranges false None r = DoesSweep swept ranges swept.print swept.page r

  -- what a spike costs at one place in time after another was written, or one of its members
  abbrev pub DoesSpikes : Swept → List Text → Option ℕ → Result Done Fault → Type 0
  DoesSpikes swept words None r =
      (answer : Result Bool SweepFault) × (count : ℕ) × IsCount swept.workers count × RunsSpikes gives takes words (sweep_asked swept) s s' t t' count answer
      × (r ≡ of_map answer)
  DoesSpikes swept words (Some n) r =
      (answer : Result (Unit {0}) SweepFault) × PrintsSpike gives takes words (sweep_asked swept) s s' t t' n answer × (r ≡ of_print answer)

  abbrev pub DoesAnySweep : Swept → List Text → (spike : Bool) → Result Done Fault → Type 0
  DoesAnySweep swept words true r = DoesSpikes swept words swept.print r
  DoesAnySweep swept words false r = DoesSwept swept words swept.join swept.part r

  -- what is doubtful of a plan was written
  abbrev pub DoesExplain : (strict : Bool) → Result Done Fault → Type 0
  DoesExplain strict r = (answer : Result Bool RunFault) × Explains gives takes s s' t t' answer × (r ≡ of_doubts strict answer)

  -- whether a bus works was written
  abbrev pub DoesJudge : Tick → (explain : Bool) → Result Done Fault → Type 0
  DoesJudge tick explain r = (answer : Result Judgement RunFault) × RunsJudge gives takes tick explain s s' t t' answer × (r ≡ of_judge answer)

  -- the traffic of a run was written
  abbrev pub DoesTraffic : Tick → Bool → Result Done Fault → Type 0
  DoesTraffic tick strict r = (answer : Result Reason RunFault) × RunsTraffic gives takes tick s s' t t' answer × (r ≡ of_traffic strict answer)

  -- the trace of a run was written: as far as it is picked, or of the node of a name
  abbrev pub DoesTrace : Pick → List Text → Result Done Fault → Type 0
  DoesTrace pick [] r = Plainly (RunsPlan gives takes (IsTracePicked pick) s s' t t') r
  DoesTrace pick (name ∷ more) r =
      (answer : Result Bool RunFault) × RunsPlanWith gives takes (IsNodeTrace pick name) s s' t t' answer × (r ≡ of_named_trace answer)

  -- the settings of a bus were written: of a text, or of words in its place, over which nothing is read
  abbrev pub FindsSettings : Tick → Shown → List AskedWord → Result Bool SettingsFault → Type 0
  FindsSettings tick shown [] answer = RunsSettings gives takes (tick_picoseconds tick) shown s s' t t' answer
  FindsSettings tick shown (w ∷ ws) answer = (s' ≡ s) × RunsWords takes (tick_picoseconds tick) shown (w ∷ ws) t t' answer

  abbrev pub DoesSettings : Tick → Shown → (strict : Bool) → List AskedWord → Result Done Fault → Type 0
  DoesSettings tick shown strict asked r =
      (answer : Result Bool SettingsFault) × FindsSettings tick shown asked answer × (r ≡ of_settings strict answer)

  -- what was done for a task, over the ranges of a sweep, the node of a trace or the words in the place of a text for `settings`
  abbrev pub Does : Task → List Text → List AskedWord → Result Done Fault → Type 0
  Does (Init wish) ranges asked r =
      (answer : Result (Unit {0}) InitFault) × (s' ≡ s) × Inits takes wish t t' answer × (r ≡ of_init answer)
  Does (Merge limits) ranges asked r = Plainly (Merges limits gives takes s s' t t') r
  Does (Horizon limits) ranges asked r = Plainly (TellsHorizons limits gives takes s s' t t') r
  Does Check ranges asked r = Plainly (RunsPlan gives takes IsPlanCheck s s' t t') r
  Does Upgrade ranges asked r = (answer : Result (Unit {0}) PrintFault) × Formats gives takes s s' t t' answer × (r ≡ of_format answer)
  Does (Records window) ranges asked r = Plainly (RunsPlan gives takes (IsRecordsWithin window) s s' t t') r
  Does (Run workers kind brief strict) ranges asked r =
      Strictly strict (λ a. MatchBool (workers == 1) (RunsPlanWith gives takes (IsReportOutput brief) s s' t t' a) (RunsByWorkersAs gives takes brief workers s s' t t' a)) r
  Does (Explain strict) ranges asked r = DoesExplain strict r
  Does (Trace pick) ranges asked r = DoesTrace pick ranges r
  Does (Candump tick from errors window) ranges asked r = Plainly (RunsPlan gives takes (IsLogAs errors tick from window) s s' t t') r
  Does (Vcd tick window) ranges asked r = Plainly (RunsPlan gives takes (IsVcdWithin tick window) s s' t t') r
  Does (Page tick window) ranges asked r = Plainly (PagesWithin gives takes tick window s s' t t') r
  Does (Margin tick all strict) ranges asked r = Strictly strict (RunsBus gives takes (IsMarginOutput tick all) s s' t t') r
  Does (Respond tick any strict) ranges asked r = Strictly strict (Responds gives takes tick any None s s' t t') r
  Does (Traffic tick strict) ranges asked r = DoesTraffic tick strict r
  Does (Judge tick explain) ranges asked r = DoesJudge tick explain r
  Does (Settings tick shown strict) ranges asked r = DoesSettings tick shown strict asked r
  Does (Sweep swept) ranges asked r = DoesAnySweep swept ranges swept.spike r

  -- the task was done, nothing else was read or written, and the status is that of what was answered
  abbrev pub EndsTask : Task → ℕ → Type 0
  EndsTask task status = (r : Result Done Fault) × Does task [] [] r × (status ≡ run_status r)

-- A plan with the first settings of what is asked for was written: of a text, or of words in its place, over which no text is read.
module _ {S P T : Type 0} (gives : S → Answer → S → Type 0) (plan_gives : P → Answer → P → Type 0) (takes : T → Answer → T → Type 0)
    (s s' : S) (p p' : P) (t t' : T) where
  abbrev pub AppliesAsked : Tick → List AskedWord → Result (Unit {0}) AppliedFault → Type 0
  AppliesAsked tick [] answer =
      RunsApplied plan_gives takes (tick_picoseconds tick) p p' t t' (λ wanted. ReadsWanted gives (tick_picoseconds tick) s wanted s') answer
  AppliesAsked tick (w ∷ ws) answer =
      (s' ≡ s) × RunsApplied plan_gives takes (tick_picoseconds tick) p p' t t' (λ wanted. wanted_by_words (tick_picoseconds tick) (w ∷ ws) ≡ wanted) answer

  abbrev pub DoesApplied : Tick → List AskedWord → Result Done Fault → Type 0
  DoesApplied tick asked r = (answer : Result (Unit {0}) AppliedFault) × AppliesAsked tick asked answer × (r ≡ of_applied answer)

-- whether a fault is one of writing
abbrev pub is_write_of : RunFault → Bool
is_write_of run.Write = true
is_write_of f = false

abbrev pub is_write : Fault → Bool
is_write (fault.Run f) = is_write_of f
is_write f = false

-- the answer after the whole output was sent, or not
abbrev pub after_sent : Result Done Fault → Result (Unit {0}) WriteFault → Result Done Fault
after_sent answer (Ok u) = answer
after_sent answer (Err f) = Err (fault.Run run.Write)

-- the answer after a text was written in another format, or why not all of that went
abbrev pub after_written : Result Done Fault → Result (Unit {0}) Fault → Result Done Fault
after_written answer (Ok u) = answer
after_written answer (Err f) = Err f

-- What is written in the place of a text, after an engine has written that into memory and answered.
module _ {T : Type 0} (takes : T → Answer → T → Type 0) (t t' : T) (format : Format) (what : Subject) where
  -- its bytes in another format, or nothing
  abbrev pub WritesFormatted : List ℕ → Result Done Fault → Result Done Fault → Type 0
  WritesFormatted text answer r =
      ((bytes : List ℕ) × (sent : Result (Unit {0}) WriteFault) × (formatted format what text ≡ Some bytes) × Writes takes t bytes sent t'
      × (r ≡ after_sent answer sent))
      ⊎ ((t' ≡ t) × (((formatted format what text ≡ None) × (r ≡ Err fault.Format)) ⊎ (r ≡ Err (fault.Run run.Memory))))

  -- nothing
  abbrev pub WritesNothing : Fault → Result Done Fault → Type 0
  WritesNothing f r = (t' ≡ t) × (r ≡ Err f)

  -- after a fault: if the engine wrote nothing, nothing is written; and only for want of memory nothing can be written into memory
  abbrev pub WritesRefused : List ℕ → Fault → Result Done Fault → Type 0
  WritesRefused text f r =
      MatchBool (is_write f) (WritesNothing (fault.Run run.Memory) r)
      (MatchBool (length text == 0) (WritesNothing f r) (WritesFormatted text (Err f) r))

  abbrev pub WritesAs : List ℕ → Result Done Fault → Result Done Fault → Type 0
  WritesAs text (Ok done) r = WritesFormatted text (Ok done) r
  WritesAs text (Err f) r = WritesRefused text f r

-- what was written into memory
abbrev pub keeps : Kept → Answer → Kept → Type 0
keeps old answer new = KeepsMore old.bytes.items answer new.bytes.items

-- What was done for a task whose output is to have a format.
module _ {S T : Type 0} (gives : S → Answer → S → Type 0) (takes : T → Answer → T → Type 0) (s s' : S) (t t' : T) where
  abbrev pub DoesBy : Format → Option Subject → Task → List Text → List AskedWord → Result Done Fault → Type 0
  DoesBy format None task ranges asked r = Does gives takes s s' t t' task ranges asked r
  DoesBy format (Some what) task ranges asked r =
      (kept : Kept) × (kept' : Kept) × (answer : Result Done Fault) × (kept.bytes.items ≡ [])
      × Does gives keeps s s' kept kept' task ranges asked answer × WritesAs takes t t' format what kept'.bytes.items answer r

  -- `respond` makes the format itself, of its lines
  abbrev pub DoesIn : Format → Option RespondAsked → Task → List Text → List AskedWord → Result Done Fault → Type 0
  DoesIn format (Some w) task ranges asked r = Strictly w.strict (Responds gives takes w.tick w.any_data (Some format) s s' t t') r
  DoesIn format None task ranges asked r = DoesBy format (subject_of task) task ranges asked r

  abbrev pub DoesAs : Option Format → Task → List Text → List AskedWord → Result Done Fault → Type 0
  DoesAs None task ranges asked r = Does gives takes s s' t t' task ranges asked r
  DoesAs (Some format) task ranges asked r = DoesIn format (respond_asked task) task ranges asked r
