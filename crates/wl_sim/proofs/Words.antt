-- What the program does for words that name a task alone.
use Rattle.std.proofs.Common.{◌≡◌, refl, sym, subst, inl, arith, ℕ, ◌==◌, Bool, true, false, [], List, map, string_bytes, Option, Some, None}
use Rattle.std.specs.Prelude.{Result, Ok, Err, IfOk, MatchBool}
use Rattle.clap.specs.Words.{Text}
use Rattle.wl_device.specs.Devices.{Answer}
use Rattle.wl_engines.specs.declared.fault.RunFault.TheVariants as run
use Rattle.wl_files.specs.Files.{Standing}
use Rattle.wl_lines.specs.declared.formats.Format.{Format}
use Rattle.wl_init.specs.declared.fault.InitFault.TheVariants as init
use Rattle.wl_print.specs.declared.fault.PrintFault.TheVariants as print
use Rattle.wl_settings.specs.declared.fault.SettingsFault.TheVariants as settings
use Rattle.wl_settings.specs.declared.topics.AskedWord.{AskedWord}
use Rattle.wl_sweep.specs.declared.part.Share.{Share}
use Rattle.wl_sweep_engine.specs.declared.fault.SweepFault.TheVariants as sweep
use Rattle.wl_sweep_engine.specs.declared.join.JoinFault.TheVariants as join
use Rattle.wl_words.specs.Asked.{IsTaskAlone, ReadsEachWord}
use Rattle.wl_words.specs.CommandLine.{NamesTask}
use Rattle.wl_words.specs.declared.command.Order.{Order}
use Rattle.wl_words.specs.declared.command.Refusal.{Refusal}
use Rattle.wl_words.specs.declared.command.Refusal.TheVariants.{Words, Memory}
use Rattle.wl_words.specs.declared.task.Task.{Task}
use Rattle.wl_words.specs.declared.task.Task.TheVariants.{Init, Merge, Horizon, Check, Upgrade, Records, Run, Explain, Trace, Candump, Vcd, Page, Margin, Respond, Traffic, Judge, Settings, Sweep}
use Rattle.wl_words.specs.declared.task.Swept.{Swept}
use Rattle.wl_sim.specs.Tasks.{Does, DoesAnySweep, DoesSpikes, DoesSweep, DoesSwept, IsCount, run_status}
use Rattle.wl_sim.specs.Orders.{Ends, EndsPlainly, Performs, PerformsBy, ReadsFrom, RunsWords, settings_tick}
use Rattle.wl_sim.specs.declared.answer.Done.{Done}
use Rattle.wl_sim.specs.declared.answer.Fault.{Fault}
use Rattle.wl_sim.specs.declared.answer.Fault.TheVariants as fault

both_same : {A : Type 0} (b : Bool) → A → MatchBool b A A
both_same true h = h
both_same false h = h

some_count : (said : Option ℕ) → (count : ℕ) × IsCount said count
some_count (Some n) = (n, refl)
some_count None = (1, (omega arith, omega arith))

module _ {S T : Type 0} (gives : S → Answer → S → Type 0) (takes : T → Answer → T → Type 0) where
  -- out of memory before anything is read or written
  sweeps_nothing : (s s' : S) (t t' : T) (swept : Swept) (number : Option ℕ) (page : Bool) → t' ≡ t → DoesSweep gives takes s s' t t' swept [] number page (Err (fault.Run run.Memory))
  sweeps_nothing s s' t t' swept None true h = (Err sweep.Memory, (some_count swept.workers).0, (some_count swept.workers).1, h, refl)
  sweeps_nothing s s' t t' swept None false h = (Err sweep.Memory, (some_count swept.workers).0, (some_count swept.workers).1, h, refl)
  sweeps_nothing s s' t t' swept (Some n) page h = (Err sweep.Memory, h, refl)

  swept_nothing : (s s' : S) (t t' : T) (swept : Swept) (joins : Bool) (part : Option Share) → t' ≡ t
      → DoesSwept gives takes s s' t t' swept [] joins part (Err (fault.Run run.Memory))
  swept_nothing s s' t t' swept true part h = (Err join.Memory, h, refl)
  swept_nothing s s' t t' swept false (Some share) h = (Err sweep.Memory, (some_count swept.workers).0, (some_count swept.workers).1, h, refl)
  swept_nothing s s' t t' swept false None h = sweeps_nothing s s' t t' swept swept.print swept.page h

  spikes_nothing : (s s' : S) (t t' : T) (swept : Swept) (number : Option ℕ) → t' ≡ t → DoesSpikes gives takes s s' t t' swept [] number (Err (fault.Run run.Memory))
  spikes_nothing s s' t t' swept None h = (Err sweep.Memory, (some_count swept.workers).0, (some_count swept.workers).1, h, refl)
  spikes_nothing s s' t t' swept (Some n) h = (Err sweep.Memory, h, refl)

  any_sweep_nothing : (s s' : S) (t t' : T) (swept : Swept) (spike : Bool) → t' ≡ t → DoesAnySweep gives takes s s' t t' swept [] spike (Err (fault.Run run.Memory))
  any_sweep_nothing s s' t t' swept true h = spikes_nothing s s' t t' swept swept.print h
  any_sweep_nothing s s' t t' swept false h = swept_nothing s s' t t' swept swept.join swept.part h

  does_nothing : (s s' : S) (t t' : T) (task : Task) → s' ≡ s → t' ≡ t → Does gives takes s s' t t' task [] [] (Err (fault.Run run.Memory))
  does_nothing s s' t t' (Init wish) g h = (Err init.Memory, g, inl (h, inl refl), refl)
  does_nothing s s' t t' (Merge limits) g h = (Err run.Memory, h, refl)
  does_nothing s s' t t' (Horizon limits) g h = (Err run.Memory, h, refl)
  does_nothing s s' t t' Check g h = (Err run.Memory, h, refl)
  does_nothing s s' t t' Upgrade g h = (Err print.Memory, inl (h, inl refl), refl)
  does_nothing s s' t t' (Records window) g h = (Err run.Memory, h, refl)
  does_nothing s s' t t' (Run workers kind brief strict) g h = (Err run.Memory, both_same (workers == 1) h, refl)
  does_nothing s s' t t' (Explain strict) g h = (Err run.Memory, h, refl)
  does_nothing s s' t t' (Trace pick) g h = (Err run.Memory, h, refl)
  does_nothing s s' t t' (Candump tick from errors window) g h = (Err run.Memory, h, refl)
  does_nothing s s' t t' (Vcd tick window) g h = (Err run.Memory, h, refl)
  does_nothing s s' t t' (Page tick window) g h = (Err run.Memory, h, refl)
  does_nothing s s' t t' (Margin tick all strict) g h = (Err run.Memory, h, refl)
  does_nothing s s' t t' (Respond tick any strict) g h = (Err run.Memory, h, refl)
  does_nothing s s' t t' (Traffic tick strict) g h = (Err run.Memory, h, refl)
  does_nothing s s' t t' (Judge tick explain) g h = (Err run.Memory, h, refl)
  does_nothing s s' t t' (Settings tick shown strict) g h = (Err settings.Memory, inl (h, inl refl), refl)
  does_nothing s s' t t' (Sweep swept) g h = any_sweep_nothing s s' t t' swept swept.spike h

-- what is done over an order without files is done over the standard devices
module _ {S T F R W : Type 0} (gives : S → Answer → S → Type 0) (takes : T → Answer → T → Type 0)
    (file_gives : R → Answer → R → Type 0) (file_takes : W → Answer → W → Type 0)
    (opens : F → Text → R → Type 0) (stands : F → Text → Standing) (holds : W → Standing) (s s' : S) (t t' : T) (f f' : F) where
  plain_reads : (input output : Option Text) (format : Option Format) (task : Task) (ranges : List Text) (asked : List AskedWord) (r : Result Done Fault)
      → input ≡ None → output ≡ None → format ≡ None
      → ReadsFrom gives takes file_gives file_takes opens stands holds s s' t t' f f' input format task ranges asked output r
      → Does gives takes s s' t t' task ranges asked r × (f' ≡ f)
  plain_reads None None None task ranges asked r i o p h = h
  plain_reads None None (Some x) task ranges asked r i o p h = cc
  plain_reads None (Some x) format task ranges asked r i o p h = cc
  plain_reads (Some x) output format task ranges asked r i o p h = cc

  -- the task alone was done, and its status is that of what was answered
  alone_is_done : (order : Order) (task : Task) (r : Result Done Fault) (status : ℕ) → IsTaskAlone task (Ok order)
      → Performs gives takes file_gives file_takes opens stands holds s s' t t' f f' order r → status ≡ run_status r
      → EndsPlainly gives takes file_gives file_takes opens stands holds s s' t t' f f' task status
  alone_is_done order task r status alone done is =
      let ranges = map string_bytes order.ranges.items in
      let without = subst (λ plan. PerformsBy gives takes file_gives file_takes opens stands holds s s' t t' f f' plan (settings_tick order.task) order r) alone.6 done in
      let plain = plain_reads order.input order.output order.format order.task ranges order.asked.items r alone.1 alone.2 alone.4 without in
      let of_task = subst (λ k. Does gives takes s s' t t' k ranges order.asked.items r) alone.0 plain.0 in
      let plainly = subst (λ rs. Does gives takes s s' t t' task rs order.asked.items r) alone.3 of_task in
      ((r, subst (λ asked. Does gives takes s s' t t' task [] asked r) alone.5 plainly, is), plain.1)

  -- or memory ran out
  alone_ends : (read : Result Order Refusal) (task : Task) (status : ℕ) → IsTaskAlone task read
      → Ends gives takes file_gives file_takes opens stands holds s s' t t' f f' read status
      → EndsPlainly gives takes file_gives file_takes opens stands holds s s' t t' f f' task status
  alone_ends (Ok order) task status alone ends = alone_is_done order task ends.0 status alone ends.1 ends.2
  alone_ends (Err Words) task status alone h = let no : Words ≡ Memory = alone in cc
  alone_ends (Err Memory) task status alone h = ((Err (fault.Run run.Memory), does_nothing gives takes s s' t t' task h.0 h.1, h.3), h.2)

  -- whatever was read of words that name a task, that task ends
  pub runs_named : (words : List Text) (status : ℕ) → ReadsEachWord
      → RunsWords gives takes file_gives file_takes opens stands holds s s' t t' f f' words status
      → (task : Task) → NamesTask task words → EndsPlainly gives takes file_gives file_takes opens stands holds s s' t t' f f' task status
  runs_named words status each runs task named = alone_ends runs.0 task status (each words runs.0 runs.1 task named) runs.2

pub of_ok : {A E : Type 0} (r : Result A E) (x : A) (P : A → Type 0) → r ≡ Ok x → P x → IfOk r P
of_ok r x P is h = subst (λ r. IfOk r P) (sym is) h
