-- Which task a word and values name: as by `NamedTask`.
use Rattle.std.proofs.Common.{◌≡◌, ◌∙◌, refl, sym, subst, ap, ap₂, Bool, true, false, if◌then◌else◌, Option, Some, None, codes, option_and_then, option_map, unwrap_or}
use Rattle.std.specs.Str.{bytes_eq}
use Rattle.std.proofs.lemmas.Slice.Eq.{bytes_eq-Decides}
use Rattle.clap.specs.Words.{Text}
use Rattle.wl_words.specs.CommandLine.{HasValues, NamedTask, candump_task, init_task, judgement_task, or_task, page_task, plain_task, run_task, sweep_task, task_named, task_word, timed_task, trace_task, valued_task, vcd_task}
use Rattle.wl_words.specs.declared.task.Task.{Task}
use Rattle.wl_words.specs.declared.task.Task.TheVariants.{Init, Merge, Horizon, Check, Upgrade, Records, Run, Explain, Trace, Candump, Vcd, Page, Margin, Respond, Traffic, Judge, Settings, Sweep}
use Rattle.wl_words.specs.declared.values.Values.{Values}
use Rattle.wl_views.specs.declared.tick.Tick.{Tick}

same_task : (u t : Task) → Some u ≡ Some t → u ≡ t
same_task u t is = ap (λ o. unwrap_or o t) is

-- what follows of a choice by a word, in either case
by_choice : {P : Type 0} (w word : Text) (x y : Option Task) (t : Task) (b : Bool) → bytes_eq w word ≡ b
    → (w ≡ word → x ≡ Some t → P) → (y ≡ Some t → P) → (if b then x else y) ≡ Some t → P
by_choice w word x y t true e here there is = here ((bytes_eq-Decides w word).0 e) is
by_choice w word x y t false e here there is = there is

chosen : {P : Type 0} (w word : Text) (x y : Option Task) (t : Task)
    → (w ≡ word → x ≡ Some t → P) → (y ≡ Some t → P) → (if bytes_eq w word then x else y) ≡ Some t → P
chosen w word x y t here there is = by_choice w word x y t (bytes_eq w word) refl here there is

-- what a value that may be missing was
some_map : {A : Type 0} (o : Option A) (f : A → Task) (t : Task) → option_map f o ≡ Some t → (x : A) × (o ≡ Some x) × (f x ≡ t)
some_map (Some x) f t is = (x, refl, same_task (f x) t is)
some_map None f t is = let no : None ≡ Some t = is in cc

some_then : {A : Type 0} (o : Option A) (f : A → Option Task) (t : Task) → option_and_then f o ≡ Some t → (x : A) × (o ≡ Some x) × (f x ≡ Some t)
some_then (Some x) f t is = (x, refl, is)
some_then None f t is = let no : None ≡ Some t = is in cc

module _ (given : Option Values) (w : Text) (t : Task) where
  -- a word names this task with these values
  is_named : (u : Task) → HasValues given u → w ≡ task_word u → Some u ≡ Some t → NamedTask (Some w) given t
  is_named u has is same = subst (λ (x : Task). NamedTask (Some w) given x) (same_task u t same) (ap Some is, has)

  plain_named : plain_task w ≡ Some t → NamedTask (Some w) given t
  plain_named =
      chosen w (codes "check") _ _ t (is_named Check tt) (chosen w (codes "format") _ _ t (is_named Upgrade tt)
      (λ (no : None ≡ Some t). cc))

module _ (v : Values) (w : Text) (t : Task) where
  vcd_named : (tick : Tick) → v.tick ≡ Some tick → w ≡ codes "vcd" → vcd_task v tick ≡ Some t → NamedTask (Some w) (Some v) t
  vcd_named tick has is h =
      let window = some_map v.wave _ t h in
      is_named (Some v) w t (Vcd tick window.0) (has, window.1) is (ap Some window.2)

  page_named : (tick : Tick) → v.tick ≡ Some tick → w ≡ codes "page" → page_task v tick ≡ Some t → NamedTask (Some w) (Some v) t
  page_named tick has is h =
      let window = some_map v.wave _ t h in
      is_named (Some v) w t (Page tick window.0) (has, window.1) is (ap Some window.2)

  timed_named : (tick : Tick) → v.tick ≡ Some tick → timed_task w v tick ≡ Some t → NamedTask (Some w) (Some v) t
  timed_named tick has =
      chosen w (codes "vcd") _ _ t (vcd_named tick has) (chosen w (codes "page") _ _ t (page_named tick has)
      (chosen w (codes "margin") _ _ t (is_named (Some v) w t (Margin tick v.all_send v.strict) (has, refl, refl))
      (chosen w (codes "traffic") _ _ t (is_named (Some v) w t (Traffic tick v.strict) (has, refl))
      (chosen w (codes "settings") _ _ t (is_named (Some v) w t (Settings tick v.shown v.strict) (has, refl, refl))
      (chosen w (codes "respond") _ _ t (is_named (Some v) w t (Respond tick v.any_data v.strict) (has, refl, refl))
      (λ (no : None ≡ Some t). cc))))))

  run_named : w ≡ codes "run" → run_task v ≡ Some t → NamedTask (Some w) (Some v) t
  run_named is h =
      let workers = some_then v.workers _ t h in
      let link = some_map v.link _ t workers.2 in
      is_named (Some v) w t (Run workers.0 link.0 v.brief v.strict) (workers.1, link.1, refl, refl) is (ap Some link.2)

  candump_named : w ≡ codes "candump" → candump_task v ≡ Some t → NamedTask (Some w) (Some v) t
  candump_named is h =
      let tick = some_then v.tick _ t h in
      let from = some_map v.from _ t tick.2 in
      is_named (Some v) w t (Candump tick.0 from.0 v.errors v.window) (tick.1, from.1, refl, refl) is (ap Some from.2)

  trace_named : w ≡ codes "trace" → trace_task v ≡ Some t → NamedTask (Some w) (Some v) t
  trace_named is h =
      let pick = some_map v.pick _ t h in
      is_named (Some v) w t (Trace pick.0) pick.1 is (ap Some pick.2)

  sweep_named : w ≡ codes "sweep" → sweep_task v ≡ Some t → NamedTask (Some w) (Some v) t
  sweep_named is h =
      let swept = some_map v.swept _ t h in
      is_named (Some v) w t (Sweep swept.0) swept.1 is (ap Some swept.2)

  init_named : w ≡ codes "init" → init_task v ≡ Some t → NamedTask (Some w) (Some v) t
  init_named is h =
      let wish = some_map v.wish _ t h in
      is_named (Some v) w t (Init wish.0) wish.1 is (ap Some wish.2)

  judge_named : w ≡ codes "judge" → judgement_task v ≡ Some t → NamedTask (Some w) (Some v) t
  judge_named is h =
      let tick = some_map v.tick _ t h in
      is_named (Some v) w t (Judge tick.0 v.explain) (tick.1, refl) is (ap Some tick.2)

  other_named : option_and_then (timed_task w v) v.tick ≡ Some t → NamedTask (Some w) (Some v) t
  other_named h =
      let tick = some_then v.tick _ t h in
      timed_named tick.0 tick.1 tick.2

  valued_named : valued_task w v ≡ Some t → NamedTask (Some w) (Some v) t
  valued_named =
      chosen w (codes "merge") _ _ t (is_named (Some v) w t (Merge v.limits) refl) (chosen w (codes "horizon") _ _ t (is_named (Some v) w t (Horizon v.limits) refl)
      (chosen w (codes "records") _ _ t (is_named (Some v) w t (Records v.window) refl) (chosen w (codes "explain") _ _ t (is_named (Some v) w t (Explain v.strict) refl)
      (chosen w (codes "run") _ _ t run_named (chosen w (codes "trace") _ _ t trace_named
      (chosen w (codes "candump") _ _ t candump_named (chosen w (codes "sweep") _ _ t sweep_named
      (chosen w (codes "init") _ _ t init_named (chosen w (codes "judge") _ _ t judge_named other_named)))))))))

of_values : (w : Text) (t : Task) (given : Option Values) → option_and_then (valued_task w) given ≡ Some t → NamedTask (Some w) given t
of_values w t (Some v) is = valued_named v w t is
of_values w t None is = let no : None ≡ Some t = is in cc

of_either : (w : Text) (t : Task) (given : Option Values) (o : Option Task) → plain_task w ≡ o → or_task o (option_and_then (valued_task w) given) ≡ Some t
    → NamedTask (Some w) given t
of_either w t given (Some u) e is = plain_named given w t (e ∙ is)
of_either w t given None e is = of_values w t given is

-- a task that is found has this word and these values
pub of_found : (word : Option Text) (given : Option Values) (t : Task) → task_named word given ≡ Some t → NamedTask word given t
of_found None given t is = let no : None ≡ Some t = is in cc
of_found (Some w) given t is = of_either w t given (plain_task w) refl is

found_by_word : (given : Option Values) (t : Task) → HasValues given t → task_named (Some (task_word t)) given ≡ Some t
found_by_word given Check h = refl
found_by_word given Upgrade h = refl
found_by_word (Some v) (Init wish) h = ap (option_map (λ wish. Init wish)) h
found_by_word (Some v) (Merge limits) h = ap (option_map (λ limits. Merge limits)) h
found_by_word (Some v) (Horizon limits) h = ap (option_map (λ limits. Horizon limits)) h
found_by_word (Some v) (Records window) h = ap (option_map (λ window. Records window)) h
found_by_word (Some v) (Explain strict) h = ap (option_map (λ strict. Explain strict)) h
found_by_word (Some v) (Run workers link brief strict) h =
    ap₂ (λ o p. option_and_then (λ workers. option_map (λ link. Run workers link v.brief v.strict) p) o) h.0 h.1
    ∙ ap₂ (λ p q. Some (Run workers link (unwrap_or p brief) (unwrap_or q strict))) h.2 h.3
found_by_word (Some v) (Trace pick) h = ap (option_map (λ pick. Trace pick)) h
found_by_word (Some v) (Candump tick from errors window) h =
    ap₂ (λ o p. option_and_then (λ tick. option_map (λ from. Candump tick from v.errors v.window) p) o) h.0 h.1
    ∙ ap₂ (λ p q. Some (Candump tick from (unwrap_or p errors) (unwrap_or q window))) h.2 h.3
found_by_word (Some v) (Sweep swept) h = ap (option_map (λ swept. Sweep swept)) h
found_by_word (Some v) (Vcd tick window) h = ap₂ (λ o p. option_and_then (λ tick. option_map (λ window. Vcd tick window) p) o) h.0 h.1
found_by_word (Some v) (Page tick window) h = ap₂ (λ o p. option_and_then (λ tick. option_map (λ window. Page tick window) p) o) h.0 h.1
found_by_word (Some v) (Margin tick all strict) h =
    ap₂ (λ o p. option_map (λ tick. Margin tick (unwrap_or p all) v.strict) o) h.0 h.1 ∙ ap (λ q. Some (Margin tick all (unwrap_or q strict))) h.2
found_by_word (Some v) (Respond tick any strict) h =
    ap₂ (λ o p. option_map (λ tick. Respond tick (unwrap_or p any) v.strict) o) h.0 h.1 ∙ ap (λ q. Some (Respond tick any (unwrap_or q strict))) h.2
found_by_word (Some v) (Traffic tick strict) h = ap₂ (λ o p. option_map (λ tick. Traffic tick (unwrap_or p strict)) o) h.0 h.1
found_by_word (Some v) (Judge tick explain) h = ap₂ (λ o p. option_map (λ tick. Judge tick (unwrap_or p explain)) o) h.0 h.1
found_by_word (Some v) (Settings tick shown strict) h =
    ap₂ (λ o p. option_map (λ tick. Settings tick (unwrap_or p shown) v.strict) o) h.0 h.1 ∙ ap (λ q. Some (Settings tick shown (unwrap_or q strict))) h.2
found_by_word None (Init wish) h = let no : None ≡ Some wish = h in cc
found_by_word None (Merge limits) h = let no : None ≡ Some limits = h in cc
found_by_word None (Horizon limits) h = let no : None ≡ Some limits = h in cc
found_by_word None (Records window) h = let no : None ≡ Some window = h in cc
found_by_word None (Trace pick) h = let no : None ≡ Some pick = h in cc
found_by_word None (Explain strict) h = let no : None ≡ Some strict = h in cc
found_by_word None (Run workers link brief strict) h = let no : None ≡ Some workers = h.0 in cc
found_by_word None (Candump tick from errors window) h = let no : None ≡ Some tick = h.0 in cc
found_by_word None (Sweep swept) h = let no : None ≡ Some swept = h in cc
found_by_word None (Vcd tick window) h = let no : None ≡ Some tick = h.0 in cc
found_by_word None (Page tick window) h = let no : None ≡ Some tick = h.0 in cc
found_by_word None (Margin tick all strict) h = let no : None ≡ Some tick = h.0 in cc
found_by_word None (Respond tick any strict) h = let no : None ≡ Some tick = h.0 in cc
found_by_word None (Traffic tick strict) h = let no : None ≡ Some tick = h.0 in cc
found_by_word None (Judge tick explain) h = let no : None ≡ Some tick = h.0 in cc
found_by_word None (Settings tick shown strict) h = let no : None ≡ Some tick = h.0 in cc

-- a task with this word and these values is found
pub found_of : (word : Option Text) (given : Option Values) (t : Task) → NamedTask word given t → task_named word given ≡ Some t
found_of word given t h = ap (λ o. task_named o given) h.0 ∙ found_by_word given t h.1

-- what was found makes at most one task
pub one_found : (t u : Task) (word : Option Text) (given : Option Values) → NamedTask word given t → NamedTask word given u → u ≡ t
one_found t u word given h g = same_task u t (sym (found_of word given u g) ∙ found_of word given t h)
