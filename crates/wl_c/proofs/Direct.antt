-- What the runs of engines over a text in memory say of the text itself.
use Rattle.std.proofs.Common.{◌≡◌, ◌≤◌, ◌<◌, ◌∙◌, ℕ, Bool, true, false, List, [], ◌++◌, length, refl, sym, ap, subst, if◌then◌else◌, MatchBool, Result, Ok, Err}
use Rattle.std.proofs.lemmas.Bool.{le-leb, lt-leb}
use Rattle.wl_device.specs.Bounded.{ReadsUpTo}
use Rattle.wl_device.specs.declared.bounded.Ended.{Ended}
use Rattle.wl_device.specs.declared.bounded.Ended.TheVariants as reading
use Rattle.wl_plan.specs.declared.plan.Plan.{Plan}
use Rattle.wl_setup.specs.Buses.{GivesBus, bus_of_text}
use Rattle.wl_setup.specs.Limits.{most_bytes}
use Rattle.wl_setup.specs.Plans.{GivesPlan, after, named_plan_of}
use Rattle.wl_setup.specs.Reading.{reading_answer, text_answer}
use Rattle.wl_setup.specs.declared.bus.Bus.{Bus}
use Rattle.wl_setup.specs.declared.fault.SetupFault.{SetupFault}
use Rattle.wl_setup.specs.declared.fault.SetupFault.TheVariants as setup
use Rattle.wl_explain.specs.Refusals.{IsRefusal, size_words}
use Rattle.wl_engines.specs.Answered.{Answers, AnswersReading}
use Rattle.wl_engines.specs.Explained.{Explains, ExplainsReading, IsExplanationOf}
use Rattle.wl_engines.specs.Margin.{RunsBus}
use Rattle.wl_engines.specs.Plans.{RunsPlan, RunsPlanWith}
use Rattle.wl_engines.specs.declared.fault.RunFault.{RunFault}
use Rattle.wl_engines.specs.declared.fault.RunFault.TheVariants as run
use Rattle.wl_engines.specs.declared.fault.RunFault.TheVariants.{Setup}
use Rattle.wl_engines.proofs.Callers.{gives, too_long, unbroken, whole}
use Rattle.wl_c.proofs.Reading.{takes, wrote, wrote_front}
use Rattle.wl_c.specs.Made.{ByMade, IsMade, without_answer}
use Rattle.wl_c.specs.Texts.{AreWordsOn, ExplainsRefusal, HasNoBus, HasNoPlan, IsAnswered, IsOfBus, IsOfPlan, IsOfRun, bus_read, plan_read, text_read}
use Rattle.wl_c.specs.declared.engines.Made.{Made}
use Rattle.wl_c.specs.declared.engines.Made.TheVariants.{Output, Refusal, OutOfMemory}

within : (text : List ℕ) → length text ≤ most_bytes → text_read text ≡ text_answer text
within text few = ap (λ b. if b then text_answer text else Err setup.Size) (le-leb (length text) most_bytes few)

beyond : (text : List ℕ) → most_bytes < length text → text_read text ≡ Err setup.Size
beyond text many = ap (λ b. if b then text_answer text else Err setup.Size) (lt-leb (length text) most_bytes many)

-- equal refusals have one fault
same_fault : {A : Type 0} (f g : SetupFault) (r r' : Result A RunFault) → r ≡ Err (Setup f) → r' ≡ Err (Setup g) → r ≡ r' → f ≡ g
same_fault f g r r' a b e = cc

module _ {S : Type 0} (rest : S → List ℕ) (s s' : S) where
  read_is : (text : List ℕ) (e : Ended) → ReadsUpTo (gives rest) s most_bytes text e s' → text_read (rest s) ≡ reading_answer e text
  read_is text reading.End r = let w : (text ≡ rest s) × (length text ≤ most_bytes) = whole rest s s' text r in ap text_read (sym w.0) ∙ within text w.1
  read_is text reading.Broken r = absurd (unbroken rest s s' text r)
  read_is text reading.Full r = beyond (rest s) (too_long rest s s' text r)

  -- the plan, or the fault, that the reader gave is the text's
  plan_is : (answer : Result (Plan × List (List ℕ)) SetupFault) → GivesPlan (gives rest) s answer s' → plan_read (rest s) ≡ answer
  plan_is answer g =
      ap (λ x. after x named_plan_of) (read_is g.1.0 g.1.1 g.1.2 ∙ sym g.1.3) ∙ sym g.2

  bus_is : (answer : Result Bus SetupFault) → GivesBus (gives rest) s answer s' → bus_read (rest s) ≡ answer
  bus_is answer g =
      ap (λ x. after x bus_of_text) (read_is g.1.0 g.1.1 g.1.2 ∙ sym g.1.3) ∙ sym g.2

module _ {S T : Type 0} (rest : S → List ℕ) (bytes : T → List ℕ) (s s' : S) (t t' : T) (none : bytes t ≡ []) where
  -- of a run over a plan
  pub plan_made : (IsOutput : Plan → List (List ℕ) → List ℕ → Type 0) (answer : Result (Unit {0}) RunFault) (made : Made)
      → RunsPlan (gives rest) (takes bytes) IsOutput s s' t t' answer → IsMade answer (bytes t') made
      → ByMade (IsOfPlan (rest s) IsOutput) (HasNoPlan (rest s)) made
  plan_made IsOutput answer (Output v) h m =
      let r : RunsPlan (gives rest) (takes bytes) IsOutput s s' t t' (Ok tt) = subst (λ a. RunsPlan (gives rest) (takes bytes) IsOutput s s' t t' a) m.0 h in
      (r.0, r.1, plan_is rest s s' (Ok (r.0, r.1)) r.3, subst (λ (x : List ℕ). IsOutput r.0 r.1 x) (sym (m.1 ∙ wrote bytes r.2 t t' none r.5)) r.4)
  plan_made IsOutput answer (Refusal v) h m =
      let r : RunsPlan (gives rest) (takes bytes) IsOutput s s' t t' (Err (Setup m.0)) = subst (λ a. RunsPlan (gives rest) (takes bytes) IsOutput s s' t t' a) m.1 h in
      (m.0, r.0.0, plan_is rest s s' (Err m.0) r.0.1, m.2 ∙ ap bytes r.1 ∙ none)
  plan_made IsOutput answer OutOfMemory h m = tt

  -- the fault that was answered is that of the text
  same_refusal : {A : Type 0} (fault : SetupFault) (answer : Result A RunFault) → without_answer answer ≡ Err (Setup fault) → answer ≡ Err (Setup fault)
  same_refusal fault (Ok a) e = cc
  same_refusal fault (Err f) e = cc

  -- of a run over a plan that has an answer besides
  pub run_made : (IsOutput : Plan → List (List ℕ) → List ℕ → Bool → Type 0) (answer : Result Bool RunFault) (made : Made)
      → RunsPlanWith (gives rest) (takes bytes) IsOutput s s' t t' answer → IsMade (without_answer answer) (bytes t') made
      → ByMade (IsOfRun (rest s) IsOutput) (HasNoPlan (rest s)) made
  run_made IsOutput (Ok a) (Output v) r m =
      (a, (r.0, r.1, plan_is rest s s' (Ok (r.0, r.1)) r.3, subst (λ (x : List ℕ). IsOutput r.0 r.1 x a) (sym (m.1 ∙ wrote bytes r.2 t t' none r.5)) r.4))
  run_made IsOutput (Err fault) (Output v) r m = cc
  run_made IsOutput answer (Refusal v) h m =
      let r : RunsPlanWith (gives rest) (takes bytes) IsOutput s s' t t' (Err (Setup m.0)) =
      subst (λ a. RunsPlanWith (gives rest) (takes bytes) IsOutput s s' t t' a) (same_refusal m.0 answer m.1) h in
      (m.0, r.0.0, plan_is rest s s' (Err m.0) r.0.1, m.2 ∙ ap bytes r.1 ∙ none)
  run_made IsOutput answer OutOfMemory h m = tt

  -- of a run over a bus
  pub bus_made : (IsOutput : Bus → List ℕ → Bool → Type 0) (answer : Result Bool RunFault) (made : Made)
      → RunsBus (gives rest) (takes bytes) IsOutput s s' t t' answer → IsMade (without_answer answer) (bytes t') made
      → ByMade (IsOfBus (rest s) IsOutput) (HasNoBus (rest s)) made
  bus_made IsOutput (Ok a) (Output v) r m =
      (a, r.0, bus_is rest s s' (Ok r.0) r.2, subst (λ (x : List ℕ). IsOutput r.0 x a) (sym (m.1 ∙ wrote bytes r.1 t t' none r.4)) r.3)
  bus_made IsOutput (Err fault) (Output v) r m = cc
  bus_made IsOutput answer (Refusal v) h m =
      let r : RunsBus (gives rest) (takes bytes) IsOutput s s' t t' (Err (Setup m.0)) =
      subst (λ a. RunsBus (gives rest) (takes bytes) IsOutput s s' t t' a) (same_refusal m.0 answer m.1) h in
      (m.0, r.0.0, bus_is rest s s' (Err m.0) r.0.1, m.2 ∙ ap bytes r.1 ∙ none)
  bus_made IsOutput answer OutOfMemory h m = tt

  -- of a run that has an answer besides: the traffic, or how long messages may wait
  module _ {A : Type 0} (IsSaid : (text said : List ℕ) → A → Type 0) where
    answered : (a : A) (text : List ℕ) (e : Ended) → ReadsUpTo (gives rest) s most_bytes text e s'
        → AnswersReading IsSaid (takes bytes) e text t t' (Ok a) → IsAnswered (rest s) IsSaid (bytes t')
    answered a text reading.End r h =
        let w : (text ≡ rest s) × (length text ≤ most_bytes) = whole rest s s' text r in
        let is : IsSaid text (bytes t') a = subst (λ (x : List ℕ). IsSaid text x a) (sym (wrote bytes h.0 t t' none h.2)) h.1 in
        subst (λ (x : List ℕ). (length x ≤ most_bytes) × (a : A) × IsSaid x (bytes t') a) w.0 (w.1, a, is)
    answered a text reading.Broken r h = absurd (unbroken rest s s' text r)
    answered a text reading.Full r h = let no : Ok a ≡ Err (Setup setup.Size) = h.0 in cc

    unanswered : (fault : SetupFault) (text : List ℕ) (e : Ended) → ReadsUpTo (gives rest) s most_bytes text e s'
        → AnswersReading IsSaid (takes bytes) e text t t' (Err (Setup fault)) → HasNoBus (rest s) (bytes t')
    unanswered fault text reading.End r h =
        (fault, h.0, ap (λ x. after x bus_of_text) (read_is rest s s' text reading.End r) ∙ h.1, ap bytes h.2 ∙ none)
    unanswered fault text reading.Broken r h = absurd (unbroken rest s s' text r)
    unanswered fault text reading.Full r h =
        let is = same_fault fault setup.Size (Err (Setup fault)) (Err (Setup setup.Size)) refl refl h.0 in (
          fault,
          (λ e. cc),
          ap (λ x. after x bus_of_text) (beyond (rest s) (too_long rest s s' text r)) ∙ ap (λ f. Err f) (sym is),
          ap bytes h.1 ∙ none,
        )

    pub answer_made : (answer : Result A RunFault) (made : Made) → Answers IsSaid (gives rest) (takes bytes) s s' t t' answer
        → IsMade (without_answer answer) (bytes t') made → ByMade (IsAnswered (rest s) IsSaid) (HasNoBus (rest s)) made
    answer_made (Ok a) (Output v) h m =
        subst (λ (x : List ℕ). IsAnswered (rest s) IsSaid x) (sym m.1) (answered a h.0 h.1 h.2 h.3)
    answer_made (Err (Setup fault)) (Refusal v) h m =
        subst (λ (x : List ℕ). HasNoBus (rest s) x) (sym m.2) (unanswered fault h.0 h.1 h.2 h.3)
    answer_made (Ok a) (Refusal v) h m = cc
    answer_made (Err fault) (Output v) h m = cc
    answer_made (Err (run.Text fault)) (Refusal v) h m = cc
    answer_made (Err (run.Work fault)) (Refusal v) h m = cc
    answer_made (Err run.Write) (Refusal v) h m = cc
    answer_made (Err run.Memory) (Refusal v) h m = cc
    answer_made answer OutOfMemory h m = tt

  -- of an explanation
  explained : (doubted : Bool) (text : List ℕ) (e : Ended) → ReadsUpTo (gives rest) s most_bytes text e s'
      → ExplainsReading (takes bytes) e text t t' (Ok doubted) → IsOfBus (rest s) (IsExplanationOf (rest s)) (bytes t')
  explained doubted text reading.End r h =
      let w : (text ≡ rest s) × (length text ≤ most_bytes) = whole rest s s' text r in
      let is : IsExplanationOf text h.0 (bytes t') doubted =
      subst (λ (x : List ℕ). IsExplanationOf text h.0 x doubted) (sym (wrote bytes h.1 t t' none h.4)) h.3 in (
        doubted,
        h.0,
        ap (λ x. after x bus_of_text) (read_is rest s s' text reading.End r) ∙ h.2,
        subst (λ (x : List ℕ). IsExplanationOf x h.0 (bytes t') doubted) w.0 is,
      )
  explained doubted text reading.Broken r h = absurd (unbroken rest s s' text r)
  explained doubted text reading.Full r h = cc

  refused : (text : List ℕ) (e : Ended) (fault : SetupFault) → ReadsUpTo (gives rest) s most_bytes text e s'
      → ExplainsReading (takes bytes) e text t t' (Err (Setup fault)) → ExplainsRefusal (rest s) (bytes t')
  refused text reading.End fault r h =
      let w : (text ≡ rest s) × (length text ≤ most_bytes) = whole rest s s' text r in
      let front : (more : List ℕ) × (bytes t' ++ more ≡ h.2) = wrote_front bytes h.2 t t' h.4.0 none h.4.1 in
      let words : IsRefusal text fault (bytes t' ++ front.0) = subst (IsRefusal text fault) (sym front.1) h.3 in (
        fault,
        front.0,
        h.0,
        ap (λ x. after x bus_of_text) (read_is rest s s' text reading.End r) ∙ h.1,
        subst (λ x. AreWordsOn x fault (bytes t' ++ front.0)) w.0
            (subst (λ b. MatchBool b (IsRefusal text fault (bytes t' ++ front.0)) (bytes t' ++ front.0 ≡ size_words)) (sym (le-leb (length text) most_bytes w.1)) words),
      )
  refused text reading.Broken fault r h = absurd (unbroken rest s s' text r)
  refused text reading.Full fault r h =
      let many : most_bytes < length (rest s) = too_long rest s s' text r in
      let is : fault ≡ setup.Size = cc in
      let front : (more : List ℕ) × (bytes t' ++ more ≡ size_words) = wrote_front bytes size_words t t' h.1.0 none h.1.1 in (
        fault,
        front.0,
        (λ e. cc),
        ap (λ x. after x bus_of_text) (beyond (rest s) many) ∙ ap (λ f. Err f) (sym is),
        subst (λ b. MatchBool b (IsRefusal (rest s) fault (bytes t' ++ front.0)) (bytes t' ++ front.0 ≡ size_words)) (sym (lt-leb (length (rest s)) most_bytes many)) front.1,
      )

  pub explanation_made : (answer : Result Bool RunFault) (made : Made)
      → Explains (gives rest) (takes bytes) s s' t t' answer → IsMade (without_answer answer) (bytes t') made
      → ByMade (IsOfBus (rest s) (IsExplanationOf (rest s))) (ExplainsRefusal (rest s)) made
  explanation_made (Ok doubted) (Output v) r m =
      subst (IsOfBus (rest s) (IsExplanationOf (rest s))) (sym m.1) (explained doubted r.0 r.1 r.2 r.3)
  explanation_made (Err fault) (Output v) r m = cc
  explanation_made answer (Refusal v) h m =
      let r : Explains (gives rest) (takes bytes) s s' t t' (Err (Setup m.0)) =
      subst (λ a. Explains (gives rest) (takes bytes) s s' t t' a) (same_refusal m.0 answer m.1) h in
      subst (ExplainsRefusal (rest s)) (sym m.2) (refused r.0 r.1 m.0 r.2 r.3)
  explanation_made answer OutOfMemory h m = tt
