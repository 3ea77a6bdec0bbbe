-- What goes out after a text was made of what was read.
use Rattle.std.proofs.Common.{◌≡◌, ℕ, List, Result, Ok, Err, sym, subst}
use Rattle.std.specs.Prelude.{IfOk, MatchResult, Vec}
use Rattle.wl_device.specs.Devices.{Answer, Writes}
use Rattle.wl_plan.specs.declared.plan.Plan.{Plan}
use Rattle.wl_setup.specs.Buses.{GivesBus}
use Rattle.wl_setup.specs.Plans.{GivesPlan}
use Rattle.wl_setup.specs.declared.bus.Bus.{Bus}
use Rattle.wl_engines.specs.declared.fault.RunFault.{RunFault}
use Rattle.wl_engines.specs.declared.fault.RunFault.TheVariants.{Text, Setup, Work, Write, Memory}
use Rattle.wl_engines.specs.Margin.{RunsBus}
use Rattle.wl_engines.specs.Output.{Outputs, OutputsWith, WritesAnswer, WritesSomeWith, WritesText}
use Rattle.wl_engines.specs.Plans.{RunsPlan, RunsPlanWith}

module _ {T : Type 0} (takes : T → Answer → T → Type 0) (t t' : T) where
  -- the text that was made went out, or memory ran out
  pub outputs_made : {Z E : Type 0} (IsText : List ℕ → Type 0) (made : Result (Vec ℕ Z) E) (r : Result (Unit {0}) RunFault)
      → MatchResult made (λ text. WritesText takes text.items t t' r) (λ e. (r ≡ Err Memory) × (t' ≡ t))
      → IfOk made (λ text. IsText text.items) → Outputs takes IsText t t' r
  outputs_made IsText (Ok text) (Ok u) wrote is = (text.items, is, wrote)
  outputs_made IsText (Ok text) (Err Write) wrote is = (wrote.0, (text.items, is, wrote.1))
  outputs_made IsText (Ok text) (Err Memory) wrote is = absurd wrote
  outputs_made IsText (Ok text) (Err (Text fault)) wrote is = absurd wrote
  outputs_made IsText (Ok text) (Err (Setup fault)) wrote is = absurd wrote
  outputs_made IsText (Ok text) (Err (Work fault)) wrote is = absurd wrote
  outputs_made IsText (Err e) r none is = subst (λ (r : Result (Unit {0}) RunFault). Outputs takes IsText t t' r) (sym none.0) none.1

  -- a text went out, and its answer was given with it
  pub outputs_with : {A : Type 0} (IsText : List ℕ → A → Type 0) (text bytes : List ℕ) (a : A) → bytes ≡ text → IsText text a → (r : Result A RunFault)
      → WritesAnswer takes bytes a t t' r → OutputsWith takes IsText t t' r
  outputs_with IsText text bytes a same is (Ok b) wrote =
      subst (λ x. WritesSomeWith takes IsText t t' x (Ok tt)) (sym wrote.0) (text, is, subst (λ (x : List ℕ). Writes takes t x (Ok tt) t') same wrote.1)
  outputs_with IsText text bytes a same is (Err Write) wrote =
      (a, wrote.0, (text, is, subst (λ (x : List ℕ). Writes takes t x (Err wrote.0) t') same wrote.1))
  outputs_with IsText text bytes a same is (Err Memory) wrote = absurd wrote
  outputs_with IsText text bytes a same is (Err (Text fault)) wrote = absurd wrote
  outputs_with IsText text bytes a same is (Err (Setup fault)) wrote = absurd wrote
  outputs_with IsText text bytes a same is (Err (Work fault)) wrote = absurd wrote

module _ {S T : Type 0} (gives : S → Answer → S → Type 0) (takes : T → Answer → T → Type 0) (s s' : S) (t t' : T) where
  -- what went out of a plan that was read
  pub runs_plan : (IsOutput : Plan → List (List ℕ) → List ℕ → Type 0) (plan : Plan) (names : List (List ℕ)) → GivesPlan gives s (Ok (plan, names)) s'
      → (r : Result (Unit {0}) RunFault) → Outputs takes (IsOutput plan names) t t' r → RunsPlan gives takes IsOutput s s' t t' r
  runs_plan IsOutput plan names given (Ok u) h = (plan, names, h.0, given, h.1, h.2)
  runs_plan IsOutput plan names given (Err Write) h = (h.0, (plan, names, h.1.0, given, h.1.1, h.1.2))
  runs_plan IsOutput plan names given (Err Memory) h = h
  runs_plan IsOutput plan names given (Err (Text fault)) h = absurd h.0
  runs_plan IsOutput plan names given (Err (Setup fault)) h = absurd h.0
  runs_plan IsOutput plan names given (Err (Work fault)) h = absurd h.0

  -- what went out of a plan that was read, and is answered with it
  pub runs_plan_with : {A : Type 0} (IsOutput : Plan → List (List ℕ) → List ℕ → A → Type 0) (plan : Plan) (names : List (List ℕ))
      → GivesPlan gives s (Ok (plan, names)) s' → (r : Result A RunFault) → OutputsWith takes (IsOutput plan names) t t' r
      → RunsPlanWith gives takes IsOutput s s' t t' r
  runs_plan_with IsOutput plan names given (Ok a) h = (plan, names, h.0, given, h.1, h.2)
  runs_plan_with IsOutput plan names given (Err Write) h = (h.0, h.1, (plan, names, h.2.0, given, h.2.1, h.2.2))
  runs_plan_with IsOutput plan names given (Err Memory) h = h
  runs_plan_with IsOutput plan names given (Err (Text fault)) h = absurd h.0
  runs_plan_with IsOutput plan names given (Err (Setup fault)) h = absurd h.0
  runs_plan_with IsOutput plan names given (Err (Work fault)) h = absurd h.0

  -- and of a bus
  pub runs_bus : {A : Type 0} (IsOutput : Bus → List ℕ → A → Type 0) (bus : Bus) → GivesBus gives s (Ok bus) s'
      → (r : Result A RunFault) → OutputsWith takes (IsOutput bus) t t' r → RunsBus gives takes IsOutput s s' t t' r
  runs_bus IsOutput bus given (Ok a) h = (bus, h.0, given, h.1, h.2)
  runs_bus IsOutput bus given (Err Write) h = (h.0, h.1, (bus, h.2.0, given, h.2.1, h.2.2))
  runs_bus IsOutput bus given (Err Memory) h = h
  runs_bus IsOutput bus given (Err (Text fault)) h = absurd h.0
  runs_bus IsOutput bus given (Err (Setup fault)) h = absurd h.0
  runs_bus IsOutput bus given (Err (Work fault)) h = absurd h.0
