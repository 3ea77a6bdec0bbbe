-- Refusals: that they are no fault of the writer, and what an engine that answers one has done.
use Rattle.std.proofs.Common.{◌≡◌, ◌≢◌, ◌∙◌, ap, sym, refl, ℕ, ◌+◌, Bool, true, false, cond, List, [], ◌∷◌, Result, Ok, Err, Option, Some, None, inl, inr, subst}
use Rattle.std.proofs.lemmas.Bool.{false≢true, true≢false}
use Rattle.wl_device.specs.Devices.{Answer}
use Rattle.wl_device.specs.declared.device.WriteFault.{WriteFault}
use Rattle.wl_setup.specs.declared.fault.SetupFault.{SetupFault}
use Rattle.wl_setup.specs.declared.fault.SetupFault.TheVariants as setup
use Rattle.wl_setup.specs.declared.plan_text.PlanText.{PlanText}
use Rattle.wl_setup.specs.Plans.{plan_of_text}
use Rattle.wl_setup.specs.Reading.{ReadsPlan}
use Rattle.wl_sweep.specs.declared.range.SweptRange.{SweptRange}
use Rattle.wl_sweep.specs.declared.sweep.Sweep.{Sweep}
use Rattle.wl_sweep.specs.declared.vary.RangeFault.{RangeFault}
use Rattle.wl_sweep.specs.declared.vary.RangeFault.TheVariants as range
use Rattle.wl_sweep.specs.Sweeps.{is_small}
use Rattle.wl_sweep.specs.Vary.{range_of}
use Rattle.wl_sweep_engine.specs.declared.asked.Asked.{Asked}
use Rattle.wl_sweep_engine.specs.declared.fault.SweepFault.{SweepFault}
use Rattle.wl_sweep_engine.specs.declared.fault.SweepFault.TheVariants as sweep
use Rattle.wl_sweep_engine.specs.Asked.{after, if_small, ranges_of, same_fault, sweep_of, text_asked}
use Rattle.wl_sweep_engine.specs.Faults.{of_range, of_setup}
use Rattle.std.specs.Prelude.{IsErrAnd}
use Rattle.wl_sweep_engine.specs.Printed.{printed_member}
use Rattle.wl_sweep_engine.specs.Ran.{Ran}
use Rattle.wl_sweep_engine.specs.Sweeping.{RefusesSweep}

abbrev pub is_write : SweepFault → Bool
is_write sweep.Runs = false
is_write sweep.Step = false
is_write sweep.Workers = false
is_write (sweep.Setup f) = false
is_write (sweep.Range i f) = false
is_write sweep.Rows = false
is_write sweep.Member = false
is_write sweep.Part = false
is_write (sweep.Spike f) = false
is_write sweep.Write = true
is_write sweep.Memory = false

abbrev is_memory : SweepFault → Bool
is_memory sweep.Runs = false
is_memory sweep.Step = false
is_memory sweep.Workers = false
is_memory (sweep.Setup f) = false
is_memory (sweep.Range i f) = false
is_memory sweep.Rows = false
is_memory sweep.Member = false
is_memory sweep.Part = false
is_memory (sweep.Spike f) = false
is_memory sweep.Write = false
is_memory sweep.Memory = true

not_memory : (e : SweepFault) → is_memory e ≡ false → e ≢ sweep.Memory
not_memory e is h = false≢true (sym is ∙ ap is_memory h)

-- a refusal isn't the writer's
abbrev pub Fine : {T : Type 0} → Result T SweepFault → Type 0
Fine (Ok x) = Unit {0}
Fine (Err e) = is_write e ≡ false

pub after_fine : {T U E : Type 0} (name : E → SweepFault) → ((e : E) → is_write (name e) ≡ false) → (r : Result T E) (make : T → Result U SweepFault)
    → ((x : T) → Fine (make x)) → Fine (after name r make)
after_fine name names (Ok x) make h = h x
after_fine name names (Err e) make h = names e

after_same_fine : {T U : Type 0} (r : Result T SweepFault) → Fine r → (make : T → Result U SweepFault) → ((x : T) → Fine (make x)) → Fine (after same_fault r make)
after_same_fine (Ok x) fine make h = h x
after_same_fine (Err e) fine make h = fine

pub setup_fine : (e : SetupFault) → is_write (of_setup e) ≡ false
setup_fine setup.Toml = refl
setup_fine setup.Version = refl
setup_fine (setup.Missing k) = refl
setup_fine (setup.Kind k) = refl
setup_fine (setup.Unknown k) = refl
setup_fine setup.SameName = refl
setup_fine setup.Size = refl
setup_fine (setup.NodeClock i f) = refl
setup_fine (setup.NodeSegments i f) = refl
setup_fine (setup.NodeFrame i n f) = refl
setup_fine (setup.Topology f) = refl
setup_fine (setup.Plan f) = refl
setup_fine setup.Read = refl
setup_fine setup.Memory = refl

pub setup_named : (e : SetupFault) → e ≢ setup.Memory → of_setup e ≡ sweep.Setup e
setup_named setup.Toml n = refl
setup_named setup.Version n = refl
setup_named (setup.Missing k) n = refl
setup_named (setup.Kind k) n = refl
setup_named (setup.Unknown k) n = refl
setup_named setup.SameName n = refl
setup_named setup.Size n = refl
setup_named (setup.NodeClock i f) n = refl
setup_named (setup.NodeSegments i f) n = refl
setup_named (setup.NodeFrame i m f) n = refl
setup_named (setup.Topology f) n = refl
setup_named (setup.Plan f) n = refl
setup_named setup.Read n = refl
setup_named setup.Memory n = absurd (n refl)

range_fine : (i : ℕ) (e : RangeFault) → is_write (of_range i e) ≡ false
range_fine i range.Form = refl
range_fine i range.Key = refl
range_fine i range.Node = refl
range_fine i range.Absent = refl
range_fine i range.Bounds = refl
range_fine i range.Order = refl
range_fine i range.Step = refl
range_fine i range.Rows = refl
range_fine i range.Memory = refl

ranges_fine : (plan : PlanText) (i : ℕ) (ws : List (List ℕ)) → Fine (ranges_of plan i ws)
ranges_fine plan i [] = tt
ranges_fine plan i (w ∷ ws) =
    after_fine (of_range i) (range_fine i) (range_of plan w)
    (λ (g : SweptRange). after same_fault (ranges_of plan (i + 1) ws) (λ (gs : List SweptRange). Ok (g ∷ gs)))
    (λ g. after_same_fine (ranges_of plan (i + 1) ws) (ranges_fine plan (i + 1) ws) (λ (gs : List SweptRange). Ok (g ∷ gs)) (λ gs. tt))

by_size : (s : Sweep) (b : Bool) → Fine {T = Sweep} (cond b (Ok s) (Err sweep.Rows))
by_size s true = tt
by_size s false = refl

pub sweep_fine : (text : PlanText) (words : List (List ℕ)) (asked : Asked) → Fine (sweep_of text words asked)
sweep_fine text words asked =
    let t = text_asked asked.worst text in
    after_fine of_setup setup_fine (plan_of_text t) _
    (λ plan. after_same_fine (ranges_of t 0 words) (ranges_fine t 0 words) _
    (λ ranges. after_same_fine (if_small (record { text = t; ranges = ranges; options = asked.options }))
    (by_size (record { text = t; ranges = ranges; options = asked.options }) (is_small (record { text = t; ranges = ranges; options = asked.options }))) _ (λ s. tt)))

pub fine_here : {T : Type 0} (r : Result T SweepFault) (e : SweepFault) → Fine r → r ≡ Err e → is_write e ≡ false
fine_here (Ok x) e fine is = absurd (cc)
fine_here (Err f) e fine is = let same : f ≡ e = cc in ap is_write (sym same) ∙ fine

pub printed_fine : (n : ℕ) (m : Option (List ℕ × PlanText)) → Fine (printed_member n m)
printed_fine n None = refl
printed_fine n (Some (change, plan)) = tt

module _ {A T : Type 0} (Refuses : SweepFault → Type 0) (Wrote : A → Result (Unit {0}) WriteFault → Type 0) (t t' : T) (same : t' ≡ t) where
  pub refuse : (e : SweepFault) → (e ≢ sweep.Memory → is_write e ≡ false) → (e ≢ sweep.Memory → Refuses e) → Ran Refuses Wrote t t' (Err e)
  refuse sweep.Runs fine r = (r (not_memory sweep.Runs refl), same)
  refuse sweep.Step fine r = (r (not_memory sweep.Step refl), same)
  refuse sweep.Workers fine r = (r (not_memory sweep.Workers refl), same)
  refuse (sweep.Setup f) fine r = (r (not_memory (sweep.Setup f) refl), same)
  refuse (sweep.Range i f) fine r = (r (not_memory (sweep.Range i f) refl), same)
  refuse sweep.Rows fine r = (r (not_memory sweep.Rows refl), same)
  refuse sweep.Member fine r = (r (not_memory sweep.Member refl), same)
  refuse sweep.Part fine r = (r (not_memory sweep.Part refl), same)
  refuse (sweep.Spike f) fine r = (r (not_memory (sweep.Spike f) refl), same)
  refuse sweep.Write fine r = absurd (true≢false (fine (not_memory sweep.Write refl)))
  refuse sweep.Memory fine r = same

  -- the refusal is passed on
  pub refused_by : (e : SweepFault) → (e ≢ sweep.Memory → is_write e ≡ false) → (e ≢ sweep.Memory → Refuses e) → (r : Result A SweepFault)
      → IsErrAnd r (λ other. other ≡ e) → Ran Refuses Wrote t t' r
  refused_by e fine r (Ok u) is = absurd is
  refused_by e fine r (Err other) is = subst (λ f. Ran Refuses Wrote t t' (Err f)) (sym is) (refuse e fine r)

-- a text was read, and the sweep that it means is refused
module _ {A S T : Type 0} (gives : S → Answer → S → Type 0) (takes : T → Answer → T → Type 0) (words : List (List ℕ)) (asked : Asked) (s s' : S) (t : T)
    (checked : Result (Unit {0}) SweepFault) (Refuses : SweepFault → Type 0) (Wrote : A → Result (Unit {0}) WriteFault → Type 0)
    (refuses : (e : SweepFault) → RefusesSweep gives takes words asked s s' t t checked e → Refuses e) where
  pub swept_by : checked ≡ Ok tt → (text : PlanText) → ReadsPlan gives s (Ok text) s' → (e : SweepFault)
      → (e ≢ sweep.Memory → sweep_of text words asked ≡ Err e) → (r : Result A SweepFault) → IsErrAnd r (λ other. other ≡ e) → Ran Refuses Wrote t t r
  swept_by fine text read e answer =
      refused_by Refuses Wrote t t refl e
      (λ n. fine_here (sweep_of text words asked) e (sweep_fine text words asked) (answer n))
      (λ n. refuses e (inr (inr (fine, (text, read, answer n)))))

  -- the text itself is refused
  pub text_by : checked ≡ Ok tt → (fault : SetupFault) → (fault ≢ setup.Memory → ReadsPlan gives s (Err fault) s') → (r : Result A SweepFault)
      → IsErrAnd r (λ other. other ≡ of_setup fault) → Ran Refuses Wrote t t r
  text_by fine fault reads =
      refused_by Refuses Wrote t t refl (of_setup fault) (λ n. setup_fine fault)
      (λ n.
      let known : fault ≢ setup.Memory = λ e. n (ap of_setup e) in
      refuses (of_setup fault) (inr (inl (fine, (fault, known, reads known, setup_named fault known)))))

-- the writer failed
pub wrote_by : {A T : Type 0} (Refuses : SweepFault → Type 0) (Wrote : A → Result (Unit {0}) WriteFault → Type 0) (t t' : T) (answer : A) (fault : WriteFault)
    → Wrote answer (Err fault) → (r : Result A SweepFault) → IsErrAnd r (λ other. other ≡ sweep.Write) → Ran Refuses Wrote t t' r
wrote_by Refuses Wrote t t' answer fault wrote (Ok u) is = absurd is
wrote_by Refuses Wrote t t' answer fault wrote (Err other) is = subst (λ f. Ran Refuses Wrote t t' (Err f)) (sym is) (answer, fault, wrote)
