-- Refusals of spikes: that they are no fault of the writer, and what an engine that answers one has done.
use Rattle.std.proofs.Common.{◌≡◌, ◌≢◌, ap, ℕ, List, Result, Ok, Err, refl, inl, inr}
use Rattle.std.specs.Prelude.{IsErrAnd}
use Rattle.wl_device.specs.Devices.{Answer}
use Rattle.wl_device.specs.declared.device.WriteFault.{WriteFault}
use Rattle.wl_setup.specs.declared.fault.SetupFault.{SetupFault}
use Rattle.wl_setup.specs.declared.fault.SetupFault.TheVariants as setup
use Rattle.wl_setup.specs.declared.plan_text.PlanText.{PlanText}
use Rattle.wl_setup.specs.Plans.{plan_of_text}
use Rattle.wl_setup.specs.Reading.{ReadsPlan}
use Rattle.wl_spikes.specs.Asked.{spike_of_words}
use Rattle.wl_sweep_engine.specs.declared.asked.Asked.{Asked}
use Rattle.wl_sweep_engine.specs.declared.fault.SweepFault.{SweepFault}
use Rattle.wl_sweep_engine.specs.declared.fault.SweepFault.TheVariants as sweep
use Rattle.wl_sweep_engine.specs.Asked.{text_asked}
use Rattle.wl_sweep_engine.specs.Faults.{of_setup}
use Rattle.wl_sweep_engine.specs.Ran.{Ran}
use Rattle.wl_sweep_engine.specs.Spiking.{RefusesSpikes, of_spike, spikes_of}
use Rattle.wl_sweep_engine.proofs.Refusing.{Fine, after_fine, fine_here, refused_by, setup_fine, setup_named}

spike_fine : (text : PlanText) (words : List (List ℕ)) (asked : Asked) → Fine (spikes_of text words asked)
spike_fine text words asked =
    let t = text_asked asked.worst text in
    after_fine of_setup setup_fine (plan_of_text t) _
    (λ plan. after_fine of_spike (λ e. refl) (spike_of_words t asked.options words) _ (λ spike. tt))

-- a text was read, and the words mean no spike of it
module _ {A S T : Type 0} (gives : S → Answer → S → Type 0) (takes : T → Answer → T → Type 0) (words : List (List ℕ)) (asked : Asked) (s s' : S) (t : T)
    (checked : Result (Unit {0}) SweepFault) (Refuses : SweepFault → Type 0) (Wrote : A → Result (Unit {0}) WriteFault → Type 0)
    (refuses : (e : SweepFault) → RefusesSpikes gives takes words asked s s' t t checked e → Refuses e) where
  pub spiked_by : checked ≡ Ok tt → (text : PlanText) → ReadsPlan gives s (Ok text) s' → (e : SweepFault)
      → (e ≢ sweep.Memory → spikes_of text words asked ≡ Err e) → (r : Result A SweepFault) → IsErrAnd r (λ other. other ≡ e) → Ran Refuses Wrote t t r
  spiked_by fine text read e answer =
      refused_by Refuses Wrote t t refl e
      (λ n. fine_here (spikes_of text words asked) e (spike_fine text words asked) (answer n))
      (λ n. refuses e (inr (inr (fine, (text, read, answer n)))))

  -- the text itself is refused
  pub unread_by : checked ≡ Ok tt → (fault : SetupFault) → (fault ≢ setup.Memory → ReadsPlan gives s (Err fault) s') → (r : Result A SweepFault)
      → IsErrAnd r (λ other. other ≡ of_setup fault) → Ran Refuses Wrote t t r
  unread_by fine fault reads =
      refused_by Refuses Wrote t t refl (of_setup fault) (λ n. setup_fine fault)
      (λ n.
      let known : fault ≢ setup.Memory = λ e. n (ap of_setup e) in
      refuses (of_setup fault) (inr (inl (fine, (fault, known, reads known, setup_named fault known)))))
