-- A recessive sample between frames: the machine takes it on, no frame has passed, and nothing counts.
use Rattle.std.proofs.Common.{◌≡◌, ◌∙◌, refl, sym, ap, subst, ℕ, suc, ◌+◌, cond, Bool, false, [], ◌∷◌, ◌++◌, length, Option, Some, None, arith, append-nil}
use Rattle.std.specs.Prelude.{count_by}
use Rattle.std.proofs.lemmas.List.Sums.{fold-append, sum_by-append}
use Rattle.wl_level.specs.declared.Level.{Level}
use Rattle.wl_level.specs.declared.Level.TheVariants.{Recessive}
use Rattle.wl_confine.specs.declared.Happened.{Happened}
use Rattle.wl_confine.specs.declared.Happened.TheVariants.{Nothing}
use Rattle.wl_confine.specs.declared.Mode.TheVariants.{Active}
use Rattle.wl_confine.specs.Counts.{counts_after, counts_of, mode_of, no_counts}
use Rattle.wl_sync.specs.declared.Beat.TheVariants as beats
use Rattle.wl_sync.specs.Bits.{beat_of}
use Rattle.wl_frame.specs.Grammar.{Content}
use Rattle.wl_machine.specs.Stretch.{Judgement, Sampled, Stretch}
use Rattle.wl_machine.specs.Stretch.Ended.{NoFrame}
use Rattle.wl_machine.specs.Stretch.Input.{Sample}
use Rattle.wl_machine.specs.BetweenFrames.{idle_on}
use Rattle.wl_machine.specs.Judged.{judged, stretch_after, stretch_of}
use Rattle.wl_machine.specs.States.{sample_of}
use Rattle.wl_machine.proofs.Callers.{stretch_next}
use Rattle.wl_node.specs.declared.setup.NodeSetup.{NodeSetup}
use Rattle.wl_node.specs.History.{History, passed_frames, sampled_next, switched_off}
use Rattle.wl_phase.specs.InStep.{seen_before}
use Rattle.wl_buses.specs.OneFrame.Nodes.{IsRun, clock_sees}
use Rattle.wl_buses.proofs.OneFrame.Nodes.{drive_by, frames_by, happened_by, inputs_by}

pub record TakesOn (j : Judgement) : Type 0 where
  pub happened : j.happened ≡ Nothing
  pub ended : j.ended ≡ NoFrame

pub goes_idle : (head : Option Content) → TakesOn (idle_on head)
goes_idle None = record { happened = refl; ended = refl }
goes_idle (Some c) = record { happened = refl; ended = refl }

module _ (setup : NodeSetup) (levels : ℕ → Level) (node : ℕ → History) (run : IsRun setup levels node) (q : ℕ)
    (beat : beat_of setup.segments (seen_before (clock_sees levels node) q) (clock_sees levels node q) ≡ beats.Sample Recessive) (silent : levels q ≡ Recessive)
    (x : Stretch) (before : stretch_of (node q).inputs ≡ x) (none : counts_of (node q).happened ≡ no_counts)
    (head : Option Content) (head_is : (sampled_next setup (node q) (levels q)).head ≡ head) (takes : TakesOn (judged x (sample_of Recessive head Active))) where
  abbrev given : Sampled
  given = sampled_next setup (node q) (levels q)

  mode_is : given.mode ≡ Active
  mode_is = ap mode_of none

  given_is : given ≡ sample_of Recessive head Active
  given_is = λ j. record { level = silent j; head = head_is j; mode = mode_is j }

  abbrev judgement : Judgement
  judgement = judged (stretch_of (node q).inputs) given

  on : TakesOn judgement
  on = subst TakesOn (sym (ap (λ v. judged v given) before ∙ ap (judged x) given_is)) takes

  counts_then : counts_of ((node q).happened ++ judgement.happened ∷ []) ≡ no_counts
  counts_then =
      fold-append counts_after no_counts (node q).happened (judgement.happened ∷ [])
      ∙ ap (λ n. counts_after n judgement.happened) none ∙ ap (counts_after no_counts) on.happened

  none_off : switched_off given.mode (mode_of (counts_of ((node q).happened ++ judgement.happened ∷ []))) ≡ []
  none_off =
      ap (λ m. switched_off m (mode_of (counts_of ((node q).happened ++ judgement.happened ∷ [])))) mode_is ∙ ap (λ n. switched_off Active (mode_of n)) counts_then

  pub stretch_there : stretch_of (node (suc q)).inputs ≡ stretch_after x (Sample (sample_of Recessive head Active))
  stretch_there =
      ap stretch_of
      (inputs_by setup levels node run q (beats.Sample Recessive) beat
      ∙ ap (λ v. ((node q).inputs ++ Sample given ∷ []) ++ v) none_off ∙ append-nil ((node q).inputs ++ Sample given ∷ []))
      ∙ stretch_next (node q).inputs (Sample given) ∙ ap (λ v. stretch_after v (Sample given)) before
      ∙ ap (λ y. stretch_after x (Sample y)) given_is

  pub counts_there : counts_of (node (suc q)).happened ≡ no_counts
  counts_there = ap counts_of (happened_by setup levels node run q (beats.Sample Recessive) beat) ∙ counts_then

  pub frames_there : (node (suc q)).frames ≡ (node q).frames
  frames_there =
      frames_by setup levels node run q (beats.Sample Recessive) beat
      ∙ ap (λ e. (node q).frames ++ passed_frames (length (node q).seen) e) on.ended ∙ append-nil (node q).frames

  pub found_there : (test : Happened → Bool) → test Nothing ≡ false → count_by test (node (suc q)).happened ≡ count_by test (node q).happened
  found_there test fine =
      ap (count_by test) (happened_by setup levels node run q (beats.Sample Recessive) beat)
      ∙ sum_by-append (λ h. cond (test h) 1 0) (node q).happened (judgement.happened ∷ [])
      ∙ ap (λ h. count_by test (node q).happened + (0 + cond (test h) 1 0)) on.happened
      ∙ ap (λ b. count_by test (node q).happened + (0 + cond b 1 0)) fine ∙ omega arith

  pub drive_there : (node (suc q)).drive ≡ (node q).drive
  drive_there = drive_by setup levels node run q (beats.Sample Recessive) beat
