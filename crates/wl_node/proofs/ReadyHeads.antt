-- While a node sends a frame, the first of those that were not sent yet is ready, and is so at each quantum after.
use Rattle.std.proofs.Common.{◌≡◌, ◌∙◌, ℕ, suc, ◌≤◌, true, List, [], ◌∷◌, ◌++◌, length, Some, sym, ap, subst, arith, add-one, length-append}
use Rattle.std.proofs.lemmas.Bool.{le-leb, leb-true}
use Rattle.wl_level.specs.declared.Level.{Level}
use Rattle.wl_sync.specs.declared.Beat.{Beat}
use Rattle.wl_sync.specs.declared.Beat.TheVariants.{Plain, Sample, Start}
use Rattle.wl_confine.specs.declared.Mode.{Mode}
use Rattle.wl_confine.specs.Counts.{counts_of, mode_of}
use Rattle.wl_frame.specs.Grammar.{Content}
use Rattle.wl_machine.specs.Stretch.{Sampled}
use Rattle.wl_machine.specs.Judged.{judged, stretch_of, head_of}
use Rattle.wl_machine.specs.Laws.{HeadLaws}
use Rattle.wl_node.specs.declared.setup.Queued.{Queued}
use Rattle.wl_node.specs.declared.setup.NodeSetup.{NodeSetup}
use Rattle.wl_node.specs.History.{History, staying_history, no_history, seen_next, sampled_next, head_at_next, unsent_of}
use Rattle.wl_node.specs.Stays.{until_frame}
use Rattle.wl_node.specs.Unsent.{is_first_ready}
use Rattle.wl_node.proofs.Drives.{grown, behind, beat_next}
use Rattle.wl_node.proofs.Sends.{handed_some, sends_next}
use Rattle.wl_node.proofs.Turns.{history_first, history_next}
use Rattle.wl_node.proofs.Unsents.{head_ready}

-- what is ready stays so
ready_later : (unsent : List Queued) (quantum : ℕ) → is_first_ready unsent quantum ≡ true → is_first_ready unsent (suc quantum) ≡ true
ready_later [] quantum e = cc
ready_later (q ∷ qs) quantum e = le-leb q.ready (suc quantum) (let h = leb-true q.ready quantum e in omega arith)

-- the quantum at which the first one is ready has come
pub until_now : (unsent : List Queued) (quantum : ℕ) → is_first_ready unsent quantum ≡ true → until_frame unsent quantum ≤ 1
until_now [] quantum e = cc
until_now (q ∷ qs) quantum e = (let h = leb-true q.ready quantum e in omega arith)

-- if a frame is sent, the first one is ready
abbrev pub IsReady : NodeSetup → History → Type 0
IsReady setup h = (frame : Content) → head_of (stretch_of h.inputs).sort ≡ Some frame → is_first_ready (unsent_of setup h) (length h.seen) ≡ true

module _ (laws : HeadLaws) (setup : NodeSetup) where
  one_later : (h : History) (level : Level) (unsent : List Queued) → is_first_ready unsent (length h.seen) ≡ true
      → is_first_ready unsent (length (h.seen ++ seen_next h level ∷ [])) ≡ true
  one_later h level unsent e =
      ap (is_first_ready unsent) (length-append h.seen (seen_next h level ∷ []) ∙ add-one (length h.seen)) ∙ ready_later unsent (length h.seen) e

  ready_sample : (h : History) (level v : Level) → IsReady setup h → IsReady setup (behind setup h level (Sample v))
  ready_sample h level v is frame e =
      let x : Sampled = sampled_next setup h level in
      let after : Mode = mode_of (counts_of (h.happened ++ (judged (stretch_of h.inputs) x).happened ∷ [])) in
      let on = sends_next laws (λ f. is_first_ready (unsent_of setup h) (length h.seen) ≡ true) h.inputs x after is
      (λ f g. head_ready setup.order (unsent_of setup h) (length h.seen) f (handed_some level setup.segments.sync (head_at_next setup h) f g)) frame e
      setup.order setup.queue h.frames (length h.seen) in
      ap (λ u. is_first_ready u (length (h.seen ++ seen_next h level ∷ []))) on.1 ∙ one_later h level (unsent_of setup h) on.0

  ready_next : (h : History) (level : Level) (b : Beat) → IsReady setup h → IsReady setup (behind setup h level b)
  ready_next h level Start is frame e = one_later h level (unsent_of setup h) (is frame e)
  ready_next h level Plain is frame e = one_later h level (unsent_of setup h) (is frame e)
  ready_next h level (Sample v) is frame e = ready_sample h level v is frame e

  ready_none : IsReady setup no_history
  ready_none frame e = cc

  pub ready_heads : (levels : List Level) → IsReady setup (staying_history setup levels)
  ready_heads =
      grown (λ levels. IsReady setup (staying_history setup levels)) (subst (IsReady setup) (sym (history_first setup)) ready_none)
      (λ levels level is. subst (IsReady setup) (sym (history_next setup levels level)) (ready_next (staying_history setup levels) level (beat_next setup (staying_history setup levels) level) is))
