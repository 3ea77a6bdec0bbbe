-- The frame that a machine sends is one of those that its node has not sent yet, sample by sample.
use Rattle.std.proofs.Common.{◌≡◌, ◌∙◌, ℕ, List, [], ◌∷◌, ◌++◌, Option, Some, None, ◌⊎◌, inl, inr, refl, sym, ap, append-nil}
use Rattle.wl_level.specs.declared.Level.{Level}
use Rattle.wl_level.specs.declared.Level.TheVariants.{Dominant, Recessive}
use Rattle.wl_segments.specs.declared.SyncRules.{SyncRules}
use Rattle.wl_segments.specs.declared.SyncRules.TheVariants.{After, Book}
use Rattle.wl_confine.specs.declared.Mode.{Mode}
use Rattle.wl_confine.specs.declared.Mode.TheVariants.{Active, Passive, Off}
use Rattle.wl_frame.specs.Grammar.{Content}
use Rattle.wl_machine.specs.Stretch.{Stretch, Sampled, Input, Ended}
use Rattle.wl_machine.specs.Stretch.Input.{Sample, SwitchedOff}
use Rattle.wl_machine.specs.Stretch.Ended.{NoFrame, Sent, Received}
use Rattle.wl_machine.specs.Judged.{judged, or_next, stretch_after, stretch_of, head_of}
use Rattle.wl_machine.specs.Laws.{HeadLaws}
use Rattle.wl_machine.proofs.Callers.{stretch_next}
use Rattle.wl_node.specs.declared.setup.Passed.{Passed}
use Rattle.wl_node.specs.declared.setup.QueueOrder.{QueueOrder}
use Rattle.wl_node.specs.declared.setup.Queued.{Queued}
use Rattle.wl_node.specs.History.{handed, passed_frames, switched_off}
use Rattle.wl_node.specs.Queues.{unsent_by}
use Rattle.wl_node.proofs.Unsents.{received_by}

-- a head that is handed is the head
pub handed_some : (level : Level) (rules : SyncRules) (head : Option Content) (frame : Content) → handed level rules head ≡ Some frame → head ≡ Some frame
handed_some Recessive rules head frame e = e
handed_some Dominant Book head frame e = e
handed_some Dominant After head frame e = cc

pub handed_none : (level : Level) (rules : SyncRules) → handed level rules None ≡ None
handed_none Recessive rules = refl
handed_none Dominant Book = refl
handed_none Dominant After = refl

pub off_or_not : (before after : Mode) → (switched_off before after ≡ []) ⊎ (switched_off before after ≡ SwitchedOff ∷ [])
off_or_not Active Active = inl refl
off_or_not Active Passive = inl refl
off_or_not Active Off = inr refl
off_or_not Passive Active = inl refl
off_or_not Passive Passive = inl refl
off_or_not Passive Off = inr refl
off_or_not Off after = inl refl

-- a sample that sends no frame leaves all
unsent_on : (order : QueueOrder) (queue : List Queued) (frames : List Passed) (quantum : ℕ) (ended : Ended) → ((frame : Content) → ended ≡ Sent frame → ⊥)
    → unsent_by order queue (frames ++ passed_frames quantum ended) ≡ unsent_by order queue frames
unsent_on order queue frames quantum NoFrame none = ap (unsent_by order queue) (append-nil frames)
unsent_on order queue frames quantum (Received frame) none = received_by order queue frames quantum frame
unsent_on order queue frames quantum (Sent frame) none = absurd (none frame refl)

module _ (laws : HeadLaws) where
  -- a machine in no frame sends none with its next sample
  pub none_from : (s : Stretch) (x : Sampled) → head_of s.sort ≡ None → (order : QueueOrder) (queue : List Queued) (frames : List Passed) (quantum : ℕ)
      → unsent_by order queue (frames ++ passed_frames quantum (judged s x).ended) ≡ unsent_by order queue frames
  none_from s x none order queue frames quantum =
      unsent_on order queue frames quantum (judged s x).ended (λ frame e. let f : head_of s.sort ≡ Some frame = ap head_of (laws.sent s x frame e) in cc)

  module _ (s : Stretch) (x : Sampled) where
    -- nor does one that has a head after it
    pub none_sent : (frame : Content) → head_of (stretch_after s (Sample x)).sort ≡ Some frame → (order : QueueOrder) (queue : List Queued) (frames : List Passed) (quantum : ℕ)
        → unsent_by order queue (frames ++ passed_frames quantum (judged s x).ended) ≡ unsent_by order queue frames
    none_sent frame e order queue frames quantum = unsent_on order queue frames quantum (judged s x).ended (λ other j.
        let gone : head_of (stretch_after s (Sample x)).sort ≡ None =
        ap (λ n. head_of (or_next n (record { sort = s.sort; own = s.own ++ x.level ∷ [] })).sort) (laws.over s x other j) in
        cc)

    -- the head after a sample is the one before it, or the one that was handed with it
    pub still : (P : Content → Type 0) → ((frame : Content) → head_of s.sort ≡ Some frame → P frame) → ((frame : Content) → x.head ≡ Some frame → P frame)
        → (frame : Content) → head_of (stretch_after s (Sample x)).sort ≡ Some frame → P frame
    still P before handed frame e = by (judged s x).next refl
      where
        by : (next : Option Stretch) → (judged s x).next ≡ next → P frame
        by None j = before frame (sym (ap head_of (laws.on s x j)) ∙ e)
        by (Some next) j =
            let here : head_of next.sort ≡ Some frame =
            sym (ap (λ n. head_of (or_next n (record { sort = s.sort; own = s.own ++ x.level ∷ [] })).sort) j) ∙ e in
            elim (laws.head s next x j) [
              | inl h ↦ handed frame (sym h ∙ here)
              | inr h ↦ cc
            ]

  -- the same over all that reached the machine, with the order to go off the bus after the sample
  pub sends_off : (past : List Input) (frame : Content) (off : List Input) → (off ≡ []) ⊎ (off ≡ SwitchedOff ∷ [])
      → head_of (stretch_of (past ++ off)).sort ≡ Some frame → head_of (stretch_of past).sort ≡ Some frame
  sends_off past frame off (inl n) e =
      ap (λ p. head_of (stretch_of p).sort) (sym (append-nil past) ∙ ap (λ o. past ++ o) (sym n)) ∙ e
  sends_off past frame off (inr o) e =
      let gone : head_of (stretch_of (past ++ off)).sort ≡ None =
      ap (λ p. head_of (stretch_of (past ++ p)).sort) o ∙ ap (λ s. head_of s.sort) (stretch_next past SwitchedOff) in
      cc

  -- So it is over a sample, with what is left of the queue.
  pub sends_next : (P : Content → Type 0) (past : List Input) (x : Sampled) (after : Mode)
      → ((frame : Content) → head_of (stretch_of past).sort ≡ Some frame → P frame) → ((frame : Content) → x.head ≡ Some frame → P frame)
      → (frame : Content) → head_of (stretch_of ((past ++ Sample x ∷ []) ++ switched_off x.mode after)).sort ≡ Some frame
      → (order : QueueOrder) (queue : List Queued) (frames : List Passed) (quantum : ℕ)
      → P frame × (unsent_by order queue (frames ++ passed_frames quantum (judged (stretch_of past) x).ended) ≡ unsent_by order queue frames)
  sends_next P past x after before handed frame e order queue frames quantum =
      let now : head_of (stretch_after (stretch_of past) (Sample x)).sort ≡ Some frame =
      sym (ap (λ s. head_of s.sort) (stretch_next past (Sample x))) ∙ sends_off (past ++ Sample x ∷ []) frame (switched_off x.mode after) (off_or_not x.mode after) e in
      (still (stretch_of past) x P before handed frame now, none_sent (stretch_of past) x frame now order queue frames quantum)
