-- One machine of a wire, one event later.
use Rattle.std.proofs.Common.{◌≡◌, ℕ, ◌<◌, ◌∙◌, List, [], ◌∷◌, ◌++◌, Bool, true, false, cond, ◌&&◌, Option, Some, None, refl, sym, ap, subst, append-nil, inl, inr, ◌⊎◌}
use Rattle.std.specs.Prelude.{◌==◌, slice_get}
use Rattle.std.proofs.lemmas.Bool.{and_parts, both_ways}
use Rattle.std.proofs.lemmas.Option.{none-some}
use Rattle.wl_level.specs.declared.Level.TheVariants.{Recessive}
use Rattle.wl_frame.specs.Grammar.{Content}
use Rattle.wl_machine.specs.Stretch.{Stretch, Sampled}
use Rattle.wl_machine.specs.Stretch.Input.{Sample}
use Rattle.wl_machine.specs.Judged.{judged, or_next, stretch_of, stretch_after, head_of}
use Rattle.wl_machine.specs.Laws.{HeadLaws}
use Rattle.wl_machine.specs.States.{stretch_by}
use Rattle.wl_machine.proofs.Callers.{stretch_next}
use Rattle.wl_wire.specs.Wire.{Wire, Handed, Bit, Own, stretch_at, bus, sampled, may_be_alone, added, next_wire, wire_after, Event}
use Rattle.wl_wire.specs.InStep.{Has, is_fine, FindsNoError}
pub use Rattle.wl_wire.specs.Heads.{OwnHeads}

-- what a machine samples at a bit of the bus
abbrev pub sample_at : Wire → (ℕ → Handed) → ℕ → Sampled
sample_at w handed k = sampled (bus w) (w.frames k) (handed k)

pub at_bit : (w : Wire) (handed : ℕ → Handed) (k : ℕ) → stretch_at (next_wire w (Bit handed)) k ≡ stretch_after (stretch_at w k) (Sample (sample_at w handed k))
at_bit w handed k = stretch_next (w.past k) (Sample (sample_at w handed k))

-- a bit by itself: nothing comes of it, or the machine may have one
pub record IsAlone (w : Wire) (machine : ℕ) (handed : Handed) (k : ℕ) : Type 0 where
  pub may : may_be_alone (stretch_at w k) ≡ true
  pub next : stretch_at (next_wire w (Own machine handed)) k ≡ stretch_after (stretch_at w k) (Sample (sampled Recessive (w.frames k) handed))

alone_by : (w : Wire) (machine : ℕ) (handed : Handed) (k : ℕ) (b : Bool) → ((k == machine) && may_be_alone (stretch_at w k)) ≡ b
    → (stretch_at (next_wire w (Own machine handed)) k ≡ stretch_at w k) ⊎ IsAlone w machine handed k
alone_by w machine handed k true e =
    inr (record {
      may = (and_parts (k == machine) (may_be_alone (stretch_at w k)) e).1;
      next =
          ap (λ b. stretch_of (w.past k ++ cond b (Sample (sampled Recessive (w.frames k) handed) ∷ []) [])) e
          ∙ stretch_next (w.past k) (Sample (sampled Recessive (w.frames k) handed));
    })
alone_by w machine handed k false e =
    inl (ap (λ b. stretch_of (w.past k ++ cond b (Sample (sampled Recessive (w.frames k) handed) ∷ []) [])) e ∙ ap stretch_of (append-nil (w.past k)))

pub alone : (w : Wire) (machine : ℕ) (handed : Handed) (k : ℕ) → (stretch_at (next_wire w (Own machine handed)) k ≡ stretch_at w k) ⊎ IsAlone w machine handed k
alone w machine handed k = alone_by w machine handed k ((k == machine) && may_be_alone (stretch_at w k)) refl

-- where no machine may have a bit by itself, nothing comes of it
pub none_alone : (w : Wire) (machine : ℕ) (handed : Handed) (k : ℕ) → may_be_alone (stretch_at w k) ≡ false → stretch_at (next_wire w (Own machine handed)) k ≡ stretch_at w k
none_alone w machine handed k h = elim (alone w machine handed k) [
  | inl e ↦ e
  | inr a ↦ absurd (both_ways (may_be_alone (stretch_at w k)) h a.may)
]

-- frames that are sent stay the machine's own
sent_by : (frames : List Content) (laws : HeadLaws) (s : Stretch) (c : Content) (x : Sampled) (which : ℕ) → x.head ≡ slice_get frames which
    → ((d : Content) → head_of s.sort ≡ Some d → (n : ℕ) × (slice_get frames n ≡ Some d))
    → (o : Option Stretch) → (judged s x).next ≡ o → head_of (stretch_after s (Sample x)).sort ≡ Some c → (n : ℕ) × (slice_get frames n ≡ Some c)
sent_by frames laws s c x which given old None e h = old c (ap (λ o. head_of (or_next o (stretch_by s.sort (s.own ++ x.level ∷ []))).sort) (sym e) ∙ h)
sent_by frames laws s c x which given old (Some next) e h =
    let here : head_of next.sort ≡ Some c = ap (λ o. head_of (or_next o (stretch_by s.sort (s.own ++ x.level ∷ []))).sort) (sym e) ∙ h in
    elim (laws.head s next x e) [
      | inl g ↦ (which, sym given ∙ sym g ∙ here)
      | inr n ↦ absurd (none-some c (sym n ∙ here))
    ]

own_sent : (w : Wire) (laws : HeadLaws) (k : ℕ) (x : Sampled) (which : ℕ) → x.head ≡ slice_get (w.frames k) which → OwnHeads w
    → (c : Content) → head_of (stretch_after (stretch_at w k) (Sample x)).sort ≡ Some c → Has w.frames k c
own_sent w laws k x which given heads c h = sent_by (w.frames k) laws (stretch_at w k) c x which given (λ d. heads k d) (judged (stretch_at w k) x).next refl h

pub heads_at_bit : (w : Wire) (handed : ℕ → Handed) → HeadLaws → OwnHeads w → OwnHeads (next_wire w (Bit handed))
heads_at_bit w handed laws heads k c h =
    own_sent w laws k (sample_at w handed k) (handed k).which refl heads c (ap (λ s. head_of s.sort) (sym (at_bit w handed k)) ∙ h)

pub heads_alone : (w : Wire) (machine : ℕ) (handed : Handed) → HeadLaws → OwnHeads w → OwnHeads (next_wire w (Own machine handed))
heads_alone w machine handed laws heads k c h = elim (alone w machine handed k) [
  | inl e ↦ heads k c (ap (λ s. head_of s.sort) (sym e) ∙ h)
  | inr a ↦ own_sent w laws k (sampled Recessive (w.frames k) handed) handed.which refl heads c (ap (λ s. head_of s.sort) (sym a.next) ∙ h)
]

-- no error is found where none is at a bit of the bus, and none at a bit by itself
one_same : (x y : Sampled) → Sample y ∷ [] ≡ Sample x ∷ [] → y ≡ x
one_same x y e = cc

none_same : (x : Sampled) → [] ≡ Sample x ∷ [] → ⊥
none_same x e = cc

alone_by_test : (w : Wire) (machine : ℕ) (handed : Handed) (P : ℕ → Sampled → Type 0) (k : ℕ) (x : Sampled) (b : Bool) → ((k == machine) && may_be_alone (stretch_at w k)) ≡ b
    → (may_be_alone (stretch_at w k) ≡ true → P k (sampled Recessive (w.frames k) handed)) → cond b (Sample (sampled Recessive (w.frames k) handed) ∷ []) [] ≡ Sample x ∷ [] → P k x
alone_by_test w machine handed P k x true e alone_holds h =
    subst (P k) (one_same x (sampled Recessive (w.frames k) handed) h) (alone_holds (and_parts (k == machine) (may_be_alone (stretch_at w k)) e).1)
alone_by_test w machine handed P k x false e alone_holds h = absurd (none_same x h)

-- what holds of a bit by itself holds of the sample that reaches a machine by such an event
pub own_events : (w : Wire) (machine : ℕ) (handed : Handed) (P : ℕ → Sampled → Type 0) (k : ℕ) → (may_be_alone (stretch_at w k) ≡ true → P k (sampled Recessive (w.frames k) handed))
    → (x : Sampled) → added w (Own machine handed) k ≡ Sample x ∷ [] → P k x
own_events w machine handed P k alone_holds x h = alone_by_test w machine handed P k x ((k == machine) && may_be_alone (stretch_at w k)) refl alone_holds h

pub finds_none : (w : Wire)
    → ((handed : ℕ → Handed) (k : ℕ) → k < w.count → is_fine (judged (stretch_at w k) (sample_at w handed k)).happened ≡ true)
    → ((handed : Handed) (k : ℕ) → k < w.count → may_be_alone (stretch_at w k) ≡ true → is_fine (judged (stretch_at w k) (sampled Recessive (w.frames k) handed)).happened ≡ true)
    → FindsNoError w
finds_none w bits alones (Bit handed) k x lt h =
    subst (λ y. is_fine (judged (stretch_at w k) y).happened ≡ true) (one_same x (sample_at w handed k) h) (bits handed k lt)
finds_none w bits alones (Own machine handed) k x lt h =
    own_events w machine handed (λ j y. is_fine (judged (stretch_at w j) y).happened ≡ true) k (alones handed k lt) x h

-- a wire keeps its machines
pub count_after : (w : Wire) (events : List Event) → (wire_after w events).count ≡ w.count
count_after w [] = refl
count_after w (event ∷ events) = count_after (next_wire w event) events
