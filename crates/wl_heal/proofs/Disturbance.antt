-- One bit of a disturbed wire: what its machines find of it, and what they are sending.
use Rattle.std.proofs.Common.{◌≡◌, ◌∙◌, ℕ, zero, suc, ◌+◌, ◌<◌, ◌≤◌, arith, [], ◌∷◌, ◌++◌, Bool, true, false, cond, Option, Some, None, refl, sym, ap, subst, inl, inr}
use Rattle.std.specs.Prelude.{slice_get}
use Rattle.std.proofs.lemmas.Bool.{cases_eq}
use Rattle.std.proofs.lemmas.Option.{none-some}
use Rattle.wl_level.specs.declared.Level.{Level}
use Rattle.wl_level.specs.declared.Level.TheVariants.{Dominant, Recessive}
use Rattle.wl_frame.specs.Grammar.{Content}
use Rattle.wl_confine.specs.declared.Mode.TheVariants.{Active}
use Rattle.wl_machine.specs.Stretch.{Stretch, Sampled}
use Rattle.wl_machine.specs.Stretch.Input.{Sample}
use Rattle.wl_machine.specs.Judged.{judged, or_next, stretch_after, drive_of, head_of}
use Rattle.wl_machine.specs.Laws.{HeadLaws}
use Rattle.wl_machine.specs.States.{sample_of, stretch_by}
use Rattle.wl_machine.proofs.Callers.{stretch_next}
use Rattle.wl_wire.specs.Wire.{Wire, bus}
use Rattle.wl_wire.specs.Heads.{OwnHeads}
use Rattle.wl_wire.specs.InStep.{Has}
use Rattle.wl_heal.specs.Joining.{is_apart, is_apart_by}
use Rattle.wl_heal.specs.Disturbed.{Course, level_found, sample_found, wire_at, stretch_before, TakesPart}
use Rattle.wl_heal.proofs.Apart.{apart_test}
use Rattle.wl_heal.proofs.Heal.{dominant_bus}
use Rattle.wl_heal.proofs.Inside.{inside_next}
use Rattle.wl_heal.proofs.Rested.{rested_of, rested_next, most_after}
use Rattle.wl_heal.proofs.Six.{down_of, down_next, down_most}
use Rattle.wl_heal.proofs.Wires.{bus_recessive}

not_hit : (hit : Bool) (l : Level) → cond hit Dominant l ≡ Recessive → l ≡ Recessive
not_hit true l e = cc
not_hit false l e = e

hit_or_dominant : (hit : Bool) (l : Level) → l ≡ Dominant → cond hit Dominant l ≡ Dominant
hit_or_dominant true l e = refl
hit_or_dominant false l e = e

module _ (w : Wire) (c : Course) where
  pub count_at : (i : ℕ) → (wire_at w c i).count ≡ w.count
  count_at zero = refl
  count_at (suc i) = count_at i

  pub frames_at : (i : ℕ) → (wire_at w c i).frames ≡ w.frames
  frames_at zero = refl
  frames_at (suc i) = frames_at i

  abbrev pub level_at : ℕ → ℕ → Level
  level_at i k = level_found (wire_at w c i) (c.hit i) k

  abbrev pub head_at : ℕ → ℕ → Option Content
  head_at i k = slice_get ((wire_at w c i).frames k) (c.handed i k).which

  pub next_stretch : (i k : ℕ) → stretch_before w c (suc i) k ≡ stretch_after (stretch_before w c i k) (Sample (sample_found (wire_at w c i) (c.hit i) (c.handed i) k))
  next_stretch i k = stretch_next ((wire_at w c i).past k) (Sample (sample_found (wire_at w c i) (c.hit i) (c.handed i) k))

  -- nobody drives dominant if somebody finds recessive
  pub silent : (i j k : ℕ) → j < w.count → level_at i k ≡ Recessive → drive_of (stretch_before w c i j) ≡ Recessive
  silent i j k lt e = bus_recessive (wire_at w c i) (not_hit (c.hit i k) (bus (wire_at w c i)) e) j (subst (λ n. j < n) (sym (count_at i)) lt)

  pub heard : (i j k : ℕ) → j < w.count → drive_of (stretch_before w c i j) ≡ Dominant → level_at i k ≡ Dominant
  heard i j k lt d = hit_or_dominant (c.hit i k) (bus (wire_at w c i)) (dominant_bus (wire_at w c i) j (subst (λ n. j < n) (sym (count_at i)) lt) d)

  -- who is not hit finds what another one finds recessive
  pub both_quiet : (i j k : ℕ) → c.hit i j ≡ false → level_at i k ≡ Recessive → level_at i j ≡ Recessive
  both_quiet i j k free e = ap (λ b. cond b Dominant (bus (wire_at w c i))) free ∙ not_hit (c.hit i k) (bus (wire_at w c i)) e

  pub both_find : (i j k : ℕ) → c.hit i j ≡ false → c.hit i k ≡ false → level_at i j ≡ level_at i k
  both_find i j k p q = ap (λ b. cond b Dominant (bus (wire_at w c i))) p ∙ sym (ap (λ b. cond b Dominant (bus (wire_at w c i))) q)

  -- a machine that takes part goes on to
  module _ (k : ℕ) (t : TakesPart w c k) where
    pub part_at : (i : ℕ) → is_apart (stretch_before w c i k) ≡ false
    part_at zero = t.part
    part_at (suc i) =
        ap is_apart (next_stretch i k)
        ∙ inside_next is_apart_by apart_test (stretch_before w c i k) (sample_found (wire_at w c i) (c.hit i) (c.handed i) k) (part_at i)

    pub next_active : (i : ℕ) → stretch_before w c (suc i) k ≡ stretch_after (stretch_before w c i k) (Sample (sample_of (level_at i k) (head_at i k) Active))
    next_active i = next_stretch i k ∙ ap (λ m. stretch_after (stretch_before w c i k) (Sample (sample_of (level_at i k) (head_at i k) m))) (t.active i)

    -- recessive samples in a row
    pub rest_at : (i m : ℕ) → m < i → i ≤ m + rested_of (stretch_before w c i k) → level_at m k ≡ Recessive
    rest_at zero m lt le = absurd (omega (arith, lt))
    rest_at (suc i) m lt le = by (rest_at i m) (level_at i k) refl
      where
        step : rested_of (stretch_before w c (suc i) k) ≤ most_after (level_at i k) (rested_of (stretch_before w c i k))
        step =
            subst (λ t. rested_of t ≤ most_after (level_at i k) (rested_of (stretch_before w c i k))) (sym (next_stretch i k))
            (rested_next (sample_found (wire_at w c i) (c.hit i) (c.handed i) k) (stretch_before w c i k).sort (stretch_before w c i k).own (part_at i))

        by : (m < i → i ≤ m + rested_of (stretch_before w c i k) → level_at m k ≡ Recessive) → (l : Level) → level_at i k ≡ l → level_at m k ≡ Recessive
        by old Dominant e =
            let none : rested_of (stretch_before w c (suc i) k) ≤ 0 = subst (λ l. rested_of (stretch_before w c (suc i) k) ≤ most_after l (rested_of (stretch_before w c i k))) e step in
            absurd (omega arith)
        by old Recessive e =
            let up : rested_of (stretch_before w c (suc i) k) ≤ suc (rested_of (stretch_before w c i k)) =
            subst (λ l. rested_of (stretch_before w c (suc i) k) ≤ most_after l (rested_of (stretch_before w c i k))) e step in
            elim (cases_eq m i) [
              | inl same ↦ ap (λ i. level_at i k) same ∙ e
              | inr ne ↦ old (omega (arith, ne)) (omega arith)
            ]

    -- six dominant samples
    downs : (a d i : ℕ) → ((m : ℕ) → a ≤ m → m < a + 6 → level_at m k ≡ Dominant) → a ≤ i → i + d ≡ a + 6 → down_of (stretch_before w c i k) ≤ d
        → down_of (stretch_before w c (a + 6) k) ≤ 0
    downs a zero i run le e h = subst (λ m. down_of (stretch_before w c m k) ≤ 0) (let there : i ≡ a + 6 = omega arith in there) h
    downs a (suc d) i run le e h =
        downs a d (suc i) run (omega arith) (omega arith)
        (subst (λ t. down_of t ≤ d) (sym (next_active i ∙ ap (λ l. stretch_after (stretch_before w c i k) (Sample (sample_of l (head_at i k) Active))) (run i le (omega arith))))
        (down_next (head_at i k) d (stretch_before w c i k).sort (stretch_before w c i k).own (part_at i) h))

    pub downs_at : (a : ℕ) → ((m : ℕ) → a ≤ m → m < a + 6 → level_at m k ≡ Dominant) → down_of (stretch_before w c (a + 6) k) ≤ 0
    downs_at a run = downs a 6 a run (omega arith) refl (down_most (stretch_before w c a k).sort (stretch_before w c a k).own)

-- frames that are sent stay the machine's own
own_by : (frames : ℕ → Option Content) (laws : HeadLaws) (s : Stretch) (f : Content) (x : Sampled) (which : ℕ) → x.head ≡ frames which
    → ((d : Content) → head_of s.sort ≡ Some d → (n : ℕ) × (frames n ≡ Some d))
    → (o : Option Stretch) → (judged s x).next ≡ o → head_of (stretch_after s (Sample x)).sort ≡ Some f → (n : ℕ) × (frames n ≡ Some f)
own_by frames laws s f x which given old None e h = old f (ap (λ o. head_of (or_next o (stretch_by s.sort (s.own ++ x.level ∷ []))).sort) (sym e) ∙ h)
own_by frames laws s f x which given old (Some next) e h =
    let here : head_of next.sort ≡ Some f = ap (λ o. head_of (or_next o (stretch_by s.sort (s.own ++ x.level ∷ []))).sort) (sym e) ∙ h in
    elim (laws.head s next x e) [
      | inl g ↦ (which, sym given ∙ sym g ∙ here)
      | inr n ↦ absurd (none-some f (sym n ∙ here))
    ]

pub heads_at : (laws : HeadLaws) (w : Wire) (c : Course) → OwnHeads w → (i : ℕ) → OwnHeads (wire_at w c i)
heads_at laws w c heads zero k f h = heads k f h
heads_at laws w c heads (suc i) k f h =
    own_by (slice_get ((wire_at w c i).frames k)) laws (stretch_before w c i k) f (sample_found (wire_at w c i) (c.hit i) (c.handed i) k) (c.handed i k).which refl
    (heads_at laws w c heads i k) (judged (stretch_before w c i k) (sample_found (wire_at w c i) (c.hit i) (c.handed i) k)).next refl
    (ap (λ s. head_of s.sort) (sym (next_stretch w c i k)) ∙ h)

pub has_at : (w : Wire) (c : Course) (i k : ℕ) (f : Content) → Has (wire_at w c i).frames k f → Has w.frames k f
has_at w c i k f h = subst (λ frames. Has frames k f) (frames_at w c i) h
