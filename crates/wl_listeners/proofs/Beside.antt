-- A wire with a listener goes as the wire on which it is a machine as all others.
use Rattle.std.proofs.Common.{◌≡◌, ◌∙◌, inl, inr, refl, sym, ap, subst, ℕ, ◌<◌, ◌&&◌, ◌==◌, not, cond, List, [], ◌∷◌, ◌++◌, is_some}
use Rattle.std.proofs.lemmas.Bool.{cases_Bool, cond-false, cond-true}
use Rattle.std.proofs.lemmas.List.Sums.{fold-append}
use Rattle.wl_level.specs.declared.Level.TheVariants.{Recessive}
use Rattle.wl_level.specs.Levels.{is_dominant, level_of}
use Rattle.wl_level.specs.Places.{first_place}
use Rattle.wl_level.proofs.Callers.{first_cong}
use Rattle.wl_machine.specs.Stretch.Input.{Sample}
use Rattle.wl_machine.specs.Judged.{drive_of, stretch_of}
use Rattle.wl_wire.specs.Wire.{Event, Bit, Own, Wire, added, bus, drives_dominant, may_be_alone, next_wire, sampled, stretch_at, wire_after}
use Rattle.wl_listeners.specs.Wires.{added_beside, bus_beside, drives_beside, heard, next_beside, wire_beside}

-- the same has reached each machine of two wires
record AreAlike (u v : Wire) : Type 0 where
  pub count : u.count ≡ v.count
  pub frames : u.frames ≡ v.frames
  pub past : (k : ℕ) → k < v.count → u.past k ≡ v.past k

module _ (listener : ℕ) (u v : Wire) (alike : AreAlike u v) where
  same_drive : (k : ℕ) → k < v.count → drives_dominant u k ≡ drives_dominant v k
  same_drive k less = ap (λ p. is_dominant (drive_of (stretch_of p))) (alike.past k less)

  same_bus : bus u ≡ bus v
  same_bus =
      ap (λ n. level_of (is_some (first_place (drives_dominant u) n))) alike.count
      ∙ ap (λ o. level_of (is_some o)) (first_cong (drives_dominant u) (drives_dominant v) v.count same_drive)

  same_beside : bus_beside u listener ≡ bus_beside v listener
  same_beside =
      ap (λ n. level_of (is_some (first_place (drives_beside u listener) n))) alike.count
      ∙ ap (λ o. level_of (is_some o)) (first_cong (drives_beside u listener) (drives_beside v listener) v.count (λ k less. ap (λ b. b && not (k == listener)) (same_drive k less)))

  module _ (adds_nothing : bus v ≡ bus_beside v listener) where
    same_heard : (k : ℕ) → heard u listener k ≡ bus v
    same_heard k = elim (cases_Bool (k == listener)) [
      | inl own ↦ cond-true (k == listener) (bus u) (bus_beside u listener) own ∙ same_bus
      | inr other ↦ cond-false (k == listener) (bus u) (bus_beside u listener) other ∙ same_beside ∙ sym adds_nothing
    ]

    same_added : (event : Event) (k : ℕ) → k < v.count → added_beside u listener event k ≡ added v event k
    same_added (Bit handed) k less =
        ap (λ l. Sample (sampled l (u.frames k) (handed k)) ∷ []) (same_heard k) ∙ ap (λ f. Sample (sampled (bus v) (f k) (handed k)) ∷ []) alike.frames
    same_added (Own machine handed) k less =
        ap (λ p. cond ((k == machine) && may_be_alone (stretch_of p)) (Sample (sampled Recessive (u.frames k) handed) ∷ []) []) (alike.past k less)
        ∙ ap (λ f. cond ((k == machine) && may_be_alone (stretch_at v k)) (Sample (sampled Recessive (f k) handed) ∷ []) []) alike.frames

    next_alike : (event : Event) → AreAlike (next_beside listener u event) (next_wire v event)
    next_alike event = record {
      count = alike.count;
      frames = alike.frames;
      past = λ k less. ap (λ p. p ++ added_beside u listener event k) (alike.past k less) ∙ ap (λ a. v.past k ++ a) (same_added event k less);
    }

module _ (listener : ℕ) (first : Wire) (adds_nothing : (events : List Event) → bus (wire_after first events) ≡ bus_beside (wire_after first events) listener) where
  all_alike : (done more : List Event) (u : Wire) → AreAlike u (wire_after first done) → AreAlike (wire_beside listener u more) (wire_after (wire_after first done) more)
  all_alike done [] u alike = alike
  all_alike done (event ∷ more) u alike =
      let next = next_alike listener u (wire_after first done) alike (adds_nothing done) event in
      let split : wire_after first (done ++ event ∷ []) ≡ next_wire (wire_after first done) event = fold-append next_wire first done (event ∷ []) in
      subst (λ x. AreAlike (wire_beside listener (next_beside listener u event) more) (wire_after x more)) split
      (all_alike (done ++ event ∷ []) more (next_beside listener u event) (subst (AreAlike (next_beside listener u event)) (sym split) next))

  pub same_past : (events : List Event) (k : ℕ) → k < (wire_after first events).count → (wire_beside listener first events).past k ≡ (wire_after first events).past k
  same_past events k less = (all_alike [] events first (record { count = refl; frames = refl; past = λ m inside. refl })).past k less
