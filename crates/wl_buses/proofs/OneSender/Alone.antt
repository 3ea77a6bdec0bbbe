-- What the nodes find where one of them drives the bits of a list, each from a tick to the next one's, and no other drives dominant.
use Rattle.std.proofs.Common.{◌≡◌, ◌≢◌, ◌∙◌, ◌⊎◌, inl, inr, refl, sym, ap, subst, ℕ, suc, ◌+◌, ◌-◌, ◌<◌, ◌≤◌, List, length, Bool, true, false, ◌&&◌, arith}
use Rattle.std.specs.Prelude.{nat_le, nat_lt, ◌==◌}
use Rattle.std.proofs.lemmas.Bool.{both_ways, cases_Bool, cases_lt, cases_eq, and_parts, and_from, and_left, and_right, le-leb, lt-leb, leb-true, lt-ltb, ltb-true, eq-eqb, ne_eqb, false_from_ne_true}
use Rattle.std.proofs.lemmas.List.{get_or_past}
use Rattle.wl_level.specs.declared.Level.{Level}
use Rattle.wl_level.specs.declared.Level.TheVariants.{Recessive}
use Rattle.wl_level.specs.Levels.{is_dominant}
use Rattle.wl_level.specs.Places.{at}
use Rattle.wl_topology.specs.Driven.{any_below, driven, DrivenLaws}
use Rattle.wl_topology.proofs.Callers.{any_from, any_none}

-- one node that drives dominant
pub found_by_one : DrivenLaws → (nodes : ℕ) (delay : ℕ → ℕ → ℕ) (drove : ℕ → ℕ → Bool) (i j t : ℕ) → i < nodes
    → ((k : ℕ) → k < nodes → k ≢ i → delay k j ≤ t → drove k (t - delay k j) ≡ false)
    → driven nodes delay drove j t ≡ (nat_le (delay i j) t && drove i (t - delay i j))
found_by_one laws nodes delay drove i j t inside others = elim (cases_Bool (driven nodes delay drove j t)) [
  | inl is_so ↦
      (let by = laws.dominant_by nodes delay drove j t is_so in
      elim (cases_eq by.0 i) [
        | inl same ↦
            (let here : (nat_le (delay i j) t && drove i (t - delay i j)) ≡ true =
            subst (λ k. (nat_le (delay k j) t && drove k (t - delay k j)) ≡ true) same (and_from _ _ (le-leb (delay by.0 j) t by.2) by.3) in
            is_so ∙ sym here)
        | inr other ↦ absurd (both_ways (drove by.0 (t - delay by.0 j)) (others by.0 by.1 other by.2) by.3)
      ])
  | inr is_not ↦
      is_not ∙ sym (false_from_ne_true (nat_le (delay i j) t && drove i (t - delay i j)) (λ e.
      (let p = and_parts _ _ e in
      both_ways (driven nodes delay drove j t) is_not (laws.dominant_from nodes delay drove i j t inside (leb-true (delay i j) t p.0) p.1))))
]

-- bits of a list, each from a tick on
module _ (y : List Level) (tick : ℕ → ℕ) (later : (b c : ℕ) → b ≤ c → tick b ≤ tick c) where
  abbrev is_bit : ℕ → ℕ → Bool
  is_bit t b = (is_dominant (at y b) && nat_le (tick b) t) && nat_lt t (tick (suc b))

  pub sent : ℕ → Bool
  sent t = any_below (length y) (is_bit t)

  none_else : (t b c : ℕ) → tick b ≤ t → t < tick (suc b) → c ≢ b → is_bit t c ≡ false
  none_else t b c low high apart = false_from_ne_true (is_bit t c) (λ e.
      (let p = and_parts _ _ e in
      let q = and_parts _ _ p.0 in
      let begun = leb-true (tick c) t q.1 in
      let next = ltb-true t (tick (suc c)) p.1 in
      elim (cases_lt c b) [
        | inl less ↦ (let up = later (suc c) b less in absurd (omega arith))
        | inr more ↦ (let up = later (suc b) c (omega arith) in absurd (omega arith))
      ]))

  pub sent_bit : (t b : ℕ) → tick b ≤ t → t < tick (suc b) → sent t ≡ is_dominant (at y b)
  unfolding sent
  sent_bit t b low high = elim (cases_Bool (is_dominant (at y b))) [
    | inl is_so ↦
        (let inside : b < length y = elim (cases_lt b (length y)) [
          | inl less ↦ less
          | inr past ↦ (let e = get_or_past y b Recessive past in absurd (both_ways (is_dominant (at y b)) (ap is_dominant e) is_so))
        ] in
        any_from (length y) b (is_bit t) inside (and_from _ _ (and_from _ _ is_so (le-leb (tick b) t low)) (lt-ltb t (tick (suc b)) high)) ∙ sym is_so)
    | inr is_not ↦
        any_none (length y) (is_bit t) (λ c less. elim (cases_eq c b) [
          | inl same ↦ subst (λ i. is_bit t i ≡ false) (sym same) (and_left _ _ (and_left _ _ is_not))
          | inr other ↦ none_else t b c low high other
        ]) ∙ sym is_not
  ]

  pub sent_before : (t : ℕ) → t < tick 0 → sent t ≡ false
  unfolding sent
  sent_before t before = any_none (length y) (is_bit t) (λ c less. false_from_ne_true (is_bit t c) (λ e.
      (let p = and_parts _ _ e in
      let q = and_parts _ _ p.0 in
      let begun = leb-true (tick c) t q.1 in
      let up = later 0 c (omega arith) in
      absurd (omega arith))))

  pub sent_after : (t : ℕ) → tick (length y) ≤ t → sent t ≡ false
  unfolding sent
  sent_after t after = any_none (length y) (is_bit t) (λ c less. false_from_ne_true (is_bit t c) (λ e.
      (let p = and_parts _ _ e in
      let next = ltb-true t (tick (suc c)) p.1 in
      let up = later (suc c) (length y) less in
      absurd (omega arith))))

  -- this node alone drives
  pub drove_by : (sender i t : ℕ) → Bool
  drove_by sender i t = (i == sender) && sent t

  pub drove_sender : (sender t : ℕ) → drove_by sender sender t ≡ sent t
  unfolding drove_by
  drove_sender sender t = rw (eq-eqb sender sender refl) refl

  pub drove_other : (sender i t : ℕ) → i ≢ sender → drove_by sender i t ≡ false
  unfolding drove_by
  drove_other sender i t apart = rw (ne_eqb i sender apart) refl

  module _ (laws : DrivenLaws) (nodes : ℕ) (delay : ℕ → ℕ → ℕ) (sender j t : ℕ) (inside : sender < nodes) where
    finds : driven nodes delay (drove_by sender) j t ≡ (nat_le (delay sender j) t && sent (t - delay sender j))
    finds =
        found_by_one laws nodes delay (drove_by sender) sender j t inside (λ k less apart come. drove_other sender k (t - delay k j) apart)
        ∙ ap (λ b. nat_le (delay sender j) t && b) (drove_sender sender (t - delay sender j))

    pub finds_bit : (b : ℕ) → tick b + delay sender j ≤ t → t < tick (suc b) + delay sender j → driven nodes delay (drove_by sender) j t ≡ is_dominant (at y b)
    finds_bit b low high =
        finds ∙ ap (λ v. v && sent (t - delay sender j)) (le-leb (delay sender j) t (omega arith)) ∙ sent_bit (t - delay sender j) b (omega arith) (omega arith)

    pub finds_none : (t < tick 0 + delay sender j) ⊎ (tick (length y) + delay sender j ≤ t) → driven nodes delay (drove_by sender) j t ≡ false
    finds_none (inl before) = elim (cases_lt t (delay sender j)) [
      | inl early ↦ finds ∙ ap (λ v. v && sent (t - delay sender j)) (lt-leb (delay sender j) t early)
      | inr come ↦ finds ∙ and_right (nat_le (delay sender j) t) (sent (t - delay sender j)) (sent_before (t - delay sender j) (omega arith))
    ]
    finds_none (inr after) = finds ∙ and_right (nat_le (delay sender j) t) (sent (t - delay sender j)) (sent_after (t - delay sender j) (omega arith))
