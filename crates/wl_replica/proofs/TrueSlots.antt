-- Records that are true of a table make slots that hold what is true of it, and so do joined ones.
use Rattle.std.proofs.Common.{◌≡◌, ℕ, ◌<◌, ◌≤◌, Bool, true, false, ◌&&◌, ◌⊎◌, inl, inr, List, [], ◌∷◌, refl, sym, subst, arith, ◌==◌, if◌then◌else◌}
use Rattle.std.proofs.lemmas.Bool.{cases_Bool, eqb-true, eq-eqb, and_parts, and_from, cond-true, cond-false}
use Rattle.wl_lattice.specs.declared.FlatWord.{FlatWord}
use Rattle.wl_lattice.specs.declared.FlatWord.TheVariants as flat
use Rattle.wl_lattice.specs.Words.{joined_flat}
use Rattle.wl_lattice.specs.WordLaws.{value_from, clash_from, value_kept}
use Rattle.wl_record_core.specs.declared.record.Record.{Record}
use Rattle.wl_record_core.specs.declared.record.Record.TheVariants.{Edge, Clash, Silence}
use Rattle.wl_record_core.specs.Truth.{IsTrueOf, AreTrueOf}
use Rattle.wl_record_core.specs.TableLaws.{TableLaws}
use Rattle.wl_record_core.proofs.Callers.{one_tick_a_slot}
use Rattle.wl_replica.proofs.SmallFacts.{max_cases}
use Rattle.wl_replica.specs.Slots.{Contents, no_slots, slots_joined, silence_in, slots_only, slots_of_records, HoldsTrue, IsBelow}
use Rattle.wl_replica.specs.KnownLaws.{KnownLaws}
use Rattle.wl_replica.proofs.HalvingLemmas.{wave_counted}
use Rattle.wl_replica.proofs.KnownProofs.{tick_stays, place_known, place_above, wave_agrees, horizon_keeps, horizon_reached, changes_held}

true_joined : (nodes : ℕ) (table : ℕ → List ℕ) (a b : Contents) → HoldsTrue nodes table a → HoldsTrue nodes table b → HoldsTrue nodes table (slots_joined a b)
true_joined nodes table a b p q = record {
  edges = λ i s t h. elim (value_from (a.edge i s) (b.edge i s) t h) [ inl x ↦ p.edges i s t x | inr y ↦ q.edges i s t y ];
  no_clash = λ i s h. elim (clash_from (a.edge i s) (b.edge i s) h) [
    | inl x ↦ p.no_clash i s x
    | inr o ↦ elim o [
      | inl y ↦ q.no_clash i s y
      | inr two ↦ two.4 (one_tick_a_slot nodes table i s two.0 two.1 (p.edges i s two.0 two.2) (q.edges i s two.1 two.3))
    ]
  ];
  silences = λ i n h. elim (max_cases (a.silence i n) (b.silence i n)) [
    | inl e ↦ subst (λ u. IsTrueOf nodes table (Silence i n u)) (sym e) (p.silences i n (omega arith))
    | inr e ↦ subst (λ u. IsTrueOf nodes table (Silence i n u)) (sym e) (q.silences i n (omega arith))
  ];
}

true_nothing : (nodes : ℕ) (table : ℕ → List ℕ) → HoldsTrue nodes table no_slots
true_nothing nodes table = record { edges = λ i s t h. cc; no_clash = λ i s h. cc; silences = λ i n h. absurd (omega arith) }

-- a chosen word
chosen : (b : Bool) (x y z : FlatWord) → (if b then x else y) ≡ z → ((b ≡ true) × (x ≡ z)) ⊎ ((b ≡ false) × (y ≡ z))
chosen true x y z h = inl (refl, h)
chosen false x y z h = inr (refl, h)

value_same : (a b : ℕ) → flat.Value a ≡ flat.Value b → a ≡ b
value_same a b h = cc

-- a true record says what is true
true_only : (nodes : ℕ) (table : ℕ → List ℕ) (r : Record) → IsTrueOf nodes table r → HoldsTrue nodes table (slots_only r)
true_only nodes table (Edge i s t) h = record {
  edges = λ j n u e. elim (chosen (j == i && (n == s)) (flat.Value t) flat.Nothing (flat.Value u) e) [
    | inl x ↦
        let p = and_parts _ _ x.0 in
        let pj : j ≡ i = eqb-true j i p.0 in
        let pn : n ≡ s = eqb-true n s p.1 in
        let pt : t ≡ u = value_same t u x.1 in
        subst (λ v. IsTrueOf nodes table (Edge v n u)) (sym pj) (subst (λ v. IsTrueOf nodes table (Edge i v u)) (sym pn) (subst (λ v. IsTrueOf nodes table (Edge i s v)) pt h))
    | inr y ↦ absurd (let c : flat.Nothing ≡ flat.Value u = y.1 in cc)
  ];
  no_clash = λ j n e. elim (chosen (j == i && (n == s)) (flat.Value t) flat.Nothing flat.Clash e) [
    | inl x ↦ (let c : flat.Value t ≡ flat.Clash = x.1 in cc)
    | inr y ↦ (let c : flat.Nothing ≡ flat.Clash = y.1 in cc)
  ];
  silences = λ j n e. absurd (omega arith);
}
true_only nodes table (Silence i c u) h = record {
  edges = λ j n t e. cc;
  no_clash = λ j n e. cc;
  silences = λ j n e. told j n (cases_Bool (j == i && (n == c))) e;
}
  where
    told : (j n : ℕ) → ((j == i && (n == c)) ≡ true) ⊎ ((j == i && (n == c)) ≡ false) → 0 < silence_in (Silence i c u) j n → IsTrueOf nodes table (Silence j n (silence_in (Silence i c u) j n))
    told j n (inl y) e =
        let p = and_parts _ _ y in
        let pj : j ≡ i = eqb-true j i p.0 in
        let pn : n ≡ c = eqb-true n c p.1 in
        subst (λ v. IsTrueOf nodes table (Silence j n v)) (sym (cond-true (j == i && (n == c)) u 0 y))
        (subst (λ v. IsTrueOf nodes table (Silence v n u)) (sym pj) (subst (λ v. IsTrueOf nodes table (Silence i v u)) (sym pn) h))
    told j n (inr out) e = absurd (let z : silence_in (Silence i c u) j n ≡ 0 = cond-false (j == i && (n == c)) u 0 out in omega arith)
true_only nodes table (Clash i s) h = absurd h

true_records : (nodes : ℕ) (table : ℕ → List ℕ) (rs : List Record) → AreTrueOf nodes table rs → HoldsTrue nodes table (slots_of_records rs)
true_records nodes table [] h = true_nothing nodes table
true_records nodes table (r ∷ rs) h = true_joined nodes table (slots_of_records rs) (slots_only r) (true_records nodes table rs h.1) (true_only nodes table r h.0)

-- what a record says stands in slots above it
edge_held : (nodes : ℕ) (table : ℕ → List ℕ) (w : Contents) (i s t : ℕ) → HoldsTrue nodes table w → IsBelow (slots_only (Edge i s t)) w → w.edge i s ≡ flat.Value t
edge_held nodes table w i s t h b =
    value_kept t (w.edge i s)
    (subst (λ v. joined_flat v (w.edge i s) ≡ w.edge i s) (cond-true (i == i && (s == s)) (flat.Value t) flat.Nothing (and_from _ _ (eq-eqb i i refl) (eq-eqb s s refl))) (b.edges i s))
    (h.no_clash i s)

silence_held : (w : Contents) (i n u : ℕ) → IsBelow (slots_only (Silence i n u)) w → u ≤ w.silence i n
silence_held w i n u b =
    let e : silence_in (Silence i n u) i n ≡ u = cond-true (i == i && (n == n)) u 0 (and_from _ _ (eq-eqb i i refl) (eq-eqb n n refl)) in
    let f : silence_in (Silence i n u) i n ≤ w.silence i n = b.silences i n in
    omega arith

pub known_laws : TableLaws → KnownLaws
known_laws tables = record {
  true_joined = true_joined;
  true_records = true_records;
  horizon_keeps = horizon_keeps tables;
  wave_agrees = wave_agrees tables;
  wave_counted = wave_counted;
  changes_held = changes_held tables;
  horizon_reached = horizon_reached tables;
  edge_held = edge_held;
  silence_held = silence_held;
  tick_stays = tick_stays;
  place_known = place_known;
  place_above = place_above;
}
