-- What the word of a slot tells: it comes from a record that is true.
use Rattle.std.proofs.Common.{◌≡◌, ◌&&◌, ◌==◌, ℕ, zero, suc, List, [], ◌∷◌, Bool, true, false, sym, subst, refl, inl, inr, ⊎_elim, arith}
use Rattle.std.specs.Prelude.{All}
use Rattle.std.proofs.lemmas.Bool.Decides.{nat_tests}
use Rattle.std.proofs.lemmas.List.Elements.{All-head, All-tail}
use mathlib.Core.Logic.{dite}
use native.Mathlib.Decide.{ℕ_discrete}
use Rattle.wl_lattice.specs.declared.FlatWord.{FlatWord}
use Rattle.wl_lattice.specs.declared.FlatWord.TheVariants.{Nothing, Value, Clash as Clash'}
use Rattle.wl_lattice.specs.WordLaws.{value_from, clash_from}
use Rattle.wl_record_core.specs.declared.record.Record.{Record}
use Rattle.wl_record_core.specs.declared.record.Record.TheVariants.{Edge, Clash, Silence}
use Rattle.wl_record_core.specs.declared.record.Slot.{Slot}
use Rattle.wl_record_core.specs.declared.record.Slot.TheVariants.{EdgeAt, SilenceAt}
use Rattle.wl_lattice.specs.Numbers.{word_number}
use Rattle.wl_hub.specs.Words.{edge_share, silence_share, edge_join, silence_join, IsJoinOfTrue, Tells, TellsClash}

both_same : (m q n s : ℕ) → ((m == n) && (q == s)) ≡ true → (m ≡ n) × (q ≡ s)
both_same m q n s h = (grind (arith, nat_tests), grind (arith, nat_tests))

module _ (P : Record → Type 0) where
  -- ---- silences
  one_silence : (n c m d u v : ℕ) (b : Bool) → ((m == n) && (d == c)) ≡ b → P (Silence m d u) → (silence_share n c (Silence m d u)).word ≡ suc v → P (Silence n c (suc v))
  one_silence n c m d u v true e p is =
      let same = both_same m d n c e in
      let up : u ≡ suc v = rw e at is in
      subst (λ (k : ℕ × ℕ × ℕ). P (Silence k.0 k.1 k.2)) (λ i. (same.0 i, same.1 i, up i)) p
  one_silence n c m d u v false e p is = let none : 0 ≡ suc v = rw e at is in absurd (omega arith)

  silence_one : (n c v : ℕ) (r : Record) → P r → (silence_share n c r).word ≡ suc v → P (Silence n c (suc v))
  silence_one n c v (Edge m q t) p is = absurd (omega (arith, is))
  silence_one n c v (Clash m q) p is = absurd (omega (arith, is))
  silence_one n c v (Silence m d u) p is = one_silence n c m d u v ((m == n) && (d == c)) refl p is

  silence_behind : (n c v : ℕ) (rs : List Record) → All P rs → (silence_join n c rs).word ≡ suc v → P (Silence n c (suc v))
  silence_behind n c v [] all is = absurd (omega (arith, is))
  silence_behind n c v (r ∷ rs) all is = dite (ℕ_discrete (silence_share n c r).word (suc v))
      (λ here. silence_one n c v r (All-head P r rs all) here)
      (λ there. silence_behind n c v rs (All-tail P r rs all) (omega (arith, is, there)))

  -- ---- edges
  one_edge : (n s m q u t : ℕ) (b : Bool) → ((m == n) && (q == s)) ≡ b → P (Edge m q u) → edge_share n s (Edge m q u) ≡ Value t → P (Edge n s t)
  one_edge n s m q u t true e p is =
      let same = both_same m q n s e in
      let value : Value u ≡ Value t = rw e at is in
      let up : u ≡ t = cc in
      subst (λ (k : ℕ × ℕ × ℕ). P (Edge k.0 k.1 k.2)) (λ i. (same.0 i, same.1 i, up i)) p
  one_edge n s m q u t false e p is = let none : Nothing ≡ Value t = rw e at is in absurd cc

  no_value : (n s m q t : ℕ) (b : Bool) → ((m == n) && (q == s)) ≡ b → edge_share n s (Clash m q) ≡ Value t → ⊥
  no_value n s m q t true e is = let clash : Clash' ≡ Value t = rw e at is in cc
  no_value n s m q t false e is = let none : Nothing ≡ Value t = rw e at is in cc

  edge_one : (n s t : ℕ) (r : Record) → P r → edge_share n s r ≡ Value t → P (Edge n s t)
  edge_one n s t (Edge m q u) p is = one_edge n s m q u t ((m == n) && (q == s)) refl p is
  edge_one n s t (Clash m q) p is = absurd (no_value n s m q t ((m == n) && (q == s)) refl is)
  edge_one n s t (Silence m c u) p is = absurd cc

  edge_behind : (n s t : ℕ) (rs : List Record) → All P rs → edge_join n s rs ≡ Value t → P (Edge n s t)
  edge_behind n s t [] all is = absurd cc
  edge_behind n s t (r ∷ rs) all is = ⊎_elim (λ here. edge_one n s t r (All-head P r rs all) here) (λ there. edge_behind n s t rs (All-tail P r rs all) there)
      (value_from (edge_share n s r) (edge_join n s rs) t is)

  one_clash : (n s m q : ℕ) (b : Bool) → ((m == n) && (q == s)) ≡ b → P (Clash m q) → edge_share n s (Clash m q) ≡ Clash' → P (Clash n s)
  one_clash n s m q true e p is = let same = both_same m q n s e in subst (λ (k : ℕ × ℕ). P (Clash k.0 k.1)) (λ i. (same.0 i, same.1 i)) p
  one_clash n s m q false e p is = let none : Nothing ≡ Clash' = rw e at is in absurd cc

  no_clash : (n s m q u : ℕ) (b : Bool) → ((m == n) && (q == s)) ≡ b → edge_share n s (Edge m q u) ≡ Clash' → ⊥
  no_clash n s m q u true e is = let value : Value u ≡ Clash' = rw e at is in cc
  no_clash n s m q u false e is = let none : Nothing ≡ Clash' = rw e at is in cc

  clash_one : (n s : ℕ) (r : Record) → P r → edge_share n s r ≡ Clash' → P (Clash n s)
  clash_one n s (Edge m q u) p is = absurd (no_clash n s m q u ((m == n) && (q == s)) refl is)
  clash_one n s (Clash m q) p is = one_clash n s m q ((m == n) && (q == s)) refl p is
  clash_one n s (Silence m c u) p is = absurd cc

  clash_behind : (n s : ℕ) (rs : List Record) → All P rs → edge_join n s rs ≡ Clash' → TellsClash P n s
  clash_behind n s [] all is = absurd cc
  clash_behind n s (r ∷ rs) all is =
      let mine = All-head P r rs all in
      let others = All-tail P r rs all in
      ⊎_elim (λ here. inl (clash_one n s r mine here))
      (λ rest. ⊎_elim (λ there. clash_behind n s rs others there)
      (λ two. inr (two.0, two.1, two.4, edge_one n s two.0 r mine two.2, edge_behind n s two.1 rs others two.3)) rest)
      (clash_from (edge_share n s r) (edge_join n s rs) is)

  edge_tells : (n s word : ℕ) (rs : List Record) (x : FlatWord) → All P rs → edge_join n s rs ≡ x → word ≡ word_number x → Tells P (EdgeAt n s) word
  edge_tells n s word rs Nothing all is at = inl at
  edge_tells n s word rs (Value t) all is at = inr (inl (t, at, edge_behind n s t rs all is))
  edge_tells n s word rs Clash' all is at = inr (inr (at, clash_behind n s rs all is))

  silence_tells : (n c word : ℕ) (rs : List Record) → All P rs → word ≡ (silence_join n c rs).word → Tells P (SilenceAt n c) word
  silence_tells n c zero rs all is = inl refl
  silence_tells n c (suc v) rs all is = inr (silence_behind n c v rs all (sym is))

pub word_tells : (P : Record → Type 0) (slot : Slot) (word : ℕ) → IsJoinOfTrue P slot word → Tells P slot word
word_tells P (EdgeAt n s) word j = edge_tells P n s word j.records (edge_join n s j.records) j.are_true refl j.joins
word_tells P (SilenceAt n c) word j = silence_tells P n c word j.records j.are_true j.joins
