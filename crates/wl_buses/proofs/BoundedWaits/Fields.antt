-- Who beats another frame has the lesser field.
use Rattle.std.proofs.Common.{◌≡◌, ◌∙◌, refl, sym, ap, subst, inl, inr, ℕ, zero, suc, ◌*◌, ◌<◌, ◌≤◌, List, ◌∷◌, length, Bool, true, false, cond, ◌&&◌, arith}
use Rattle.std.specs.Prelude.{nat_le, nat_lt}
use Rattle.std.proofs.Math.Seq.{get_or-append_seam}
use Rattle.std.proofs.lemmas.Bool.{and_parts, cases_eq, cases_lt, leb-true, ltb-true}
use Rattle.std.proofs.lemmas.List.{get_or_append_left}
use Rattle.wl_level.specs.declared.Level.{Level}
use Rattle.wl_level.specs.declared.Level.TheVariants.{Dominant, Recessive}
use Rattle.wl_level.specs.Places.{at}
use Rattle.wl_frame.specs.Grammar.{Content, IsContent, IsReadAs, bits_of, layout_by}
use Rattle.wl_frame.specs.Header.{is_extended, sent_free}
use Rattle.wl_frame.proofs.Callers.{frame_is_read}
use Rattle.wl_wire.specs.Winner.{Beats}
use Rattle.wl_bound.specs.Fields.{bit_number, field_of, first_bits}

bit_small : (l : Level) → bit_number l < 2
bit_small Dominant = omega arith
bit_small Recessive = omega arith

-- the same bits
same_first : (a b : List Level) (k : ℕ) → ((j : ℕ) → j < k → at a j ≡ at b j) → (n : ℕ) → n < k → first_bits a n ≡ first_bits b n
same_first a b k same zero less = refl
same_first a b k same (suc n) less =
    let before = same_first a b k same n (omega arith) in
    let here = ap bit_number (same (suc n) less) in
    omega arith

-- A place is the first at which they differ.
record DifferAt (a b : List Level) (k : ℕ) : Type 0 where
  same : (j : ℕ) → j < k → at a j ≡ at b j
  dominant : at a k ≡ Dominant
  recessive : at b k ≡ Recessive
  some : 1 ≤ k

module _ (a b : List Level) (k : ℕ) (d : DifferAt a b k) where
  lesser : (n : ℕ) → k ≤ n → first_bits a n < first_bits b n
  lesser zero less = (let some = d.some in absurd (omega arith))
  lesser (suc n) less = elim (cases_eq k (suc n)) [
    | inl here ↦
        (let before = same_first a b k d.same n (omega arith) in
        let one : bit_number (at a (suc n)) ≡ 0 = ap (λ j. bit_number (at a j)) (sym here) ∙ ap bit_number d.dominant in
        let other : bit_number (at b (suc n)) ≡ 1 = ap (λ j. bit_number (at b j)) (sym here) ∙ ap bit_number d.recessive in
        omega arith)
    | inr later ↦
        (let before = lesser n (omega (arith, later)) in
        let small = bit_small (at a (suc n)) in
        omega arith)
  ]

-- doubled m times, and m more
abbrev doubled : ℕ → ℕ → ℕ
doubled zero x = x
doubled (suc m) x = 2 * doubled m x

abbrev on_by : ℕ → ℕ → ℕ
on_by zero n = n
on_by (suc m) n = suc (on_by m n)

at_least : (l : List Level) (n m : ℕ) → doubled m (first_bits l n) ≤ first_bits l (on_by m n)
at_least l n zero = let r : first_bits l n ≤ first_bits l n = omega arith in r
at_least l n (suc m) = let before = at_least l n m in omega arith

at_most : (l : List Level) (n m : ℕ) → first_bits l (on_by m n) < doubled m (suc (first_bits l n))
at_most l n zero = let r : first_bits l n < suc (first_bits l n) = omega arith in r
at_most l n (suc m) = let before = at_most l n m in let small = bit_small (at l (suc (on_by m n))) in omega arith

-- a recessive bit among the later ones
more_than : (l : List Level) (k n m : ℕ) → at l k ≡ Recessive → n < k → k ≤ on_by m n → doubled m (first_bits l n) < first_bits l (on_by m n)
more_than l k n zero recessive after by = absurd (omega arith)
more_than l k n (suc m) recessive after by = elim (cases_eq k (suc (on_by m n))) [
  | inl here ↦
      (let before = at_least l n m in
      let one : bit_number (at l (suc (on_by m n))) ≡ 1 = ap (λ j. bit_number (at l j)) (sym here) ∙ ap bit_number recessive in
      omega arith)
  | inr earlier ↦ (let before = more_than l k n m recessive after (omega (arith, earlier)) in omega arith)
]

twenty : (x : ℕ) → doubled 20 x ≡ x * 1048576
twenty x = omega arith

-- the field of a frame by its format and its bits
abbrev field_by : Bool → List Level → ℕ
field_by extended bits = cond extended (first_bits bits 32) (first_bits bits 12 * 1048576)

abbrev end_by : Bool → ℕ
end_by extended = cond extended 33 13

fields : (x y : Bool) (a b : List Level) (k : ℕ) → DifferAt a b k → k < end_by y → field_by x a < field_by y b
fields x true a b k d inside = elim (cases_lt k 13) [
  | inl first ↦ early x
  | inr last ↦ late x last
]
  where
    whole : first_bits a 32 < first_bits b 32
    whole = lesser a b k d 32 (omega arith)

    early : (x : Bool) → field_by x a < first_bits b 32
    early true = whole
    early false = elim (cases_lt k 13) [
      | inl first ↦
          (let less = lesser a b k d 12 (omega arith) in
          let base = at_least b 12 20 in
          let b20 = twenty (first_bits b 12) in
          omega arith)
      | inr last ↦
          (let same = same_first a b k d.same 12 (omega arith) in
          let more = more_than b k 12 20 d.recessive (omega arith) (omega arith) in
          let b20 = twenty (first_bits b 12) in
          omega arith)
    ]

    late : (x : Bool) → 13 ≤ k → field_by x a < first_bits b 32
    late x last = early x
fields true false a b k d inside =
    let less = lesser a b k d 12 (omega arith) in
    let most = at_most a 12 20 in
    let a20 = twenty (suc (first_bits a 12)) in
    omega arith
fields false false a b k d inside = let less = lesser a b k d 12 (omega arith) in omega arith

read_back : (c : Content) → IsContent c → IsReadAs (bits_of c) c
unfolding bits_of
read_back c is = (frame_is_read (bits_of c) c).0 (is, sent_free, refl)

arbitration_by : (extended : Bool) (bits : List Level) (k : ℕ) → nat_le (layout_by extended bits).start k && nat_lt k (layout_by extended bits).arbitration ≡ true → (1 ≤ k) × (k < end_by extended)
arbitration_by true bits k e = let parts = and_parts _ _ e in (leb-true 1 k parts.0, ltb-true k 33 parts.1)
arbitration_by false bits k e = let parts = and_parts _ _ e in (leb-true 1 k parts.0, ltb-true k 13 parts.1)

pub lesser_field : (winner loser : Content) → IsContent loser → Beats winner loser → field_of winner < field_of loser
unfolding field_of
lesser_field winner loser is beats =
    let k = length beats.front in
    let format : is_extended (bits_of loser) ≡ loser.extended = ap (λ c. c.extended) (read_back loser is).content in
    let inside = arbitration_by (is_extended (bits_of loser)) (bits_of loser) k beats.inside in
    let differ : DifferAt (bits_of winner) (bits_of loser) k = record {
      same = λ j less.
          ap (λ l. at l j) beats.winner_is ∙ get_or_append_left beats.front (Dominant ∷ beats.more) Recessive j less
          ∙ sym (ap (λ l. at l j) beats.loser_is ∙ get_or_append_left beats.front (Recessive ∷ beats.rest) Recessive j less);
      dominant = ap (λ l. at l k) beats.winner_is ∙ get_or-append_seam beats.front Dominant beats.more Recessive;
      recessive = ap (λ l. at l k) beats.loser_is ∙ get_or-append_seam beats.front Recessive beats.rest Recessive;
      some = inside.0;
    } in
    subst (λ x. field_by winner.extended (bits_of winner) < field_by x (bits_of loser)) format
    (fields winner.extended (is_extended (bits_of loser)) (bits_of winner) (bits_of loser) k differ inside.1)
