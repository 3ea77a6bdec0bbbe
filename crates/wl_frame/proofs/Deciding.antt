-- Frames that differ in format, identifier or RTR bit differ first where the recessive sender may lose.
use Rattle.std.proofs.Common.{◌≡◌, ℕ, ◌+◌, ◌*◌, ◌^◌, ◌<◌, ◌≤◌, ◌∙◌, List, [], ◌∷◌, ◌++◌, length, take, map, Bool, true, false, cond, ◌&&◌, sym, ap, arith, eqb-true, length-append, inl, inr}
use Rattle.std.specs.Prelude.{◌==◌, nat_le, nat_lt}
use Rattle.std.proofs.Math.Seq.{get_or-append_seam}
use Rattle.std.proofs.lemmas.List.{drop_at}
use Rattle.std.proofs.lemmas.Bool.{cases_lt, le-leb, lt-ltb, both_ways}
use Rattle.wl_level.specs.declared.Level.{Level}
use Rattle.wl_level.specs.declared.Level.TheVariants.{Dominant, Recessive}
use Rattle.wl_level.specs.Places.{at}
use Rattle.wl_frame.specs.Crc.{bit_of_level, number_of}
use Rattle.wl_frame.specs.Header.{value_in, is_extended, number_from}
use Rattle.wl_frame.specs.Header.Name.{RemoteRequest}
use Rattle.wl_frame.specs.Grammar.{Content, IsContent, IsReadAs, bits_of, content_by, id_by, is_arbitration, is_whole, covered_length, layout_by}
use Rattle.wl_frame.specs.Laws.{HaveSameField}
use Rattle.wl_frame.proofs.Fields.{number_front}
use Rattle.wl_frame.proofs.Reading.{frame_is_read, sent_frame, covered_some}

-- what is sent is read as what it carries
read_back : (c : Content) → IsContent c → IsReadAs (bits_of c) c
read_back c is = (frame_is_read (bits_of c) c).0 (sent_frame c is)

-- a number in a common front of two lists
module _ (a b front more rest : List Level) (ea : a ≡ front ++ more) (eb : b ≡ front ++ rest) where
  shared : (n k : ℕ) → n + k ≤ length front → number_from a n k ≡ number_from b n k
  shared n k h =
      ap (λ ls. number_from ls n k) ea ∙ number_front front more n k h
      ∙ sym (ap (λ ls. number_from ls n k) eb ∙ number_front front rest n k h)

  -- once the IDE bit is there the format is the same
  shared_format : 14 ≤ length front → is_extended a ≡ is_extended b
  shared_format h = ap (λ n. n == 1) (shared 13 1 (omega arith))

  shared_id : (extended : Bool) → cond extended 33 13 ≤ length front → id_by extended a ≡ id_by extended b
  shared_id true h = ap (λ n. n * 2 ^ 18 + number_from a 14 18) (shared 1 11 (omega arith)) ∙ ap (λ n. number_from b 1 11 * 2 ^ 18 + n) (shared 14 18 (omega arith))
  shared_id false h = shared 1 11 (omega arith)

  shared_remote : (extended : Bool) → cond extended 33 13 ≤ length front → (value_in RemoteRequest extended a == 1) ≡ (value_in RemoteRequest extended b == 1)
  shared_remote true h = ap (λ n. n == 1) (shared 32 1 (omega arith))
  shared_remote false h = ap (λ n. n == 1) (shared 12 1 (omega arith))

arbitration_of : (extended : Bool) → (bits : List Level) (k : ℕ) → is_extended bits ≡ extended → 1 ≤ k → k < cond extended 33 13 → is_arbitration bits k ≡ true
arbitration_of true bits k e low high =
    ap (λ x. nat_le (layout_by x bits).start k && nat_lt k (layout_by x bits).arbitration) e
    ∙ ap (λ b. b && nat_lt k 33) (le-leb 1 k low) ∙ lt-ltb k 33 high
arbitration_of false bits k e low high =
    ap (λ x. nat_le (layout_by x bits).start k && nat_lt k (layout_by x bits).arbitration) e
    ∙ ap (λ b. b && nat_lt k 13) (le-leb 1 k low) ∙ lt-ltb k 13 high

-- a recessive bit at the place of the IDE bit makes the format extended
ide_recessive : (front more : List Level) → length front ≡ 13 → at (front ++ more) 13 ≡ Recessive → 14 ≤ length (front ++ more) → is_extended (front ++ more) ≡ true
ide_recessive front [] n e long = absurd (omega (arith, length-append front []))
ide_recessive front (x ∷ more) n e long =
    let x_is : x ≡ Recessive = sym (get_or-append_seam front x more Recessive) ∙ ap (at (front ++ x ∷ more)) n ∙ e in
    ap (λ ls. number_of (map bit_of_level (take 1 ls)) == 1) (drop_at front (x ∷ more) 13 n)
    ∙ ap (λ l. number_of (bit_of_level l ∷ []) == 1) x_is

whole_long : (bits : List Level) → is_whole bits ≡ true → 34 ≤ length bits
whole_long bits h = omega (arith, eqb-true (length bits) (covered_length bits + 15) h, covered_some bits)

front_some : (bits front more : List Level) → bits ≡ front ++ more → at bits 0 ≡ Dominant → at bits (length front) ≡ Recessive → 1 ≤ length front
front_some bits [] more e sof here = absurd (dominant_is_not (sym sof ∙ here))
  where
    dominant_is_not : Dominant ≡ Recessive → ⊥
    dominant_is_not e = cc
front_some bits (x ∷ front) more e sof here = omega arith

module _ (loser winner : Content) (front more rest : List Level) (l : IsContent loser) (w : IsContent winner) (apart : ¬ HaveSameField loser winner)
    (el : bits_of loser ≡ front ++ more) (ew : bits_of winner ≡ front ++ rest) (here : at (bits_of loser) (length front) ≡ Recessive) where
  loser_read : IsReadAs (bits_of loser) loser
  loser_read = read_back loser l

  winner_read : IsReadAs (bits_of winner) winner
  winner_read = read_back winner w

  not_behind : 14 ≤ length front → cond loser.extended 33 13 ≤ length front → ⊥
  not_behind ide past =
      let format : loser.extended ≡ winner.extended =
      sym (ap (λ c. c.extended) loser_read.content) ∙ shared_format (bits_of loser) (bits_of winner) front more rest el ew ide ∙ ap (λ c. c.extended) winner_read.content in
      let read_l : content_by loser.extended (bits_of loser) ≡ loser = ap (λ x. content_by x (bits_of loser)) (sym (ap (λ c. c.extended) loser_read.content)) ∙ loser_read.content in
      let read_w : content_by loser.extended (bits_of winner) ≡ winner =
      ap (λ x. content_by x (bits_of winner)) (format ∙ sym (ap (λ c. c.extended) winner_read.content)) ∙ winner_read.content in
      apart (
        format,
        sym (ap (λ c. c.id) read_l) ∙ shared_id (bits_of loser) (bits_of winner) front more rest el ew loser.extended past ∙ ap (λ c. c.id) read_w,
        sym (ap (λ c. c.remote) read_l) ∙ shared_remote (bits_of loser) (bits_of winner) front more rest el ew loser.extended past ∙ ap (λ c. c.remote) read_w,
      )

  not_at_ide : (extended : Bool) → is_extended (bits_of loser) ≡ extended → length front < 14 → cond extended 33 13 ≤ length front → ⊥
  not_at_ide true e low past = absurd (omega arith)
  not_at_ide false e low past =
      let n : length front ≡ 13 = omega arith in
      let long : 34 ≤ length (bits_of loser) = whole_long (bits_of loser) loser_read.whole in
      let yes : is_extended (front ++ more) ≡ true =
      ide_recessive front more n (ap (λ ls. at ls 13) (sym el) ∙ ap (at (bits_of loser)) (sym n) ∙ here) (omega (arith, ap length el)) in
      both_ways (is_extended (bits_of loser)) e (ap is_extended el ∙ yes)

  pub decides : is_arbitration (bits_of loser) (length front) ≡ true
  decides =
      let format : is_extended (bits_of loser) ≡ loser.extended = ap (λ c. c.extended) loser_read.content in
      elim (cases_lt (length front) (cond loser.extended 33 13)) [
        | inl below ↦ arbitration_of loser.extended (bits_of loser) (length front) format (front_some (bits_of loser) front more el loser_read.begins here) below
        | inr past ↦ elim (cases_lt (length front) 14) [
          | inl low ↦ absurd (not_at_ide loser.extended format low past)
          | inr ide ↦ absurd (not_behind ide past)
        ]
      ]
