-- Parts of a sweep, one after another.
use Rattle.std.proofs.Common.{cond, eqb, ◌≡◌, ◌∙◌, ◌+◌, ◌-◌, ◌*◌, ◌/◌, ◌^◌, ◌<◌, ◌≤◌, ℕ, zero, suc, Bool, List, [], ◌∷◌, ◌++◌, length, Option, Some, None, Ok, Err, option_map, refl, sym, ap, arith, inl, inr, length-append}
use Rattle.std.specs.Option.{option_map_or, option_or}
use Rattle.std.specs.Prelude.{fold, map}
use Rattle.std.proofs.lemmas.List.{append_assoc, append-nil}
use Rattle.std.specs.List.{AllByRecursion, count_by, position_from}
use Rattle.std.specs.Str.{bytes_eq}
use Rattle.std.specs.Prelude.{◌&&◌, nat_le, nat_lt, true}
use Rattle.std.proofs.lemmas.Bool.{cases_Bool, eq-eqb, eqb-true, le-leb, le-ltb}
use Rattle.std.proofs.lemmas.List.Sums.{sum_by-append, sum_by-cons, count_by-le-length}
use Rattle.std.proofs.lemmas.Nat.{le-div}
use Rattle.std.proofs.Math.Nat.{div-le_of_le-mul, div-mul-le_self, mul-div_cancel, mul-le-mul_left, mul_comm, mul-zero, zero-div}
use Rattle.wl_parts.specs.declared.fault.PartsFault.TheVariants as fault
use Rattle.wl_parts.specs.declared.found.RowCounts.{RowCounts}
use Rattle.wl_parts.specs.declared.found.FirstMember.{FirstMember}
use Rattle.wl_parts.specs.declared.part.SweepPart.{SweepPart}
use Rattle.wl_parts.specs.Found.{counts_sum, first_of, joined_findings, most_64, nothing, rows_sum, total_of}
use Rattle.wl_parts.specs.Joined.{all_clean, beside_from, checked_then, copies, findings_by, found_text, found_together, member_line, is_beside, joined_if, joined_of, numbers_from, lines_of_rows}
use Rattle.wl_parts.specs.Lines.{counts_line}
use Rattle.wl_parts.specs.Whole.{AreParts, Kinds, Whole, all_of, counts_in, cut, first_between, found_between, line_of, part_of, rows_between, slice, whole_text}
use Rattle.wl_parts.proofs.Callers.{length-slice, slice-join, slice_all}

small : (n : ℕ) → n < 2 ^ 64 → most_64 n ≡ n
small n few = omega arith

module _ {X : Type 0} (p : X → Bool) where
  count_joined : (xs ys : List X) → length xs + length ys < 2 ^ 64 → most_64 (count_by p xs + count_by p ys) ≡ count_by p (xs ++ ys)
  count_joined xs ys few =
      small (count_by p xs + count_by p ys) (omega (arith, count_by-le-length p xs, count_by-le-length p ys))
      ∙ sym (sum_by-append (λ x. cond (p x) 1 0) xs ys)

  first-append : (i : ℕ) (xs ys : List X) → position_from p i (xs ++ ys) ≡ option_or (position_from p i xs) (position_from p (i + length xs) ys)
  first-append i [] ys = ap (λ k. position_from p k ys) (omega arith)
  first-append i (x ∷ xs) ys =
      elim (cases_Bool (p x)) [
        | inl passes ↦ rw passes refl
        | inr fails ↦ rw fails (first-append (i + 1) xs ys ∙ ap (λ k. option_or (position_from p (i + 1) xs) (position_from p k ys)) (omega arith))
      ]

  -- a place is below the end, and not below the beginning
  place_below : (i : ℕ) (xs : List X) (n : ℕ) → position_from p i xs ≡ Some n → n < i + length xs
  place_below i [] n e = absurd (cc)
  place_below i (x ∷ xs) n e =
      elim (cases_Bool (p x)) [
        | inl passes ↦ let here : i ≡ n = (let s : Some i ≡ Some n = ap (λ b. cond b (Some i) (position_from p (i + 1) xs)) (sym passes) ∙ e in cc) in omega (arith, here)
        | inr fails ↦ let later = place_below (i + 1) xs n (ap (λ b. cond b (Some i) (position_from p (i + 1) xs)) (sym fails) ∙ e) in omega (arith, later)
      ]

  place_above : (i : ℕ) (xs : List X) (n : ℕ) → position_from p i xs ≡ Some n → i ≤ n
  place_above i [] n e = absurd (cc)
  place_above i (x ∷ xs) n e =
      elim (cases_Bool (p x)) [
        | inl passes ↦ let here : i ≡ n = (let s : Some i ≡ Some n = ap (λ b. cond b (Some i) (position_from p (i + 1) xs)) (sym passes) ∙ e in cc) in omega (arith, here)
        | inr fails ↦ let later = place_above (i + 1) xs n (ap (λ b. cond b (Some i) (position_from p (i + 1) xs)) (sym fails) ∙ e) in omega (arith, later)
      ]

-- the first of two places is that of the lesser number
abbrev member_at : (ℕ → List ℕ) → ℕ → FirstMember
member_at line n = record { number = n; line = line n }

first_joined : (line : ℕ → List ℕ) (a b : Option ℕ) → ((m n : ℕ) → a ≡ Some m → b ≡ Some n → m ≤ n)
    → first_of (option_map (member_at line) a) (option_map (member_at line) b) ≡ option_map (member_at line) (option_or a b)
first_joined line None b ordered = refl
first_joined line (Some m) None ordered = refl
first_joined line (Some m) (Some n) ordered =
    ap (λ c. cond c (Some (member_at line n)) (Some (member_at line m))) (le-ltb n m (ordered m n refl refl))

module _ {X : Type 0} (kinds : Kinds X) where
  counts_joined : (xs ys : List X) → length xs + length ys < 2 ^ 64 → counts_sum (counts_in kinds xs) (counts_in kinds ys) ≡ counts_in kinds (xs ++ ys)
  counts_joined xs ys few = λ i. record {
    runs = (small (length xs + length ys) few ∙ sym (length-append xs ys)) i;
    clean = count_joined kinds.clean xs ys few i;
    early = count_joined kinds.early xs ys few i;
    refused = count_joined kinds.refused xs ys few i;
  }

  counts_up : (lo mid hi : ℕ) (xs : List X) → lo ≤ mid → mid ≤ hi → length xs < 2 ^ 64
      → counts_sum (counts_in kinds (slice lo mid xs)) (counts_in kinds (slice mid hi xs)) ≡ counts_in kinds (slice lo hi xs)
  counts_up lo mid hi xs low high few =
      counts_joined (slice lo mid xs) (slice mid hi xs)
      (let a = length-slice lo mid xs in let b = length-slice mid hi xs in omega (arith, a, b))
      ∙ ap (counts_in kinds) (slice-join lo mid hi xs low high)

  rows_up : (lo mid hi : ℕ) (rows : List (List X)) → lo ≤ mid → mid ≤ hi → length (all_of rows) < 2 ^ 64
      → rows_sum (rows_between kinds lo mid rows) (rows_between kinds mid hi rows) ≡ rows_between kinds lo hi rows
  rows_up lo mid hi [] low high few = refl
  rows_up lo mid hi (xs ∷ rows) low high few =
      let sum : length (xs ++ all_of rows) ≡ length xs + length (all_of rows) = length-append xs (all_of rows) in
      let here : length xs < 2 ^ 64 = omega (arith, sum) in
      let rest : length (all_of rows) < 2 ^ 64 = omega (arith, sum) in
      λ i. counts_up lo mid hi xs low high here i ∷ rows_up (lo - length xs) (mid - length xs) (hi - length xs) rows (omega arith) (omega arith) rest i

  first_up : (kind : X → Bool) (line : ℕ → List ℕ) (lo mid hi : ℕ) (rows : List (List X)) → lo ≤ mid → mid ≤ hi → mid ≤ length (all_of rows)
      → first_of (first_between kinds kind line lo mid rows) (first_between kinds kind line mid hi rows) ≡ first_between kinds kind line lo hi rows
  first_up kind line lo mid hi rows low high within =
      let xs = slice lo mid (all_of rows) in
      let ys = slice mid hi (all_of rows) in
      let ends : lo + length xs ≡ mid = (let n = length-slice lo mid (all_of rows) in omega (arith, n)) in
      first_joined line (position_from kind lo xs) (position_from kind mid ys)
      (λ m n a b. (let below = place_below kind lo xs m a in let above = place_above kind mid ys n b in omega (arith, below, above, ends)))
      ∙ ap (λ k. option_map (member_at line) (option_or (position_from kind lo xs) (position_from kind k ys))) (sym ends)
      ∙ ap (option_map (member_at line)) (sym (first-append kind lo xs ys))
      ∙ ap (λ l. option_map (member_at line) (position_from kind lo l)) (slice-join lo mid hi (all_of rows) low high)

  -- what two parts say together
  found_up : (lo mid hi : ℕ) (rows : List (List X)) → lo ≤ mid → mid ≤ hi → mid ≤ length (all_of rows) → length (all_of rows) < 2 ^ 64
      → joined_findings (found_between kinds lo mid rows) (found_between kinds mid hi rows) ≡ found_between kinds lo hi rows
  found_up lo mid hi rows low high within few = λ i. record {
    rows = rows_up lo mid hi rows low high few i;
    unclean = first_up kinds.unclean kinds.unclean_line lo mid hi rows low high within i;
    refused = first_up kinds.refused kinds.refused_line lo mid hi rows low high within i;
  }

-- all members
module _ {X : Type 0} (kinds : Kinds X) where
  rows_whole : (hi : ℕ) (rows : List (List X)) → length (all_of rows) ≤ hi → rows_between kinds 0 hi rows ≡ map (counts_in kinds) rows
  rows_whole hi [] most = refl
  rows_whole hi (xs ∷ rows) most =
      let sum : length (xs ++ all_of rows) ≡ length xs + length (all_of rows) = length-append xs (all_of rows) in
      let none : 0 - length xs ≡ 0 = omega arith in
      (λ i. counts_in kinds (slice_all hi xs (omega (arith, sum)) i) ∷ rows_between kinds (none i) (hi - length xs) rows)
      ∙ ap (λ l. counts_in kinds xs ∷ l) (rows_whole (hi - length xs) rows (omega (arith, sum)))

  total_after : (xs : List X) (rows : List (List X)) → length xs + length (all_of rows) < 2 ^ 64
      → fold counts_sum (counts_in kinds xs) (map (counts_in kinds) rows) ≡ counts_in kinds (xs ++ all_of rows)
  total_after xs [] few = ap (counts_in kinds) (sym (append-nil xs))
  total_after xs (ys ∷ rows) few =
      let sum : length (ys ++ all_of rows) ≡ length ys + length (all_of rows) = length-append ys (all_of rows) in
      let more : length (xs ++ ys) ≡ length xs + length ys = length-append xs ys in
      ap (λ c. fold counts_sum c (map (counts_in kinds) rows)) (counts_joined kinds xs ys (omega (arith, sum)))
      ∙ total_after (xs ++ ys) rows (omega (arith, sum, more))
      ∙ ap (counts_in kinds) (append_assoc xs ys (all_of rows))

  total_rows : (rows : List (List X)) → length (all_of rows) < 2 ^ 64 → total_of (map (counts_in kinds) rows) ≡ counts_in kinds (all_of rows)
  total_rows rows few = total_after [] rows (omega arith)

  first_whole : (kind : X → Bool) (line : ℕ → List ℕ) (rows : List (List X))
      → member_line (first_between kinds kind line 0 (length (all_of rows)) rows) ≡ line_of kinds kind line (all_of rows)
  first_whole kind line rows =
      ap (λ l. member_line (option_map (member_at line) (position_from kind 0 l))) (slice_all (length (all_of rows)) (all_of rows) (omega arith))
      ∙ by_place (position_from kind 0 (all_of rows))
    where
      by_place : (o : Option ℕ) → member_line (option_map (member_at line) o) ≡ option_map_or line o []
      by_place None = refl
      by_place (Some n) = refl

cut_up : (total n k : ℕ) → 1 ≤ n → cut total n k ≤ cut total n (suc k)
cut_up total n k some =
    le-div (total * k / n) (total * suc k) n (omega arith)
    (let a : total * k / n * n ≤ total * k = div-mul-le_self (total * k) n in
    let b : total * k ≤ total * suc k = mul-le-mul_left total (omega arith) in omega (arith, a, b))

cut_within : (total n k : ℕ) → k ≤ n → cut total n k ≤ total
cut_within total n k within =
    div-le_of_le-mul n (let a : total * k ≤ total * n = mul-le-mul_left total within in let b : n * total ≡ total * n = mul_comm n total in omega (arith, a, b))

cut_none : (total n : ℕ) → cut total n 0 ≡ 0
cut_none total n = ap (λ m. m / n) (mul-zero total) ∙ zero-div n

cut_all : (total n : ℕ) → 1 ≤ n → cut total n n ≡ total
cut_all total n some = mul-div_cancel total (omega arith)

module _ {X : Type 0} (kinds : Kinds X) (w : Whole X) (n : ℕ) where
  abbrev IsPart : SweepPart → Type 0
  IsPart p = (1 ≤ p.number) × (p.number ≤ n) × (p ≡ part_of kinds w n p.number)

  abbrev total : ℕ
  total = length (all_of w.rows)

  -- each part is beside another
  bytes_same : (bs : List ℕ) → bytes_eq bs bs ≡ true
  bytes_same [] = refl
  bytes_same (c ∷ cs) = (λ i. eq-eqb c c refl i && bytes_same cs i)

  beside : (p q : SweepPart) → IsPart p → IsPart q → is_beside p q ≡ true
  beside p q a b =
      let alike : (part_of kinds w n p.number).of ≡ w.of = refl in
      (λ i. (bytes_eq (b.2 i).of (a.2 i).of && eqb (b.2 i).count (a.2 i).count) && (nat_le 1 q.number && nat_le q.number (b.2 i).count))
      ∙ (λ i. (bytes_same w.of i && eq-eqb n n refl i) && (le-leb 1 q.number b.0 i && le-leb q.number n b.1 i))

  all_beside : (i : ℕ) (p : SweepPart) (ps : List SweepPart) → IsPart p → AllByRecursion IsPart ps → beside_from i p ps ≡ Ok tt
  all_beside i p [] is all = refl
  all_beside i p (q ∷ qs) is all =
      ap (λ b. cond b (beside_from (i + 1) p qs) (Err (fault.Other i))) (beside p q is all.0) ∙ all_beside (i + 1) p qs is all.1

  -- no number is missing or doubled
  all_numbers : (k m : ℕ) (ps : List SweepPart) → ((j : ℕ) → k ≤ j → j < k + m → copies j ps ≡ 1) → numbers_from k m ps ≡ Ok tt
  all_numbers k zero ps once = refl
  all_numbers k (suc m) ps once =
      let one : copies k ps ≡ 1 = once k (omega arith) (omega arith) in
      ap (λ c. cond (eqb c 0) (Err (fault.Missing k)) (cond (nat_lt 1 c) (Err (fault.Doubled k)) (numbers_from (k + 1) m ps))) one
      ∙ all_numbers (k + 1) m ps (λ j low high. once j (omega arith) (omega arith))

  -- the part of a number
  found_here : (k : ℕ) (ps : List SweepPart) → AllByRecursion IsPart ps → 1 ≤ copies k ps → findings_by k ps ≡ Some (part_of kinds w n k).found
  found_here k [] all some = absurd (omega arith)
  found_here k (p ∷ ps) all some =
      elim (cases_Bool (eqb p.number k)) [
        | inl same ↦ ap (λ b. cond b (Some p.found) (findings_by k ps)) same
            ∙ ap (λ (q : SweepPart). Some q.found) all.0.2
            ∙ ap (λ j. Some (part_of kinds w n j).found) (eqb-true p.number k same)
        | inr other ↦ ap (λ b. cond b (Some p.found) (findings_by k ps)) other
            ∙ found_here k ps all.1 (let less : copies k (p ∷ ps) ≡ copies k ps = sum_by-cons (λ (q : SweepPart). cond (eqb q.number k) 1 0) p ps ∙ ap (λ b. cond b 1 0 + copies k ps) other ∙ omega arith in omega (arith, less))
      ]

  -- what the first parts say together
  together : (k : ℕ) (ps : List SweepPart) → 1 ≤ n → total < 2 ^ 64 → AllByRecursion IsPart ps → ((j : ℕ) → 1 ≤ j → j ≤ n → copies j ps ≡ 1) → suc k ≤ n
      → found_together (suc k) ps ≡ found_between kinds (cut total n 0) (cut total n (suc k)) w.rows
  together zero ps some few all once within =
      ap (λ o. joined_if nothing o) (found_here 1 ps all (omega (arith, once 1 (omega arith) within)))
  together (suc k) ps some few all once within =
      let before = together k ps some few all once (omega arith) in
      let next : suc (suc k) - 1 ≡ suc k = omega arith in
      (λ i. joined_if (before i) (found_here (suc (suc k)) ps all (omega (arith, once (suc (suc k)) (omega arith) within)) i))
      ∙ (λ i. joined_findings (found_between kinds (cut total n 0) (cut total n (suc k)) w.rows) (found_between kinds (cut total n (next i)) (cut total n (suc (suc k))) w.rows))
      ∙ found_up kinds (cut total n 0) (cut total n (suc k)) (cut total n (suc (suc k))) w.rows
      (let none = cut_none total n in omega (arith, none)) (cut_up total n (suc k) some) (cut_within total n (suc k) (omega arith)) few

  whole_together : (ps : List SweepPart) → 1 ≤ n → total < 2 ^ 64 → AllByRecursion IsPart ps → ((j : ℕ) → 1 ≤ j → j ≤ n → copies j ps ≡ 1)
      → found_together n ps ≡ found_between kinds 0 total w.rows
  whole_together ps some few all once =
      let last : n ≡ suc (n - 1) = omega arith in
      ap (λ j. found_together j ps) last
      ∙ together (n - 1) ps some few all once (omega arith)
      ∙ (λ i. found_between kinds (cut_none total n i) (cut total n (sym last i)) w.rows)
      ∙ ap (λ hi. found_between kinds 0 hi w.rows) (cut_all total n some)

  pub parts_joined : (ps : List SweepPart) → total < 2 ^ 64 → AreParts kinds w n ps
      → joined_of ps ≡ Ok (whole_text kinds w, eqb (count_by kinds.clean (all_of w.rows)) total)
  parts_joined [] few are = (let one : 0 ≡ 1 = are.once 1 (omega arith) are.some in absurd (omega (arith, one)))
  parts_joined (p ∷ ps) few are =
      let all = are.each in
      let one = all.0.2 in
      let whole = found_between kinds 0 total w.rows in
      let found = whole_together (p ∷ ps) are.some few all are.once in
      let counts = total_rows kinds w.rows few in
      ap (λ r. checked_then r (checked_then (numbers_from 1 p.count (p ∷ ps))
      (Ok (found_text p.words p.members p.tail (found_together p.count (p ∷ ps)), all_clean (found_together p.count (p ∷ ps))))))
      (all_beside 1 p (p ∷ ps) all.0 all)
      ∙ (λ i. checked_then (numbers_from 1 (one i).count (p ∷ ps))
      (Ok (found_text (one i).words (one i).members (one i).tail (found_together (one i).count (p ∷ ps)), all_clean (found_together (one i).count (p ∷ ps)))))
      ∙ ap (λ r. checked_then r (Ok (found_text w.words w.members w.tail (found_together n (p ∷ ps)), all_clean (found_together n (p ∷ ps)))))
      (all_numbers 1 n (p ∷ ps) (λ j low high. are.once j low (omega arith)))
      ∙ ap (λ f. Ok (found_text w.words w.members w.tail f, all_clean f)) found
      ∙ ap (λ (rows : List RowCounts). Ok (found_text w.words w.members w.tail (record whole { rows = rows }), all_clean (record whole { rows = rows }))) (rows_whole kinds total w.rows (omega arith))
      ∙ (λ i. Ok (
        lines_of_rows w.words (map (counts_in kinds) w.rows) ++ (counts_line (counts i) ++ (w.members
            ++ (first_whole kinds kinds.unclean kinds.unclean_line w.rows i ++ (first_whole kinds kinds.refused kinds.refused_line w.rows i ++ w.tail)))),
        eqb (counts i).clean (counts i).runs,
      ))
