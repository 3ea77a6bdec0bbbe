-- Lines at the front of some bytes.
use Rattle.std.specs.Prelude.{◌≡◌, ◌≢◌, ℕ, ◌+◌, ◌-◌, ◌<◌, ◌≤◌, List, [], ◌∷◌, ◌++◌, length, take, drop, refl, Option, Some, None, min}
use Rattle.std.specs.List.{AllByRecursion}
use Rattle.std.proofs.Common.{inl, inr, sym, ap, ◌∙◌, subst, arith, append_assoc, get_or, take-append-drop, length-append}
use Rattle.std.proofs.Math.Seq.{take-suc, drop-cons}
use Rattle.std.proofs.lemmas.List.{length-take-le, take_all}
use Prim.Native.Nat.{suc}
use Rattle.wl_limits.specs.declared.Limits.{Limits}
use Rattle.wl_record_core.specs.declared.record.Record.{Record}
use Rattle.wl_record.specs.declared.parse.Stop.TheVariants.{Open, Long}
use Rattle.wl_record.specs.Limits.{most_line}
use Rattle.wl_record_core.specs.Within.{IsWithinBy}
use Rattle.wl_record.specs.Grammar.{Spells, Lines}
use Rattle.wl_record.specs.Faults.{HasNoNewline}
use Rattle.wl_record.specs.Parsing.{Begins, IsRecordFront, IsStop, TakesLine, TakesLines, HasLine}
use Rattle.wl_record.proofs.ParseLemmas.{begins_once, begins_spelled, spelled_begins}
use Rattle.std.proofs.lemmas.Bool.Decides.{leb_tells}
use Rattle.wl_record.proofs.AnswerLemmas.{one_line_back}

pub one_line_front : (x y : List ℕ) → HasNoNewline (x ++ y) → HasNoNewline x
one_line_front [] y h = tt
one_line_front (c ∷ x) y h = (h.0, one_line_front x y h.1)

-- the front of n bytes, where there are not so many
pub no_newline_to : (bytes : List ℕ) (at n : ℕ) → at ≤ min (length bytes) n → min (length bytes) n ≤ at → HasNoNewline (take at bytes) → HasNoNewline (take n bytes)
no_newline_to bytes at n low high h =
    elim (leb_tells n (length bytes)) [
      | inl w ↦ let same : at ≡ n = omega (arith, w.1) in subst (λ z. HasNoNewline (take z bytes)) same h
      | inr w ↦ let all = take_all at bytes (omega (arith, w.1)) in let more = take_all n bytes (omega (arith, w.1)) in subst HasNoNewline (all ∙ sym more) h
    ]

pub no_line_before : (limits : Limits) (line : List ℕ) (told : Option Record) (rest : List ℕ) → IsRecordFront limits line told rest → rest ≢ [] → (r : Record) → ¬ (Spells line r)
no_line_before limits line None rest h some r s = some (begins_once line h.0 r rest [] h.1 (spelled_begins line r s))
no_line_before limits line (Some q) rest h some r s = some (begins_once line q r rest [] h.0 (spelled_begins line r s))

-- the newline at a place, and what is round it
pub line_at : (bytes : List ℕ) (at : ℕ) → at < length bytes → get_or bytes at 0 ≡ 10 → bytes ≡ take at bytes ++ (10 ∷ drop (at + 1) bytes)
line_at bytes at within is =
    let one : at + 1 ≡ suc at = omega arith in
    sym (take-append-drop at bytes) ∙ ap (λ z. take at bytes ++ z) (drop-cons bytes at 0 within ∙ (λ i. is i ∷ drop (sym one i) bytes))

pub long_line : (limits : Limits) (bytes : List ℕ) → HasNoNewline (take (most_line + 1) bytes) → most_line < length bytes → IsStop limits bytes Long
long_line limits bytes h long =
    let one : most_line + 1 ≡ suc most_line = omega arith in
    let parts = subst HasNoNewline (ap (λ z. take z bytes) one ∙ take-suc bytes most_line 0 long) h in (
      take most_line bytes,
      get_or bytes most_line 0,
      drop (suc most_line) bytes,
      sym (take-append-drop most_line bytes) ∙ ap (λ z. take most_line bytes ++ z) (drop-cons bytes most_line 0 long),
      one_line_front (take most_line bytes) _ parts,
      length-take-le most_line bytes (omega (arith, long)),
      (one_line_back (take most_line bytes) (get_or bytes most_line 0 ∷ []) parts).0,
    )

pub open_line : (limits : Limits) (bytes : List ℕ) → HasNoNewline (take (most_line + 1) bytes) → length bytes ≤ most_line → IsStop limits bytes Open
open_line limits bytes h short = (subst HasNoNewline (take_all (most_line + 1) bytes (omega (arith, short))) h, short)

pub told_line : (limits : Limits) (bytes : List ℕ) (at : ℕ) (r : Record) (line rest : List ℕ) → at < length bytes → get_or bytes at 0 ≡ 10 → line ≡ take at bytes → rest ≡ drop (at + 1) bytes → Spells line r → IsWithinBy limits r → TakesLine limits bytes r rest
told_line limits bytes at r line rest within is el er s w = record {
  line = line;
  parts = line_at bytes at within is ∙ (λ i. sym el i ++ (10 ∷ sym er i));
  spelled = s;
  within = w;
}

pub has_line : (bytes : List ℕ) (at : ℕ) → at < length bytes → at ≤ most_line → get_or bytes at 0 ≡ 10 → HasNoNewline (take at bytes) → HasLine bytes (take at bytes) (drop (at + 1) bytes)
has_line bytes at within short is one = record {
  parts = line_at bytes at within is;
  one_line = one;
  short = omega (arith, length-take-le at bytes (omega (arith, within)), short);
}

pub front_line : (limits : Limits) (bytes : List ℕ) (r : Record) (rest more : List ℕ) → Begins bytes r rest → IsWithinBy limits r → rest ≡ 10 ∷ more → TakesLine limits bytes r more
front_line limits bytes r rest more h w e =
    let s = begins_spelled bytes rest r h in
    record { line = s.0; parts = s.1 ∙ ap (λ z. s.0 ++ z) e; spelled = s.2; within = w }

-- a first byte, and the slice after it
pub first_and_rest : (xs : List ℕ) (b : ℕ) → 0 < length xs → get_or xs 0 0 ≡ b → xs ≡ b ∷ take (length xs - 1) (drop 1 xs)
first_and_rest [] b some is = absurd (omega (arith, some))
first_and_rest (x ∷ xs) b some is = (λ i. is i ∷ sym (take_all (length (x ∷ xs) - 1) xs (omega arith)) i)

pub lines_more : (front line : List ℕ) (rs : List Record) (r : Record) → Lines front rs → Spells line r → Lines (front ++ (line ++ (10 ∷ []))) (rs ++ r ∷ [])
lines_more front line [] r h s = (line, [], s, ap (λ z. z ++ (line ++ (10 ∷ []))) h, refl)
lines_more front line (q ∷ rs) r h s =
    (h.0, h.1 ++ (line ++ (10 ∷ [])), h.2, ap (λ z. z ++ (line ++ (10 ∷ []))) h.3 ∙ append_assoc h.0 (10 ∷ h.1) (line ++ (10 ∷ [])), lines_more h.1 line rs r h.4 s)

pub within_more : (limits : Limits) (rs : List Record) (r : Record) → AllByRecursion (IsWithinBy limits) rs → IsWithinBy limits r → AllByRecursion (IsWithinBy limits) (rs ++ r ∷ [])
within_more limits [] r h w = (w, tt)
within_more limits (q ∷ rs) r h w = (h.0, within_more limits rs r h.1 w)

pub no_lines : (limits : Limits) (bytes : List ℕ) → TakesLines limits bytes [] bytes
no_lines limits bytes = record { front = []; parts = refl; lines = refl; within = tt }

pub takes_more : (limits : Limits) (bytes : List ℕ) (rs : List Record) (r : Record) (rest more : List ℕ) → TakesLines limits bytes rs rest → TakesLine limits rest r more → TakesLines limits bytes (rs ++ r ∷ []) more
takes_more limits bytes rs r rest more h t = record {
  front = h.front ++ (t.line ++ (10 ∷ []));
  parts = h.parts ∙ (ap (λ z. h.front ++ z) (t.parts ∙ sym (append_assoc t.line (10 ∷ []) more)) ∙ sym (append_assoc h.front (t.line ++ (10 ∷ [])) more));
  lines = lines_more h.front t.line rs r h.lines t.spelled;
  within = within_more limits rs r h.within t.within;
}

pub takes_fewer : (limits : Limits) (bytes : List ℕ) (r : Record) (rest : List ℕ) → TakesLine limits bytes r rest → length rest < length bytes
takes_fewer limits bytes r rest t = omega (arith, ap length t.parts, length-append t.line (10 ∷ rest))
