-- The laws of joining findings.
use Rattle.std.proofs.Common.{cond, ◌≡◌, ◌∙◌, ◌+◌, ℕ, Bool, List, [], ◌∷◌, Option, Some, None, refl, sym, ap, arith, inl, inr, nat_lt, true, false}
use Rattle.std.proofs.lemmas.Bool.{cases_Bool, lt-ltb, le-ltb, ltb-true, ltb-false}
use Rattle.wl_parts.specs.declared.found.RowCounts.{RowCounts}
use Rattle.wl_parts.specs.declared.found.FirstMember.{FirstMember}
use Rattle.wl_parts.specs.Found.{counts_sum, first_of, most_64, rows_sum}
use Rattle.wl_parts.specs.Laws.{AreOneIfNumbered, JoinsInAnyOrder}

sum_assoc : (a b c : ℕ) → most_64 (most_64 (a + b) + c) ≡ most_64 (a + most_64 (b + c))
sum_assoc a b c = omega arith

sum_comm : (a b : ℕ) → most_64 (a + b) ≡ most_64 (b + a)
sum_comm a b = omega arith

counts_assoc : (c d e : RowCounts) → counts_sum (counts_sum c d) e ≡ counts_sum c (counts_sum d e)
counts_assoc c d e = λ i. record {
  runs = sum_assoc c.runs d.runs e.runs i;
  clean = sum_assoc c.clean d.clean e.clean i;
  early = sum_assoc c.early d.early e.early i;
  refused = sum_assoc c.refused d.refused e.refused i;
}

counts_comm : (c d : RowCounts) → counts_sum c d ≡ counts_sum d c
counts_comm c d = λ i. record {
  runs = sum_comm c.runs d.runs i;
  clean = sum_comm c.clean d.clean i;
  early = sum_comm c.early d.early i;
  refused = sum_comm c.refused d.refused i;
}

rows_assoc : (cs ds es : List RowCounts) → rows_sum (rows_sum cs ds) es ≡ rows_sum cs (rows_sum ds es)
rows_assoc [] ds es = refl
rows_assoc (c ∷ cs) [] es = refl
rows_assoc (c ∷ cs) (d ∷ ds) [] = refl
rows_assoc (c ∷ cs) (d ∷ ds) (e ∷ es) = λ i. counts_assoc c d e i ∷ rows_assoc cs ds es i

rows_comm : (cs ds : List RowCounts) → rows_sum cs ds ≡ rows_sum ds cs
rows_comm [] [] = refl
rows_comm [] (d ∷ ds) = refl
rows_comm (c ∷ cs) [] = refl
rows_comm (c ∷ cs) (d ∷ ds) = λ i. counts_comm c d i ∷ rows_comm cs ds i

pub rows_after : (cs : List RowCounts) → rows_sum cs [] ≡ cs
rows_after [] = refl
rows_after (c ∷ cs) = refl

first_after : (m : Option FirstMember) → first_of m None ≡ m
first_after None = refl
first_after (Some m) = refl

chosen : (m n : FirstMember) (b : Bool) → nat_lt n.number m.number ≡ b → first_of (Some m) (Some n) ≡ cond b (Some n) (Some m)
chosen m n b is = ap (λ (c : Bool). cond c (Some n) (Some m)) is

first_assoc : (k m n : Option FirstMember) → first_of (first_of k m) n ≡ first_of k (first_of m n)
first_assoc None m n = refl
first_assoc (Some k) None n = refl
first_assoc (Some k) (Some m) None = first_after (first_of (Some k) (Some m))
first_assoc (Some k) (Some m) (Some n) =
    elim (cases_Bool (nat_lt m.number k.number)) [
      | inl a ↦ elim (cases_Bool (nat_lt n.number m.number)) [
        | inl b ↦ ap (λ x. first_of x (Some n)) (chosen k m true a) ∙ chosen m n true b
            ∙ sym (ap (λ x. first_of (Some k) x) (chosen m n true b) ∙ chosen k n true (lt-ltb n.number k.number (omega (arith, ltb-true m.number k.number a, ltb-true n.number m.number b))))
        | inr b ↦ ap (λ x. first_of x (Some n)) (chosen k m true a) ∙ chosen m n false b
            ∙ sym (ap (λ x. first_of (Some k) x) (chosen m n false b) ∙ chosen k m true a)
      ]
      | inr a ↦ elim (cases_Bool (nat_lt n.number m.number)) [
        | inl b ↦ ap (λ x. first_of x (Some n)) (chosen k m false a)
            ∙ sym (ap (λ x. first_of (Some k) x) (chosen m n true b))
        | inr b ↦ ap (λ x. first_of x (Some n)) (chosen k m false a)
            ∙ chosen k n false (le-ltb n.number k.number (omega (arith, ltb-false m.number k.number a, ltb-false n.number m.number b)))
            ∙ sym (ap (λ x. first_of (Some k) x) (chosen m n false b) ∙ chosen k m false a)
      ]
    ]

same_member : (m n : FirstMember) → m.number ≡ n.number → m.line ≡ n.line → m ≡ n
same_member m n number line = λ i. record { number = number i; line = line i }

first_comm : (m n : Option FirstMember) → AreOneIfNumbered m n → first_of m n ≡ first_of n m
first_comm None None one = refl
first_comm None (Some n) one = refl
first_comm (Some m) None one = refl
first_comm (Some m) (Some n) one =
    elim (cases_Bool (nat_lt n.number m.number)) [
      | inl a ↦ chosen m n true a ∙ sym (chosen n m false (le-ltb m.number n.number (omega (arith, ltb-true n.number m.number a))))
      | inr a ↦ elim (cases_Bool (nat_lt m.number n.number)) [
        | inl b ↦ chosen m n false a ∙ sym (chosen n m true b)
        | inr b ↦ chosen m n false a
            ∙ ap (λ (x : FirstMember). Some x) (same_member m n (same a b) (one (same a b)))
            ∙ sym (chosen n m false b)
      ]
    ]
  where
    same : nat_lt n.number m.number ≡ false → nat_lt m.number n.number ≡ false → m.number ≡ n.number
    same a b = omega (arith, ltb-false n.number m.number a, ltb-false m.number n.number b)

pub joins_in_any_order : JoinsInAnyOrder
joins_in_any_order = record {
  associates = λ f g h i. record {
    rows = rows_assoc f.rows g.rows h.rows i;
    unclean = first_assoc f.unclean g.unclean h.unclean i;
    refused = first_assoc f.refused g.refused h.refused i;
  };
  commutes = λ f g agree i. record {
    rows = rows_comm f.rows g.rows i;
    unclean = first_comm f.unclean g.unclean agree.0 i;
    refused = first_comm f.refused g.refused agree.1 i;
  };
  neutral_before = λ f. refl;
  neutral_after = λ f i. record { rows = rows_after f.rows i; unclean = first_after f.unclean i; refused = first_after f.refused i };
}
