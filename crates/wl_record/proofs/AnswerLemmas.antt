-- A text and its ending have one answer.
use Rattle.std.specs.Prelude.{◌≡◌, ◌≢◌, ℕ, ◌+◌, ◌<◌, ◌≤◌, ◌⊎◌, List, [], ◌∷◌, ◌++◌, length, refl, Result, Ok, Err}
use Rattle.std.specs.List.{AllByRecursion}
use Rattle.std.proofs.Common.{inl, inr, sym, ap, ◌∙◌, subst, arith, length-append, append_assoc}
use Rattle.std.proofs.lemmas.List.{append-nil}
use Rattle.wl_limits.specs.declared.Limits.{Limits}
use Rattle.wl_record_core.specs.declared.record.Record.{Record}
use Rattle.wl_record.specs.declared.fault.TextFault.{TextFault}
use Rattle.wl_record.specs.declared.fault.TextFault.TheVariants.{Line, Range, Truncated, Read, TooLong, Memory}
use Rattle.wl_record.specs.Limits.{most_record_bytes, most_line}
use Rattle.wl_record_core.specs.Within.{IsWithinBy}
use Rattle.wl_record.specs.Grammar.{Spells, Lines, IsText}
use Rattle.wl_device.specs.Readings.{Ending, at_end, broken_off, going_on}
use Rattle.wl_record.specs.Faults.{HasNoNewline, Stands, EndsLine, GoesPast, FaultThere, IsFirstFault, IsTextAnswer}
use Rattle.wl_record.proofs.GrammarLemmas.{spelled_one_line, spelled_once, spelled_short}

-- two pieces without newlines before a newline are one
pub lines_split : (x y more others : List ℕ) → HasNoNewline x → HasNoNewline y → x ++ (10 ∷ more) ≡ y ++ (10 ∷ others) → (x ≡ y) × (more ≡ others)
lines_split [] [] more others nx ny e = let tails : more ≡ others = cc in (refl, tails)
lines_split [] (d ∷ y) more others nx ny e = let head : 10 ≡ d = cc in absurd (ny.0 (sym head))
lines_split (c ∷ x) [] more others nx ny e = let head : c ≡ 10 = cc in absurd (nx.0 head)
lines_split (c ∷ x) (d ∷ y) more others nx ny e =
    let head : c ≡ d = cc in
    let tails : x ++ (10 ∷ more) ≡ y ++ (10 ∷ others) = cc in
    let both = lines_split x y more others nx.1 ny.1 tails in
    ((λ i. head i ∷ both.0 i), both.1)

-- a piece without newlines goes no farther than a line that begins at its place
pub begun_split : (begun rest line more : List ℕ) → HasNoNewline begun → begun ++ rest ≡ line ++ (10 ∷ more) → (back : List ℕ) × (line ≡ begun ++ back) × (rest ≡ back ++ (10 ∷ more))
begun_split [] rest line more nb e = (line, refl, e)
begun_split (b ∷ begun) rest [] more nb e = let head : b ≡ 10 = cc in absurd (nb.0 head)
begun_split (b ∷ begun) rest (c ∷ line) more nb e =
    let head : b ≡ c = cc in
    let tails : begun ++ rest ≡ line ++ (10 ∷ more) = cc in
    let both = begun_split begun rest line more nb.1 tails in
    (both.0, (λ i. sym head i ∷ both.1 i), both.2)

-- of two ways to cut a list, one cuts off more
pub append_split : (x y more others : List ℕ) → x ++ more ≡ y ++ others → ((back : List ℕ) × (y ≡ x ++ back) × (more ≡ back ++ others)) ⊎ ((back : List ℕ) × (x ≡ y ++ back) × (others ≡ back ++ more))
append_split [] y more others e = inl (y, refl, e)
append_split (c ∷ x) [] more others e = inr (c ∷ x, refl, sym e)
append_split (c ∷ x) (d ∷ y) more others e =
    let head : c ≡ d = cc in
    let tails : x ++ more ≡ y ++ others = cc in
    elim (append_split x y more others tails) [
      | inl h ↦ inl (h.0, (λ i. sym head i ∷ h.1 i), h.2)
      | inr h ↦ inr (h.0, (λ i. head i ∷ h.1 i), h.2)
    ]

pub one_line_back : (x y : List ℕ) → HasNoNewline (x ++ y) → HasNoNewline y
one_line_back [] y h = h
one_line_back (c ∷ x) y h = one_line_back x y h.1

-- what reading can be before when it ends there
abbrev pub Final : Limits → List ℕ → List ℕ → List ℕ → Type 0
Final limits text begun rest = (EndsLine text rest × ((r : Record) → Spells begun r → ¬ (IsWithinBy limits r))) ⊎ ((rest ≡ []) ⊎ GoesPast text begun rest)

-- reading of these bytes of the text ends after these records and the part of a line
pub record Place (limits : Limits) (text xs : List ℕ) (rs : List Record) (begun rest : List ℕ) : Type 0 where
  pub front : List ℕ
  pub parts : xs ≡ front ++ (begun ++ rest)
  pub lines : Lines front rs
  pub within : AllByRecursion (IsWithinBy limits) rs
  pub one_line : HasNoNewline begun
  pub short_line : length begun ≤ most_line
  pub short_text : length text ≤ most_record_bytes + length rest
  pub final : Final limits text begun rest

-- nothing of a line comes after a place where reading ends
ends_before : (limits : Limits) (text begun rest back sest : List ℕ) (d : ℕ) → Final limits text begun rest → rest ≡ (d ∷ back) ++ sest → d ≢ 10 → length begun < most_line → length text ≤ most_record_bytes + length sest → ⊥
ends_before limits text begun rest back sest d (inl h) e n short few = let head : 10 ≡ d = let both : 10 ∷ h.0.0 ≡ d ∷ (back ++ sest) = sym h.0.1 ∙ e in cc in n (sym head)
ends_before limits text begun rest back sest d (inr (inl h)) e n short few = let both : [] ≡ d ∷ (back ++ sest) = sym h ∙ e in absurd (cc)
ends_before limits text begun rest back sest d (inr (inr (next, more, is, inl h))) e n short few = omega (arith, ap length e, length-append back sest, h, few)
ends_before limits text begun rest back sest d (inr (inr (next, more, is, inr h))) e n short few = omega (arith, h.0, short)

one_begun : (limits : Limits) (text begun rest cegun sest : List ℕ) → begun ++ rest ≡ cegun ++ sest → HasNoNewline begun → HasNoNewline cegun → length begun ≤ most_line → length cegun ≤ most_line
    → length text ≤ most_record_bytes + length rest → length text ≤ most_record_bytes + length sest → Final limits text begun rest → Final limits text cegun sest → (begun ≡ cegun) × (rest ≡ sest)
one_begun limits text begun rest cegun sest e nb nc sb sc fb fc hb hc =
    elim (append_split begun cegun rest sest e) [
      | inl h ↦ first_longer begun rest cegun sest h.0 h.1 h.2 nc sc fc hb
      | inr h ↦ let both = first_longer cegun sest begun rest h.0 h.1 h.2 nb sb fb hc in (sym both.0, sym both.1)
    ]
  where
    first_longer : (begun rest cegun sest back : List ℕ) → cegun ≡ begun ++ back → rest ≡ back ++ sest → HasNoNewline cegun → length cegun ≤ most_line → length text ≤ most_record_bytes + length sest → Final limits text begun rest → (begun ≡ cegun) × (rest ≡ sest)
    first_longer begun rest cegun sest [] is es nc sc fc hb = (sym (is ∙ append-nil begun), es)
    first_longer begun rest cegun sest (d ∷ back) is es nc sc fc hb =
        absurd (ends_before limits text begun rest back sest d hb es (one_line_back begun (d ∷ back) (subst HasNoNewline is nc)).0 (omega (arith, ap length is, length-append begun (d ∷ back), sc)) fc)

-- reading doesn't end before a line that is in order
no_end_before : (limits : Limits) (text xs begun rest line more : List ℕ) (q : Record) → Final limits text begun rest → xs ≡ begun ++ rest → HasNoNewline begun → xs ≡ line ++ (10 ∷ more) → Spells line q → IsWithinBy limits q → (sest : List ℕ) → length sest ≤ length more → length text ≤ most_record_bytes + length sest → ⊥
no_end_before limits text xs begun rest line more q final e nb is spelled within sest fits few =
    let cut = begun_split begun rest line more nb (sym e ∙ is) in
    by_back cut.0 cut.1 cut.2
  where
    by_back : (back : List ℕ) → line ≡ begun ++ back → rest ≡ back ++ (10 ∷ more) → ⊥
    by_back [] le re = elim final [
      | inl h ↦ h.1 q (subst (λ z. Spells z q) (le ∙ append-nil begun) spelled) within
      | inr (inl h) ↦ let bad : [] ≡ 10 ∷ more = sym h ∙ re in absurd (cc)
      | inr (inr (next, others, ie, inl h)) ↦ omega (arith, ap length re, h, few, fits)
      | inr (inr (next, others, ie, inr h)) ↦ h.1 (let both : next ∷ others ≡ 10 ∷ more = sym ie ∙ re in cc)
    ]
    by_back (d ∷ back) le re = ends_before limits text begun rest back (10 ∷ more) d final re (one_line_back begun (d ∷ back) (subst HasNoNewline le (spelled_one_line line q spelled))).0 (omega (arith, ap length le, length-append begun (d ∷ back), spelled_short limits line q within spelled)) (omega (arith, few, fits))

pub one_place : (limits : Limits) (text xs : List ℕ) (rs qs : List Record) (begun rest cegun sest : List ℕ) → Place limits text xs rs begun rest → Place limits text xs qs cegun sest → (rs ≡ qs) × (begun ≡ cegun) × (rest ≡ sest)
one_place limits text xs [] [] begun rest cegun sest p q =
    let e : begun ++ rest ≡ cegun ++ sest = ap (λ z. z ++ (begun ++ rest)) (sym p.lines) ∙ (sym p.parts ∙ (q.parts ∙ ap (λ z. z ++ (cegun ++ sest)) q.lines)) in
    let both = one_begun limits text begun rest cegun sest e p.one_line q.one_line p.short_line q.short_line p.short_text q.short_text p.final q.final in
    (refl, both.0, both.1)
one_place limits text xs [] (r ∷ qs) begun rest cegun sest p q = absurd (
    no_end_before limits text xs begun rest q.lines.0 (q.lines.1 ++ (cegun ++ sest)) r p.final (p.parts ∙ ap (λ z. z ++ (begun ++ rest)) p.lines) p.one_line (q.parts ∙ (ap (λ z. z ++ (cegun ++ sest)) q.lines.3 ∙ append_assoc q.lines.0 (10 ∷ q.lines.1) (cegun ++ sest))) q.lines.2 q.within.0 sest
    (omega (arith, length-append q.lines.1 (cegun ++ sest), length-append cegun sest)) q.short_text
    )
one_place limits text xs (r ∷ rs) [] begun rest cegun sest p q = absurd (
    no_end_before limits text xs cegun sest p.lines.0 (p.lines.1 ++ (begun ++ rest)) r q.final (q.parts ∙ ap (λ z. z ++ (cegun ++ sest)) q.lines) q.one_line (p.parts ∙ (ap (λ z. z ++ (begun ++ rest)) p.lines.3 ∙ append_assoc p.lines.0 (10 ∷ p.lines.1) (begun ++ rest))) p.lines.2 p.within.0 rest
    (omega (arith, length-append p.lines.1 (begun ++ rest), length-append begun rest)) p.short_text
    )
one_place limits text xs (r ∷ rs) (s ∷ qs) begun rest cegun sest p q =
    let ours : xs ≡ p.lines.0 ++ (10 ∷ (p.lines.1 ++ (begun ++ rest))) = p.parts ∙ (ap (λ z. z ++ (begun ++ rest)) p.lines.3 ∙ append_assoc p.lines.0 (10 ∷ p.lines.1) (begun ++ rest)) in
    let theirs : xs ≡ q.lines.0 ++ (10 ∷ (q.lines.1 ++ (cegun ++ sest))) = q.parts ∙ (ap (λ z. z ++ (cegun ++ sest)) q.lines.3 ∙ append_assoc q.lines.0 (10 ∷ q.lines.1) (cegun ++ sest)) in
    let cut = lines_split p.lines.0 q.lines.0 _ _ (spelled_one_line p.lines.0 r p.lines.2) (spelled_one_line q.lines.0 s q.lines.2) (sym ours ∙ theirs) in
    let first : r ≡ s = spelled_once q.lines.0 r s (subst (λ z. Spells z r) cut.0 p.lines.2) q.lines.2 in
    let others = one_place limits text (q.lines.1 ++ (cegun ++ sest)) rs qs begun rest cegun sest
    (record { front = p.lines.1; parts = sym cut.1; lines = p.lines.4; within = p.within.1; one_line = p.one_line; short_line = p.short_line; short_text = p.short_text; final = p.final })
    (record { front = q.lines.1; parts = refl; lines = q.lines.4; within = q.within.1; one_line = q.one_line; short_line = q.short_line; short_text = q.short_text; final = q.final }) in
    ((λ i. first i ∷ others.0 i), others.1, others.2)

final_of_fault : (limits : Limits) (text : List ℕ) (rs : List Record) (begun rest : List ℕ) (e : Ending) (fault : TextFault) → FaultThere limits text rs begun rest e fault → Final limits text begun rest
final_of_fault limits text rs begun rest e (Line n) h = inl (h.1, λ r s w. h.2 r s)
final_of_fault limits text rs begun rest e (Range n) h = inl (h.1, λ r s w. h.4 (subst (IsWithinBy limits) (spelled_once begun r h.2 s h.3) w))
final_of_fault limits text rs begun rest e Truncated h = inr (inl h.0)
final_of_fault limits text rs begun rest e Read h = inr (inl h.0)
final_of_fault limits text rs begun rest e (TooLong n) h = inr (inr h.1)
final_of_fault limits text rs begun rest e Memory h = absurd h

place_of_fault : (limits : Limits) (text : List ℕ) (rs : List Record) (begun rest : List ℕ) → Stands limits text rs begun rest → Final limits text begun rest → Place limits text text rs begun rest
place_of_fault limits text rs begun rest h final = record {
  front = h.front;
  parts = h.parts;
  lines = h.lines;
  within = h.within;
  one_line = h.one_line;
  short_line = h.short_line;
  short_text = h.short_text;
  final = final;
}

place_of_text : (limits : Limits) (text : List ℕ) (rs : List Record) → IsText limits text rs → Place limits text text rs [] []
place_of_text limits text rs h = record {
  front = text;
  parts = sym (append-nil text);
  lines = h.lines;
  within = h.within;
  one_line = tt;
  short_line = omega arith;
  short_text = omega (arith, h.short);
  final = inr (inl refl);
}

ends_not_past : (text begun rest : List ℕ) → EndsLine text rest → GoesPast text begun rest → ⊥
ends_not_past text begun rest h (next, more, is, inl past) = omega (arith, h.2, past)
ends_not_past text begun rest h (next, more, is, inr past) = past.1 (let both : next ∷ more ≡ 10 ∷ h.0 = sym is ∙ h.1 in cc)

-- at one place there is one fault
same_fault : (limits : Limits) (text : List ℕ) (rs : List Record) (begun rest : List ℕ) (e : Ending) (f g : TextFault) → FaultThere limits text rs begun rest e f → FaultThere limits text rs begun rest e g → f ≡ g
same_fault limits text rs begun rest e (Line n) (Line m) h k = ap Line (h.0 ∙ sym k.0)
same_fault limits text rs begun rest e (Line n) (Range m) h k = absurd (h.2 k.2 k.3)
same_fault limits text rs begun rest e (Line n) Truncated h k = absurd (let bad : 10 ∷ h.1.0 ≡ [] = sym h.1.1 ∙ k.0 in cc)
same_fault limits text rs begun rest e (Line n) Read h k = absurd (let bad : 10 ∷ h.1.0 ≡ [] = sym h.1.1 ∙ k.0 in cc)
same_fault limits text rs begun rest e (Line n) (TooLong m) h k = absurd (ends_not_past text begun rest h.1 k.1)
same_fault limits text rs begun rest e (Range n) (Line m) h k = absurd (k.2 h.2 h.3)
same_fault limits text rs begun rest e (Range n) (Range m) h k = ap Range (h.0 ∙ sym k.0)
same_fault limits text rs begun rest e (Range n) Truncated h k = absurd (let bad : 10 ∷ h.1.0 ≡ [] = sym h.1.1 ∙ k.0 in cc)
same_fault limits text rs begun rest e (Range n) Read h k = absurd (let bad : 10 ∷ h.1.0 ≡ [] = sym h.1.1 ∙ k.0 in cc)
same_fault limits text rs begun rest e (Range n) (TooLong m) h k = absurd (ends_not_past text begun rest h.1 k.1)
same_fault limits text rs begun rest e Truncated (Line m) h k = absurd (let bad : 10 ∷ k.1.0 ≡ [] = sym k.1.1 ∙ h.0 in cc)
same_fault limits text rs begun rest e Truncated (Range m) h k = absurd (let bad : 10 ∷ k.1.0 ≡ [] = sym k.1.1 ∙ h.0 in cc)
same_fault limits text rs begun rest e Truncated Truncated h k = refl
same_fault limits text rs begun rest e Truncated Read h k = absurd (let bad : at_end ≡ broken_off = sym h.2 ∙ k.1 in cc)
same_fault limits text rs begun rest e Truncated (TooLong m) h k = absurd (let bad : k.1.0 ∷ k.1.1 ≡ [] = sym k.1.2 ∙ h.0 in cc)
same_fault limits text rs begun rest e Read (Line m) h k = absurd (let bad : 10 ∷ k.1.0 ≡ [] = sym k.1.1 ∙ h.0 in cc)
same_fault limits text rs begun rest e Read (Range m) h k = absurd (let bad : 10 ∷ k.1.0 ≡ [] = sym k.1.1 ∙ h.0 in cc)
same_fault limits text rs begun rest e Read Truncated h k = absurd (let bad : broken_off ≡ at_end = sym h.1 ∙ k.2 in cc)
same_fault limits text rs begun rest e Read Read h k = refl
same_fault limits text rs begun rest e Read (TooLong m) h k = absurd (let bad : k.1.0 ∷ k.1.1 ≡ [] = sym k.1.2 ∙ h.0 in cc)
same_fault limits text rs begun rest e (TooLong n) (Line m) h k = absurd (ends_not_past text begun rest k.1 h.1)
same_fault limits text rs begun rest e (TooLong n) (Range m) h k = absurd (ends_not_past text begun rest k.1 h.1)
same_fault limits text rs begun rest e (TooLong n) Truncated h k = absurd (let bad : h.1.0 ∷ h.1.1 ≡ [] = sym h.1.2 ∙ k.0 in cc)
same_fault limits text rs begun rest e (TooLong n) Read h k = absurd (let bad : h.1.0 ∷ h.1.1 ≡ [] = sym h.1.2 ∙ k.0 in cc)
same_fault limits text rs begun rest e (TooLong n) (TooLong m) h k = ap TooLong (h.0 ∙ sym k.0)
same_fault limits text rs begun rest e Memory g h k = absurd h
same_fault limits text rs begun rest e f Memory h k = absurd k

-- a text that is in order has no fault
no_fault_at_end : (limits : Limits) (text : List ℕ) (rs : List Record) (e : Ending) (fault : TextFault) → e ≡ at_end → FaultThere limits text rs [] [] e fault → ⊥
no_fault_at_end limits text rs e (Line n) is h = let bad : [] ≡ 10 ∷ h.1.0 = h.1.1 in absurd (cc)
no_fault_at_end limits text rs e (Range n) is h = let bad : [] ≡ 10 ∷ h.1.0 = h.1.1 in absurd (cc)
no_fault_at_end limits text rs e Truncated is h = h.1 refl
no_fault_at_end limits text rs e Read is h = let bad : at_end ≡ broken_off = sym is ∙ h.1 in absurd (cc)
no_fault_at_end limits text rs e (TooLong n) is h = let bad : [] ≡ h.1.0 ∷ h.1.1 = h.1.2 in absurd (cc)
no_fault_at_end limits text rs e Memory is h = h

fault_and_text : (limits : Limits) (text : List ℕ) (e : Ending) (rs : List Record) (fault : TextFault) → IsText limits text rs → e ≡ at_end → IsFirstFault limits text e fault → ⊥
fault_and_text limits text e rs fault h is (qs, begun, rest, stands, there) =
    let same = one_place limits text text rs qs [] [] begun rest (place_of_text limits text rs h) (place_of_fault limits text qs begun rest stands (final_of_fault limits text qs begun rest e fault there)) in
    let P : List Record → List ℕ → List ℕ → Type 0 = λ us bs xs. FaultThere limits text us bs xs e fault in
    no_fault_at_end limits text rs e fault is (subst (λ us. P us [] []) (sym same.0) (subst (λ bs. P qs bs []) (sym same.1) (subst (λ xs. P qs begun xs) (sym same.2) there)))

pub one_answer : (limits : Limits) (text : List ℕ) (e : Ending) (a b : Result (List Record) TextFault) → IsTextAnswer limits text e a → IsTextAnswer limits text e b → a ≡ b
one_answer limits text e (Ok rs) (Ok qs) h k = ap Ok (one_place limits text text rs qs [] [] [] [] (place_of_text limits text rs h.0) (place_of_text limits text qs k.0)).0
one_answer limits text e (Ok rs) (Err g) h k = absurd (fault_and_text limits text e rs g h.0 h.1 k)
one_answer limits text e (Err f) (Ok qs) h k = absurd (fault_and_text limits text e qs f k.0 k.1 h)
one_answer limits text e (Err f) (Err g) (rs, begun, rest, stands, there) (qs, cegun, sest, stood, here) =
    let same = one_place limits text text rs qs begun rest cegun sest (place_of_fault limits text rs begun rest stands (final_of_fault limits text rs begun rest e f there)) (place_of_fault limits text qs cegun sest stood (final_of_fault limits text qs cegun sest e g here)) in
    let P : List Record → List ℕ → List ℕ → Type 0 = λ us bs xs. FaultThere limits text us bs xs e g in
    ap Err (same_fault limits text rs begun rest e f g there (subst (λ us. P us begun rest) (sym same.0) (subst (λ bs. P qs bs rest) (sym same.1) (subst (λ xs. P qs cegun xs) (sym same.2) here))))

-- ---- what comes after a fault changes nothing
stands_more : (limits : Limits) (text : List ℕ) (rs : List Record) (begun rest more : List ℕ) → Stands limits text rs begun rest → Stands limits (text ++ more) rs begun (rest ++ more)
stands_more limits text rs begun rest more h = record {
  front = h.front;
  parts = ap (λ z. z ++ more) h.parts ∙ (append_assoc h.front (begun ++ rest) more ∙ ap (λ z. h.front ++ z) (append_assoc begun rest more));
  lines = h.lines;
  within = h.within;
  one_line = h.one_line;
  short_line = h.short_line;
  short_text = omega (arith, h.short_text, length-append text more, length-append rest more);
}

ends_line_more : (text rest more : List ℕ) → EndsLine text rest → EndsLine (text ++ more) (rest ++ more)
ends_line_more text rest more h = (h.0 ++ more, ap (λ z. z ++ more) h.1, omega (arith, h.2, length-append text more, length-append rest more))

goes_past_more : (text begun rest more : List ℕ) → GoesPast text begun rest → GoesPast (text ++ more) begun (rest ++ more)
goes_past_more text begun rest more (next, others, is, inl full) = (next, others ++ more, ap (λ z. z ++ more) is, inl (omega (arith, full, length-append text more, length-append rest more)))
goes_past_more text begun rest more (next, others, is, inr long) = (next, others ++ more, ap (λ z. z ++ more) is, inr long)

fault_there_more : (limits : Limits) (text : List ℕ) (rs : List Record) (begun rest more : List ℕ) (e : Ending) (fault : TextFault) → FaultThere limits text rs begun rest going_on fault → FaultThere limits (text ++ more) rs begun (rest ++ more) e fault
fault_there_more limits text rs begun rest more e (Line n) h = (h.0, ends_line_more text rest more h.1, h.2)
fault_there_more limits text rs begun rest more e (Range n) h = (h.0, ends_line_more text rest more h.1, h.2, h.3, h.4)
fault_there_more limits text rs begun rest more e Truncated h = absurd (let bad : going_on ≡ at_end = h.2 in cc)
fault_there_more limits text rs begun rest more e Read h = absurd (let bad : going_on ≡ broken_off = h.1 in cc)
fault_there_more limits text rs begun rest more e (TooLong n) h = (h.0, goes_past_more text begun rest more h.1)
fault_there_more limits text rs begun rest more e Memory h = absurd h

pub fault_stays : (limits : Limits) (text more : List ℕ) (e : Ending) (fault : TextFault) → IsFirstFault limits text going_on fault → IsFirstFault limits (text ++ more) e fault
fault_stays limits text more e fault (rs, begun, rest, stands, there) = (rs, begun, rest ++ more, stands_more limits text rs begun rest more stands, fault_there_more limits text rs begun rest more e fault there)
