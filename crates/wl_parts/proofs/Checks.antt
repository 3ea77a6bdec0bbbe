-- The checks of parts, one number after another.
use Rattle.std.proofs.Common.{cond, eqb, ◌≡◌, ◌∙◌, ◌+◌, ◌<◌, ℕ, suc, List, [], ◌∷◌, Bool, Some, None, Result, Ok, Err, nat_lt, sym, ap, arith}
use Rattle.std.specs.Prelude.{slice_get}
use Rattle.std.proofs.lemmas.Bool.{lt-ltb, ne_eqb}
use Rattle.wl_parts.specs.declared.fault.PartsFault.{PartsFault}
use Rattle.wl_parts.specs.declared.fault.PartsFault.TheVariants as fault
use Rattle.wl_parts.specs.declared.found.Findings.{Findings}
use Rattle.wl_parts.specs.declared.part.SweepPart.{SweepPart}
use Rattle.wl_parts.specs.Joined.{all_clean, beside_from, checked_then, copies, found_text, found_together, joined_of, numbers_from}

module _ (k m n : ℕ) (ps : List SweepPart) (more : m ≡ suc n) where
  abbrev tested : ℕ → Result (Unit {0}) PartsFault
  tested c = cond (eqb c 0) (Err (fault.Missing k)) (cond (nat_lt 1 c) (Err (fault.Doubled k)) (numbers_from (k + 1) n ps))

  here : numbers_from k m ps ≡ tested (copies k ps)
  here = ap (λ j. numbers_from k j ps) more

  pub number_missing : copies k ps ≡ 0 → numbers_from k m ps ≡ Err (fault.Missing k)
  number_missing none = here ∙ ap tested none

  pub number_doubled : 1 < copies k ps → numbers_from k m ps ≡ Err (fault.Doubled k)
  number_doubled several =
      here
      ∙ ap (λ b. cond b (Err (fault.Missing k)) (cond (nat_lt 1 (copies k ps)) (Err (fault.Doubled k)) (numbers_from (k + 1) n ps))) (ne_eqb (copies k ps) 0 (λ e. absurd (omega (arith, e))))
      ∙ ap (λ b. cond b (Err (fault.Doubled k)) (numbers_from (k + 1) n ps)) (lt-ltb 1 (copies k ps) several)

  pub number_here : copies k ps ≡ 1 → numbers_from k m ps ≡ numbers_from (k + 1) n ps
  number_here one = here ∙ ap tested one

-- what is answered, by its steps
pub joined_by : (ps : List SweepPart) (first : SweepPart) (found : Findings) (text : List ℕ) (clean : Bool) → slice_get ps 0 ≡ Some first
    → beside_from 1 first ps ≡ Ok tt → numbers_from 1 first.count ps ≡ Ok tt → found ≡ found_together first.count ps
    → text ≡ found_text first.words first.members first.tail found → clean ≡ all_clean found → joined_of ps ≡ Ok (text, clean)
joined_by [] first found text clean is beside numbers together said answer = absurd (let no : None ≡ Some first = is in cc)
joined_by (p ∷ ps) first found text clean is beside numbers together said answer =
    let same : p ≡ first = (let s : Some p ≡ Some first = is in cc) in
    (λ i. checked_then (beside_from 1 (same i) (p ∷ ps)) (checked_then (numbers_from 1 (same i).count (p ∷ ps))
    (Ok (found_text (same i).words (same i).members (same i).tail (found_together (same i).count (p ∷ ps)), all_clean (found_together (same i).count (p ∷ ps))))))
    ∙ (λ i. checked_then (beside i) (checked_then (numbers i) (Ok (found_text first.words first.members first.tail (sym together i), all_clean (sym together i)))))
    ∙ (λ i. Ok (sym said i, sym answer i))
