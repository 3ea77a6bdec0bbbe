-- What a bus's margin says by its first line: it says 'proved' only if the tests were passed.
use Rattle.std.proofs.Common.{◌≡◌, ◌∙◌, ◌⊎◌, inl, inr, refl, sym, ap, ℕ, List, ◌++◌, get_or, Bool, true, false, Option, Some, None, codes, append_assoc, arith}
use Rattle.std.proofs.lemmas.List.{append_cancel_left}
use Rattle.wl_plan.specs.declared.plan.Plan.{Plan}
use Rattle.wl_setup.specs.declared.bus.Deviation.{Deviation}
use Rattle.wl_bound.specs.Conditions.{first_failure_of, plain}
use Rattle.wl_bound.specs.Families.{Buses, member_at}
use Rattle.wl_bound.specs.declared.condition.Senders.TheVariants.{Any, One}
use Rattle.wl_bound.specs.declared.verdict.Outside.{Outside}
use Rattle.wl_bound.specs.declared.verdict.Outside.TheVariants.{FewNodes, NoFrames, ListenerSends, NobodyAcknowledges, NotByTheBook, SameIdentifier, NobodyIdle}
use Rattle.wl_bound.specs.declared.verdict.Verdict.{Verdict}
use Rattle.wl_bound.specs.declared.verdict.Verdict.TheVariants.{ForAny, ForOne, DoesNotHold, NoBound}
use Rattle.wl_setup.specs.Names.{name_of}
use Rattle.wl_margin.specs.declared.reasons.Asked.{Asked}
use Rattle.wl_margin.specs.Margins.{IsFamilyText, IsTextAfter, IsTextUnless, IsVerdictText, all_pairs, any_failure, any_lead, any_reason, is_proved, is_proved_for_any, is_proved_for_one, one_lead, one_reason, outside_words, proved_of, results_words, senders_words, verdict_asked, verdict_words}
use Rattle.wl_margin.specs.Noise.{noise_words}
use Rattle.wl_margin.specs.Paces.{first_stray, stray_at}
use Rattle.wl_margin.specs.Reasons.{astray_line}
use Rattle.wl_proved.specs.Words.{IsProvedForAny, IsProvedForOne}

-- a letter of a text
abbrev letter : ℕ → List ℕ → ℕ
letter n text = get_or text n 0

-- the words of any senders and of one begin with an h; those of each other line do not
abbrev pub Holds : List ℕ → Type 0
Holds text = letter 0 text ≡ 104

outside_lacks : (names : List (List ℕ)) (cause : Outside) (text : List ℕ) → text ≡ outside_words names cause → Holds text → ⊥
outside_lacks names FewNodes text is holds = (let d : letter 0 text ≡ 100 = ap (letter 0) is in absurd (omega arith))
outside_lacks names NoFrames text is holds = (let d : letter 0 text ≡ 110 = ap (letter 0) is in absurd (omega arith))
outside_lacks names (ListenerSends i) text is holds = (let d : letter 0 text ≡ 100 = ap (letter 0) is in absurd (omega arith))
outside_lacks names (NobodyAcknowledges i) text is holds = (let d : letter 0 text ≡ 100 = ap (letter 0) is in absurd (omega arith))
outside_lacks names (NotByTheBook i) text is holds = (let d : letter 0 text ≡ 110 = ap (letter 0) is in absurd (omega arith))
outside_lacks names (SameIdentifier i j) text is holds = (let d : letter 0 text ≡ 100 = ap (letter 0) is in absurd (omega arith))
outside_lacks names (NobodyIdle i) text is holds = (let d : letter 0 text ≡ 100 = ap (letter 0) is in absurd (omega arith))

-- what follows the same words
module _ (front : List ℕ) where
  grouped : (one r p s : List ℕ) → front ++ one ++ r ++ p ++ s ≡ front ++ (one ++ (r ++ (p ++ s)))
  grouped one r p s = append_assoc (front ++ one ++ r) p s ∙ append_assoc (front ++ one) r (p ++ s) ∙ append_assoc front one (r ++ (p ++ s))

  after_front : (one r p s other rest : List ℕ) → front ++ one ++ r ++ p ++ s ≡ front ++ other ++ rest → one ++ (r ++ (p ++ s)) ≡ other ++ rest
  after_front one r p s other rest is = append_cancel_left front (one ++ (r ++ (p ++ s))) (other ++ rest) (sym (grouped one r p s) ∙ is ∙ append_assoc front other rest)

abbrev any_front : List ℕ → List ℕ
any_front who = codes "holds for any senders of " ++ who

abbrev one_front : List ℕ → List ℕ
one_front who = codes "holds for one sender at a time of " ++ who

abbrev proved_any : List ℕ
proved_any = codes ", proved: any_senders_are_clean\n"

abbrev searched_one : List ℕ
searched_one = codes ", as far as searched; for one sender at a time, proved: one_sender_is_clean\n"

abbrev searched : List ℕ
searched = codes ", as far as searched, not proved\n"

abbrev proved_one : List ℕ
proved_one = codes ", proved: one_sender_is_clean\n"

any_flag : (a o x : Bool) (who r p s rest : List ℕ) → any_lead who (record { any = a; one = o }) ++ r ++ p ++ s ≡ any_lead who (record { any = true; one = x }) ++ rest → a ≡ true
any_flag true o x who r p s rest is = refl
any_flag false true x who r p s rest is =
    (let e : letter 2 searched_one ≡ letter 2 proved_any = ap (letter 2) (after_front (any_front who) searched_one r p s proved_any rest is) in absurd (omega arith))
any_flag false false x who r p s rest is =
    (let e : letter 2 searched ≡ letter 2 proved_any = ap (letter 2) (after_front (any_front who) searched r p s proved_any rest is) in absurd (omega arith))

one_flag : (a o : Bool) (who r p s rest : List ℕ) → any_lead who (record { any = a; one = o }) ++ r ++ p ++ s ≡ any_lead who (record { any = false; one = true }) ++ rest → o ≡ true
one_flag true o who r p s rest is =
    (let e : letter 2 proved_any ≡ letter 2 searched_one = ap (letter 2) (after_front (any_front who) proved_any r p s searched_one rest is) in absurd (omega arith))
one_flag false true who r p s rest is = refl
one_flag false false who r p s rest is =
    (let e : letter 20 searched ≡ letter 20 searched_one = ap (letter 20) (after_front (any_front who) searched r p s searched_one rest is) in absurd (omega arith))

alone_flag : (b : Bool) (who r p s rest : List ℕ) → one_lead who b ++ r ++ p ++ s ≡ one_lead who true ++ rest → b ≡ true
alone_flag true who r p s rest is = refl
alone_flag false who r p s rest is =
    (let e : letter 2 searched ≡ letter 2 proved_one = ap (letter 2) (after_front (one_front who) searched r p s proved_one rest is) in absurd (omega arith))

-- the words of any senders and of one differ at their eleventh letter
mixed : (text : List ℕ) → letter 10 text ≡ 97 → letter 10 text ≡ 111 → ⊥
mixed text any one = absurd (omega arith)

module _ (asked : Asked) (tick : ℕ) (deviations : List Deviation) (plan : Plan) (names : List (List ℕ)) (f : Buses) where
  abbrev who : List ℕ
  who = senders_words f names

  abbrev a : Bool
  a = is_proved_for_any asked deviations plan f

  abbrev o : Bool
  o = is_proved_for_one asked deviations plan f

  module _ (text : List ℕ) where
    abbrev IsAfter : Bool → Verdict → Type 0
    IsAfter b v = IsTextAfter b v (verdict_words asked tick deviations plan names f v) (noise_words tick f names v) f text

    any_said : (b : Bool) (v : Verdict) → IsAfter b v → IsProvedForAny f names text → (v ≡ ForAny) × (a ≡ true)
    any_said b ForAny is said =
        (refl, any_flag a o said.0 who (any_reason asked tick deviations plan names f) (all_pairs tick f names Any) (results_words is.0 ++ noise_words tick f names ForAny) said.1 (sym is.2 ∙ said.2))
    any_said b ForOne is said = absurd (mixed text (ap (letter 10) said.2) (ap (letter 10) is.2))
    any_said b (DoesNotHold failure) is said =
        (let h : letter 0 text ≡ 104 = ap (letter 0) said.2 in let d : letter 0 text ≡ 100 = ap (letter 0) is.2 in absurd (omega arith))
    any_said b (NoBound cause) is said = absurd (outside_lacks names cause text is (ap (letter 0) said.2))

    one_said : (b : Bool) (v : Verdict) → IsAfter b v → IsProvedForOne f names text → ((v ≡ ForAny) ⊎ (v ≡ ForOne)) × (o ≡ true)
    one_said b ForAny is (rest, inl said) =
        (inl refl, one_flag a o who (any_reason asked tick deviations plan names f) (all_pairs tick f names Any) (results_words is.0 ++ noise_words tick f names ForAny) rest (sym is.2 ∙ said))
    one_said b ForAny is (rest, inr said) = absurd (mixed text (ap (letter 10) is.2) (ap (letter 10) said))
    one_said b ForOne is (rest, inl said) = absurd (mixed text (ap (letter 10) said) (ap (letter 10) is.2))
    one_said b ForOne is (rest, inr said) = (
      inr refl,
      alone_flag o who (one_reason asked tick deviations plan names f) (any_failure tick f names (first_failure_of f plain Any)) (all_pairs tick f names One ++ (results_words is.0 ++ noise_words tick f names ForOne)) rest
          (sym (append_assoc (one_lead who o ++ one_reason asked tick deviations plan names f ++ any_failure tick f names (first_failure_of f plain Any)) (all_pairs tick f names One) (results_words is.0 ++ noise_words tick f names ForOne))
          ∙ sym is.2 ∙ said),
    )
    one_said b (DoesNotHold failure) is (rest, inl said) =
        (let h : letter 0 text ≡ 104 = ap (letter 0) said in let d : letter 0 text ≡ 100 = ap (letter 0) is.2 in absurd (omega arith))
    one_said b (DoesNotHold failure) is (rest, inr said) =
        (let h : letter 0 text ≡ 104 = ap (letter 0) said in let d : letter 0 text ≡ 100 = ap (letter 0) is.2 in absurd (omega arith))
    one_said b (NoBound cause) is (rest, inl said) = absurd (outside_lacks names cause text is (ap (letter 0) said))
    one_said b (NoBound cause) is (rest, inr said) = absurd (outside_lacks names cause text is (ap (letter 0) said))

    -- of a plan in which a clock leaves its tolerance nothing of this is said
    within : (s : Option ℕ) → IsTextUnless asked tick deviations plan names f s text → Holds text → (s ≡ None) × IsVerdictText asked tick deviations plan names f text
    within None is holds = (refl, is)
    within (Some i) is holds =
        elim (stray_at deviations plan f i) as (λ stray. text ≡ astray_line (name_of names i) (member_at f i).oscillator stray → (Some i ≡ None) × IsVerdictText asked tick deviations plan names f text) [
          | None ↦ λ e. (let d : letter 0 text ≡ 0 = ap (letter 0) e in absurd (omega arith))
          | Some stray ↦ λ e. (let d : letter 0 text ≡ 100 = ap (letter 0) e in absurd (omega arith))
        ] is

    one_holds : IsProvedForOne f names text → Holds text
    one_holds (rest, inl said) = ap (letter 0) said
    one_holds (rest, inr said) = ap (letter 0) said

    pub any_tested : IsFamilyText asked tick deviations plan names f text → IsProvedForAny f names text
        → (first_stray deviations plan f ≡ None) × (verdict_asked asked plan f ≡ ForAny) × (a ≡ true)
    any_tested is said = let x = within (first_stray deviations plan f) is (ap (letter 0) said.2) in let y = any_said (is_proved (proved_of asked deviations plan f) (verdict_asked asked plan f)) (verdict_asked asked plan f) x.1 said in (x.0, y.0, y.1)

    pub one_tested : IsFamilyText asked tick deviations plan names f text → IsProvedForOne f names text
        → (first_stray deviations plan f ≡ None) × ((verdict_asked asked plan f ≡ ForAny) ⊎ (verdict_asked asked plan f ≡ ForOne)) × (o ≡ true)
    one_tested is said = let x = within (first_stray deviations plan f) is (one_holds said) in let y = one_said (is_proved (proved_of asked deviations plan f) (verdict_asked asked plan f)) (verdict_asked asked plan f) x.1 said in (x.0, y.0, y.1)
