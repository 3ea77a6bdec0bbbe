-- An answer says 'proved' only if the margin does.
use Rattle.std.proofs.Common.{◌≡◌, ◌∙◌, refl, sym, ap, subst, ℕ, Bool, true, false, List, ◌++◌, append_assoc, if◌then◌else◌, Option, Some, None, unwrap_or}
use Rattle.wl_setup.specs.declared.bus.Bus.{Bus}
use Rattle.wl_bound.specs.Families.{Buses, family_of}
use Rattle.wl_bound.specs.Verdicts.{verdict_of}
use Rattle.wl_bound.specs.declared.condition.Senders.TheVariants.{Any}
use Rattle.wl_bound.specs.declared.verdict.Verdict.{Verdict}
use Rattle.wl_bound.specs.declared.verdict.Verdict.TheVariants.{ForAny, ForOne, DoesNotHold, NoBound}
use Rattle.wl_margin.specs.Margins.{IsTextAfter, IsTextOfPaces, IsTextUnless, IsVerdictText, all_pairs, any_lead, any_reason, is_proved, paces_of, proved_of, results_words, senders_words, verdict_words}
use Rattle.wl_margin.specs.Noise.{noise_words}
use Rattle.wl_margin.specs.Paces.{first_stray}
use Rattle.wl_margin.specs.Standings.{standing_by, standing_of, standing_unless, surety_of}
use Rattle.wl_margin.specs.declared.margin.readers.Standing.{Standing}
use Rattle.wl_margin.specs.declared.margin.readers.Standing.TheVariants.{Astray, AnySenders, OneSender, Fails, Unbound}
use Rattle.wl_margin.specs.declared.margin.readers.Surety.{Surety}
use Rattle.wl_margin.specs.declared.margin.readers.Surety.TheVariants.{ProvedForAny, ProvedForOne, Searched}
use Rattle.wl_margin.specs.declared.reasons.Asked.TheVariants.{ThisPlan}
use Rattle.wl_judge.specs.declared.judgement.RunState.{RunState}
use Rattle.wl_judge.specs.declared.judgement.RunState.TheVariants as run
use Rattle.wl_judge.specs.declared.judgement.Judgement.{Judgement}
use Rattle.wl_judge.specs.declared.judgement.Judgement.TheVariants.{Works, NotInThisRun, NotByCondition, NotKnown}
use Rattle.wl_judge.specs.Answers.{standing_in}
use Rattle.wl_judge.specs.Judgements.{by_any_standing, fails_outside, judgement_of, or_early}
use Rattle.wl_judge.specs.Laws.{BeginsProved, ProvedLaw}

-- what is said of a bus that works
abbrev is_works : Judgement → Bool
is_works (Works s) = true
is_works NotInThisRun = false
is_works NotByCondition = false
is_works NotKnown = false

-- how sure it is
abbrev works_surety : Judgement → Surety
works_surety (Works s) = s
works_surety NotInThisRun = Searched
works_surety NotByCondition = Searched
works_surety NotKnown = Searched

neither : (b : Bool) (s : Surety) → (if b then NotByCondition else NotKnown) ≡ Works s → ⊥
neither true s e = let no : false ≡ true = ap is_works e in cc
neither false s e = let no : false ≡ true = ap is_works e in cc

by_first : (standing : Option Standing) (s : Surety) → by_any_standing standing ≡ Works s → standing ≡ Some (AnySenders s)
by_first None s e = let no : NotKnown ≡ Works s = e in cc
by_first (Some (Astray i)) s e = let no : NotByCondition ≡ Works s = e in cc
by_first (Some (AnySenders r)) s e = ap (λ j. Some (AnySenders (works_surety j))) e
by_first (Some (OneSender r)) s e = let no : NotKnown ≡ Works s = e in cc
by_first (Some (Fails f)) s e = let no : NotByCondition ≡ Works s = e in cc
by_first (Some (Unbound cause)) s e = absurd (neither (fails_outside cause) s e)

never_early : (j : Judgement) (s : Surety) → or_early j ≡ Works s → ⊥
never_early (Works r) s e = let no : NotKnown ≡ Works s = e in cc
never_early NotInThisRun s e = let no : NotInThisRun ≡ Works s = e in cc
never_early NotByCondition s e = let no : NotByCondition ≡ Works s = e in cc
never_early NotKnown s e = let no : NotKnown ≡ Works s = e in cc

-- a bus works only if its run does, and its margin holds for any senders
works_by : (standing : Option Standing) (r : RunState) (s : Surety) → judgement_of standing r ≡ Works s
    → (standing ≡ Some (AnySenders s)) × (r ≡ run.Works)
works_by standing run.Works s e = (by_first standing s e, refl)
works_by standing run.EndsTooEarly s e = absurd (never_early (by_any_standing standing) s e)
works_by standing run.Fails s e = let no : NotInThisRun ≡ Works s = e in cc

sure_any : (any one : Bool) → surety_of any one ≡ ProvedForAny → any ≡ true
sure_any true one e = refl
sure_any false true e = let no : ProvedForOne ≡ ProvedForAny = e in cc
sure_any false false e = let no : Searched ≡ ProvedForAny = e in cc

abbrev surety_in : Standing → Surety
surety_in (Astray i) = Searched
surety_in (AnySenders s) = s
surety_in (OneSender s) = Searched
surety_in (Fails f) = Searched
surety_in (Unbound cause) = Searched

verdict_by : (any one : Bool) (v : Verdict) → standing_by (record { any = any; one = one }) v ≡ AnySenders ProvedForAny → (v ≡ ForAny) × (any ≡ true)
verdict_by any one ForAny e =
    let same : AnySenders (surety_of any one) ≡ AnySenders ProvedForAny = e in
    (refl, sure_any any one (ap surety_in same))
verdict_by any one ForOne e = let no : OneSender (surety_of false one) ≡ AnySenders ProvedForAny = e in cc
verdict_by any one (DoesNotHold failure) e = let no : Fails failure ≡ AnySenders ProvedForAny = e in cc
verdict_by any one (NoBound cause) e = let no : Unbound cause ≡ AnySenders ProvedForAny = e in cc

not_astray : (stray : Option ℕ) (other : Standing) → standing_unless stray other ≡ AnySenders ProvedForAny
    → (stray ≡ None) × (other ≡ AnySenders ProvedForAny)
not_astray None other e = (refl, e)
not_astray (Some i) other e = let no : Astray i ≡ AnySenders ProvedForAny = e in cc

module _ (tick : ℕ) (bus : Bus) (f : Buses) (text : List ℕ) where
  abbrev who : List ℕ
  who = senders_words f bus.names

  -- the words of the first line, if it is proved
  led : (a : Bool) → a ≡ true → any_lead who (record { any = a; one = (proved_of ThisPlan bus.deviations bus.plan f).one }) ≡ any_lead who (record { any = true; one = (proved_of ThisPlan bus.deviations bus.plan f).one })
  led a e = ap (λ b. any_lead who (record { any = b; one = (proved_of ThisPlan bus.deviations bus.plan f).one })) e

  said : (v : Verdict) → v ≡ ForAny → (proved_of ThisPlan bus.deviations bus.plan f).any ≡ true
      → IsTextAfter (is_proved (proved_of ThisPlan bus.deviations bus.plan f) v) v (verdict_words ThisPlan tick bus.deviations bus.plan bus.names f v) (noise_words tick f bus.names v) f text → BeginsProved f bus.names text
  said ForAny e a h =
      let r = any_reason ThisPlan tick bus.deviations bus.plan bus.names f in
      let p = all_pairs tick f bus.names Any in
      let s = results_words h.0 ++ noise_words tick f bus.names ForAny in (
        (proved_of ThisPlan bus.deviations bus.plan f).one,
        r ++ (p ++ s),
        h.2 ∙ append_assoc (any_lead who (proved_of ThisPlan bus.deviations bus.plan f) ++ r) p s ∙ append_assoc (any_lead who (proved_of ThisPlan bus.deviations bus.plan f)) r (p ++ s) ∙ ap (λ w. w ++ (r ++ (p ++ s))) (led (proved_of ThisPlan bus.deviations bus.plan f).any a),
      )
  said ForOne e a h = let no : ForOne ≡ ForAny = e in cc
  said (DoesNotHold failure) e a h = let no : DoesNotHold failure ≡ ForAny = e in cc
  said (NoBound cause) e a h = let no : NoBound cause ≡ ForAny = e in cc

  unless : (stray : Option ℕ) → stray ≡ None → IsTextUnless ThisPlan tick bus.deviations bus.plan bus.names f stray text
      → IsVerdictText ThisPlan tick bus.deviations bus.plan bus.names f text
  unless None e h = h
  unless (Some i) e h = let no : Some i ≡ None = e in cc

  begins : standing_of bus.deviations bus.plan f ≡ AnySenders ProvedForAny
      → IsTextUnless ThisPlan tick bus.deviations bus.plan bus.names f (first_stray bus.deviations bus.plan f) text → BeginsProved f bus.names text
  begins e h =
      let kept = not_astray (first_stray bus.deviations bus.plan f) _ e in
      let held = verdict_by (proved_of ThisPlan bus.deviations bus.plan f).any (proved_of ThisPlan bus.deviations bus.plan f).one (verdict_of bus.plan f) kept.1 in
      said (verdict_of bus.plan f) held.0 held.1 (unless (first_stray bus.deviations bus.plan f) kept.0 h)

pub proved_law : ProvedLaw
proved_law tick bus state paces text are works is =
    let so = works_by (standing_in bus (paces_of bus.deviations)) state ProvedForAny works in
    let own : Some (standing_of bus.deviations bus.plan (family_of bus.plan paces)) ≡ Some (AnySenders ProvedForAny)
    = ap (standing_in bus) (sym are) ∙ so.0 in
    (begins tick bus (family_of bus.plan paces) text (ap (λ o. unwrap_or o (AnySenders ProvedForAny)) own) (subst (λ o. IsTextOfPaces ThisPlan tick bus o text) are is), so.1)
