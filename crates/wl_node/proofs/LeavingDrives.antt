-- A node that leaves the bus keeps what it promises, and changes its drive few times.
use Rattle.std.proofs.Common.{◌≡◌, ◌∙◌, ℕ, suc, ◌+◌, ◌-◌, ◌*◌, ◌/◌, ◌<◌, ◌≤◌, Bool, true, false, cond, not, List, [], ◌∷◌, ◌++◌, length, replicate, Option, Some, None, ◌⊎◌, inl, inr, refl, sym, ap, subst, arith, length-append}
use Rattle.std.proofs.Math.Nat.{mul-le-mul_left}
use Rattle.std.proofs.lemmas.Bool.{cases_lt, ltb-true, ltb-false}
use Rattle.std.proofs.lemmas.List.{length-drop, length-replicate}
use Rattle.wl_level.specs.declared.Level.{Level}
use Rattle.wl_level.specs.declared.Level.TheVariants.{Dominant, Recessive}
use Rattle.wl_level.specs.Levels.{is_dominant, same}
use Rattle.wl_level.proofs.Callers.{length_more, recessive_from}
use Rattle.wl_segments.specs.Lengths.{AreLengths, least_way}
use Rattle.wl_sync.specs.SampleLaws.{SampleLaws}
use Rattle.wl_machine.specs.Judged.{stretch_of}
use Rattle.wl_machine.specs.RecessiveStay.{rest_of}
use Rattle.wl_node.specs.declared.setup.NodeSetup.{NodeSetup}
use Rattle.wl_node.specs.History.{staying_history, history_of, has_left, levels_away}
use Rattle.wl_node.specs.Laws.{StayingLaws}
use Rattle.wl_node.specs.Limits.{most_quiet, most_run_quanta}
use Rattle.wl_node.specs.Quiet.{changes_of, quiet_at, quiet_before, quiet_of, quiet_up_to}
use Rattle.wl_node.specs.Stays.{stay_at, stay_by, stay_of}
use Rattle.wl_node.proofs.Changes.{CountsBelow, Spare, by_parts, changes_by, changes_next, one_if, spare, staying_few, left_less, none_more}
use Rattle.wl_node.proofs.Drives.{grown}
use Rattle.wl_node.proofs.Leaving.{AreThere, all_of, away_drive, history_there, stays_on}

abbrev drive_of : NodeSetup → List Level → Level
drive_of setup levels = (history_of setup levels).drive

abbrev staying_drive : NodeSetup → List Level → Level
staying_drive setup levels = (staying_history setup levels).drive

drive_there : (setup : NodeSetup) (levels : List Level) → AreThere setup.until levels → drive_of setup levels ≡ staying_drive setup levels
drive_there setup levels at = ap (λ h. h.drive) (history_there setup levels at.there at.away)

-- a promise of a node that leaves is no longer than one of a node that stays
up_to_less : (left quiet : ℕ) (d : Level) → quiet_up_to left d quiet ≤ quiet
up_to_less left quiet Dominant = omega arith
up_to_less left quiet Recessive = omega arith

-- after it has left it drives recessive
away : (setup : NodeSetup) (n : ℕ) (levels : List Level) → setup.until ≡ Some n → n < length levels → drive_of setup levels ≡ Recessive
away setup n levels e more =
    away_drive setup levels
    (let l = length-drop n levels in
    let same_away : length (levels_away setup.until levels) ≡ length (levels_away (Some n) levels) = ap (λ u. length (levels_away u levels)) e in
    omega (arith, l, more, same_away))

there : (setup : NodeSetup) (n : ℕ) (levels : List Level) → setup.until ≡ Some n → length levels ≤ n → drive_of setup levels ≡ staying_drive setup levels
there setup n levels e few = drive_there setup levels (subst (λ u. AreThere u levels) (sym e) (all_of n levels few))

module _ (laws : StayingLaws) (setup : NodeSetup) where
  -- the same level as before, if it is there before and after, or drives recessive
  kept : (n : ℕ) (levels more : List Level) → setup.until ≡ Some n → length levels ≤ n
      → (length (levels ++ more) ≤ n → staying_drive setup (levels ++ more) ≡ staying_drive setup levels)
      → (n < length (levels ++ more) → staying_drive setup levels ≡ Recessive) → drive_of setup (levels ++ more) ≡ drive_of setup levels
  kept n levels more e few on off = elim (cases_lt n (length (levels ++ more))) [
    | inl past ↦ away setup n (levels ++ more) e past ∙ (sym (off past) ∙ sym (there setup n levels e few))
    | inr within ↦ there setup n (levels ++ more) e within ∙ (on within ∙ sym (there setup n levels e few))
  ]

  gone : (n : ℕ) (levels more : List Level) → setup.until ≡ Some n → n < length levels → drive_of setup (levels ++ more) ≡ drive_of setup levels
  gone n levels more e past = away setup n (levels ++ more) e (let l = length-append levels more in omega (arith, l, past)) ∙ sym (away setup n levels e past)

  quiet_kept : (n : ℕ) (levels more : List Level) → setup.until ≡ Some n → length levels ≤ n
      → (d : Level) → staying_drive setup levels ≡ d → length more ≤ quiet_up_to (n - length levels) d (quiet_at setup (staying_history setup levels))
      → drive_of setup (levels ++ more) ≡ drive_of setup levels
  quiet_kept n levels more e few d f less =
      kept n levels more e few
      (λ within. laws.quiet setup levels more (let u = up_to_less (n - length levels) (quiet_at setup (staying_history setup levels)) d in omega (arith, u, less)))
      (λ past. f ∙ by d less past)
    where
      by : (d : Level) → length more ≤ quiet_up_to (n - length levels) d (quiet_at setup (staying_history setup levels)) → n < length (levels ++ more) → d ≡ Recessive
      by Recessive less past = refl
      by Dominant less past = absurd (let l = length-append levels more in omega (arith, l, less, past, few))

  quiet_by : (until : Option ℕ) → setup.until ≡ until → (levels more : List Level) → (b : Bool) → has_left until levels ≡ b
      → length more ≤ cond b most_quiet (quiet_before until setup levels) → drive_of setup (levels ++ more) ≡ drive_of setup levels
  quiet_by None e levels more true f less = cc
  quiet_by None e levels more false f less =
      ap (λ h. h.drive) (stays_on setup (levels ++ more) e) ∙ (laws.quiet setup levels more less ∙ sym (ap (λ h. h.drive) (stays_on setup levels e)))
  quiet_by (Some n) e levels more true f less = gone n levels more e (ltb-true n (length levels) f)
  quiet_by (Some n) e levels more false f less = quiet_kept n levels more e (ltb-false n (length levels) f) (staying_drive setup levels) refl less

  pub quiet : (levels more : List Level) → length more ≤ quiet_of setup levels → drive_of setup (levels ++ more) ≡ drive_of setup levels
  unfolding quiet_of
  quiet levels more less = quiet_by setup.until refl levels more (has_left setup.until levels) refl less

  stays_kept : (n : ℕ) (levels : List Level) (m : ℕ) → setup.until ≡ Some n → length levels ≤ n → m ≤ stay_at setup (staying_history setup levels)
      → drive_of setup (levels ++ replicate m Recessive) ≡ drive_of setup levels
  stays_kept n levels m e few less =
      kept n levels (replicate m Recessive) e few (λ within. laws.stays setup levels m less) (λ past. by (is_dominant (staying_drive setup levels)) refl less past)
    where
      by : (b : Bool) → is_dominant (staying_drive setup levels) ≡ b → m ≤ stay_at setup (staying_history setup levels) → n < length (levels ++ replicate m Recessive) → staying_drive setup levels ≡ Recessive
      by false f less past = recessive_from (staying_drive setup levels) f
      by true f less past = absurd (
          let none : stay_at setup (staying_history setup levels) ≡ 0 = ap (λ b. cond b 0 (stay_by (rest_of (stretch_of (staying_history setup levels).inputs)) setup (staying_history setup levels))) f in
          let l = length-append levels (replicate m Recessive) in
          let r = length-replicate m Recessive in
          omega (arith, none, l, r, less, past, few))

  stays_by : (until : Option ℕ) → setup.until ≡ until → (levels : List Level) (m : ℕ) → (b : Bool) → has_left until levels ≡ b
      → m ≤ cond b most_run_quanta (stay_at setup (staying_history setup levels)) → drive_of setup (levels ++ replicate m Recessive) ≡ drive_of setup levels
  stays_by None e levels m true f less = cc
  stays_by None e levels m false f less =
      ap (λ h. h.drive) (stays_on setup (levels ++ replicate m Recessive) e) ∙ (laws.stays setup levels m less ∙ sym (ap (λ h. h.drive) (stays_on setup levels e)))
  stays_by (Some n) e levels m true f less = gone n levels (replicate m Recessive) e (ltb-true n (length levels) f)
  stays_by (Some n) e levels m false f less = stays_kept n levels m e (ltb-false n (length levels) f) less

  pub stays : (levels : List Level) (m : ℕ) → m ≤ stay_of setup levels → drive_of setup (levels ++ replicate m Recessive) ≡ drive_of setup levels
  unfolding stay_of
  stays levels m less = stays_by setup.until refl levels m (has_left setup.until levels) refl less

most_by : (setup : NodeSetup) (levels : List Level) (until : Option ℕ) (b : Bool) → cond b most_quiet (quiet_before until setup levels) ≤ most_quiet
most_by setup levels until true = omega arith
most_by setup levels None false = omega arith
most_by setup levels (Some n) false =
    (let u = up_to_less (n - length levels) (quiet_at setup (staying_history setup levels)) (staying_drive setup levels) in omega (arith, u))

pub most : (setup : NodeSetup) (levels : List Level) → quiet_of setup levels ≤ most_quiet
unfolding quiet_of
most setup levels = most_by setup levels setup.until (has_left setup.until levels)

module _ (counts : CountsBelow) (ways : SampleLaws) (setup : NodeSetup) where
  abbrev wide : ℕ
  wide = suc (least_way setup.segments)

  -- of one that never leaves
  few_staying : setup.until ≡ None → (levels : List Level) → changes_of setup levels ≤ length levels / wide + 1
  few_staying e levels =
      subst (λ n. n ≤ length levels / wide + 1) (λ i. changes_by (λ ls. (sym (stays_on setup ls e) i).drive) levels) (staying_few counts ways setup levels)

  -- of one that leaves: up to then as many, and then one more if it drives dominant
  module _ (n : ℕ) (e : setup.until ≡ Some n) (lengths : AreLengths setup.segments) where
    record Are (levels : List Level) : Type 0 where
      before : length levels ≤ n → changes_of setup levels ≡ changes_by (staying_drive setup) levels
      after : n < length levels → changes_of setup levels * wide ≤ length levels + wide

    one_more : (d x : Level) → one_if (not (same d x)) ≤ 1
    one_more d x = by (not (same d x))
      where
        by : (b : Bool) → one_if b ≤ 1
        by true = omega arith
        by false = omega arith

    at_leaving : (levels : List Level) (x : Level) → length levels ≤ n → n < length (levels ++ x ∷ []) → changes_of setup levels ≡ changes_by (staying_drive setup) levels
        → Spare counts ways setup lengths levels → changes_of setup (levels ++ x ∷ []) * wide ≤ length (levels ++ x ∷ []) + wide
    at_leaving levels x few past same_changes (inl (d, none)) =
        let next = changes_next counts (drive_of setup) levels x in
        let still : one_if (not (same (drive_of setup levels) (drive_of setup (levels ++ x ∷ [])))) ≡ 0 =
        none_more (drive_of setup levels) (drive_of setup (levels ++ x ∷ [])) (there setup n levels e few ∙ (d ∙ sym (away setup n (levels ++ x ∷ []) e past))) in
        let all : changes_of setup (levels ++ x ∷ []) ≡ 0 = omega (arith, next, still, same_changes, none) in
        subst (λ c. c * wide ≤ length (levels ++ x ∷ []) + wide) (sym all) (omega arith)
    at_leaving levels x few past same_changes (inr q) =
        let next = changes_next counts (drive_of setup) levels x in
        let once = one_more (drive_of setup levels) (drive_of setup (levels ++ x ∷ [])) in
        let less : changes_of setup (levels ++ x ∷ []) ≤ suc (changes_by (staying_drive setup) levels) = omega (arith, next, once, same_changes) in
        let most : wide * changes_of setup (levels ++ x ∷ []) ≤ wide * suc (changes_by (staying_drive setup) levels) = mul-le-mul_left wide less in
        let l = left_less counts ways setup levels in
        let long = length_more levels x in
        omega (arith, most, q, l, long)

    are_next : (levels : List Level) (x : Level) → Are levels → Are (levels ++ x ∷ [])
    are_next levels x are = record {
      before = λ within.
          (let long = length_more levels x in
          let few : length levels ≤ n = omega (arith, long, within) in
          changes_next counts (drive_of setup) levels x
          ∙ (ap (λ c. c + one_if (not (same (drive_of setup levels) (drive_of setup (levels ++ x ∷ []))))) (are.before few)
          ∙ (ap (λ d. changes_by (staying_drive setup) levels + one_if (not (same d (drive_of setup (levels ++ x ∷ []))))) (there setup n levels e few)
          ∙ (ap (λ d. changes_by (staying_drive setup) levels + one_if (not (same (staying_drive setup levels) d))) (there setup n (levels ++ x ∷ []) e within)
          ∙ sym (changes_next counts (staying_drive setup) levels x)))));
      after = λ past. elim (cases_lt n (length levels)) [
        | inl gone ↦
            (let next = changes_next counts (drive_of setup) levels x in
            let still = none_more (drive_of setup levels) (drive_of setup (levels ++ x ∷ [])) (away setup n levels e gone ∙ sym (away setup n (levels ++ x ∷ []) e past)) in
            let all : changes_of setup (levels ++ x ∷ []) ≡ changes_of setup levels = omega (arith, next, still) in
            let long = length_more levels x in
            let was = are.after gone in
            subst (λ c. c * wide ≤ length (levels ++ x ∷ []) + wide) (sym all) (omega (arith, was, long)))
        | inr few ↦ at_leaving levels x few past (are.before few) (spare counts ways setup lengths levels)
      ];
    }

    are : (levels : List Level) → Are levels
    are = grown Are (record { before = λ within. refl; after = λ past. absurd (omega (arith, past)) }) are_next

    few_leaving : (levels : List Level) → changes_of setup levels ≤ length levels / wide + 1
    few_leaving levels = elim (cases_lt n (length levels)) [
      | inl past ↦ by_parts counts ways setup (length levels) (changes_of setup levels) ((are levels).after past)
      | inr within ↦ subst (λ c. c ≤ length levels / wide + 1) (sym ((are levels).before within)) (staying_few counts ways setup levels)
    ]

  pub few_changes : (levels : List Level) → (setup.until ≡ None) ⊎ AreLengths setup.segments → changes_of setup levels ≤ length levels / wide + 1
  few_changes levels (inl none) = few_staying none levels
  few_changes levels (inr lengths) = by setup.until refl
    where
      by : (until : Option ℕ) → setup.until ≡ until → changes_of setup levels ≤ length levels / wide + 1
      by None e = few_staying e levels
      by (Some n) e = few_leaving n e lengths levels
